use mathlib.Core.Path.{ap, ◌∙◌}
use native.Mathlib.Omega.{arith}
use Rattle.std.proofs.lemmas.Result.{err_from_is_err_and}
use Rattle.rules_logs.specs.Records.{record_size}
use Rattle.log_compare.proofs.Laws.{first_some, first_none, turn_fits, turn_more, turn_laid, turn_stops, turn_on, all_passed}
use Rattle.log_compare.proofs.compare.Goals as goal

pub split_at-requires : goal.split_at-requires
split_at-requires c =
    let x = c.loop-kind.rest.now in
    let f = first_some x c.in-Some.ensures.value in
    turn_fits c.args.log.now x c.loop-kind.invariant.0 f.0 (c.record_size.ensures ∙ ap record_size f.1)

pub returns-in_err-at : goal.returns-in_err-at
returns-in_err-at c =
    let x = c.loop-kind.rest.now in
    let f = first_some x c.in-Some.ensures.value in
    let p = err_from_is_err_and c.from_residual.result c.from_residual.ensures.1 in
    rw (p.1, p.2) (turn_stops c.args.log.now x c.loop-kind.invariant.0 f.0 (c.record_size.ensures ∙ ap record_size f.1) c.loop-kind.at (rw (← c.split_at.ensures.front) c.compare_one.ensures) c.loop-kind.invariant.1 c.in_err-at.was)

pub loop-kind-smaller : goal.loop-kind-smaller
loop-kind-smaller c =
    let x = c.loop-kind.rest.now in
    let f = first_some x c.in-Some.ensures.value in
    let m = turn_more c.args.log.now x c.loop-kind.invariant.0 f.0 (c.record_size.ensures ∙ ap record_size f.1) in
    let b = c.split_at.ensures.back_len in omega (arith, m, b, f.0)

pub loop-kind-preserved : goal.loop-kind-preserved
loop-kind-preserved c =
    let x = c.loop-kind.rest.now in
    let f = first_some x c.in-Some.ensures.value in
    let e = c.record_size.ensures ∙ ap record_size f.1 in
    rw (c.split_at.ensures.back) (
      turn_laid c.args.log.now x c.loop-kind.invariant.0 f.0 e,
      turn_on c.args.log.now x c.loop-kind.invariant.0 f.0 e c.loop-kind.at (rw (← c.split_at.ensures.front) c.compare_one.ensures) c.loop-kind.invariant.1 c.in_ok-at.was,
    )

pub returns : goal.returns
returns c =
    let f = first_none c.loop-kind.rest.now c.in_default.ensures.value in
    all_passed c.args.log.now c.loop-kind.rest.now c.loop-kind.at f c.loop-kind.invariant.1
