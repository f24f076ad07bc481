use native.Mathlib.Omega.{arith}
use mathlib.Core.Path.{◌≡◌, refl, ap, ◌∙◌}
use Rattle.std.proofs.Common.{Ok, Some, None}
use Rattle.std.proofs.lemmas.Result.{err_from_is_err_and}
use Rattle.log_list.proofs.Laws.{judged_end, judged_fault, judged_on, stands}
use Rattle.log_list.proofs.judge.Goals as goal

pub loop-p-init : goal.loop-p-init
loop-p-init c = (omega arith, refl)

pub overflow_add-at : goal.overflow_add-at
overflow_add-at c =
    let f : c.read_next.result ≡ Ok (Some c.in-Some.p) = c.in_ok-p.was ∙ ap Ok c.in-Some.is in
    let s = stands c.args.list.now c.loop-p.at c.read_next.ensures f in omega (arith, s.within)

pub loop-p-smaller : goal.loop-p-smaller
loop-p-smaller c =
    let f : c.read_next.result ≡ Ok (Some c.in-Some.p) = c.in_ok-p.was ∙ ap Ok c.in-Some.is in
    let s = stands c.args.list.now c.loop-p.at c.read_next.ensures f in omega (arith, s.within, s.start, s.head)

pub loop-p-preserved : goal.loop-p-preserved
loop-p-preserved c =
    let f : c.read_next.result ≡ Ok (Some c.in-Some.p) = c.in_ok-p.was ∙ ap Ok c.in-Some.is in
    let s = stands c.args.list.now c.loop-p.at c.read_next.ensures f in
    (s.within, judged_on c.args.list.now c.loop-p.at c.read_next.ensures f c.loop-p.invariant.1)

pub returns-in_err-p : goal.returns-in_err-p
returns-in_err-p c =
    let p = err_from_is_err_and c.from_residual.result c.from_residual.ensures.1 in
    rw (p.1, p.2) (judged_fault c.args.list.now c.loop-p.at c.read_next.ensures c.in_err-p.was c.loop-p.invariant.1)

pub returns : goal.returns
returns c =
    let f : c.read_next.result ≡ Ok None = c.in_ok-p.was ∙ ap Ok c.in_default.is in
    judged_end c.args.list.now c.loop-p.at c.read_next.ensures f c.loop-p.invariant.1
