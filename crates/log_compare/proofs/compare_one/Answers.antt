use mathlib.Core.Bool.{not}
use mathlib.Core.Path.{ap}
use borrow.Author.Rules.{rules}
use Rattle.std.proofs.lemmas.Result.{err_from_is_err_and}
use Rattle.log_compare.proofs.Laws.{one_missing, one_met, ends, one_differs, one_passes}
use Rattle.log_compare.proofs.compare_one.Goals as goal

pub returns-then-log-place : goal.returns-then-log-place
returns-then-log-place c = search one_missing

pub returns-in_err-end : goal.returns-in_err-end
returns-in_err-end c =
    let p = err_from_is_err_and c.from_residual.result c.from_residual.ensures.1 in
    rw (p.1, p.2) (one_met c.args.log.now c.args.place c.if-log-place.false c.met.ensures c.args.expected.now c.in_err-end.was)

pub slice_bounds-same_bytes-count : goal.slice_bounds-same_bytes-count
slice_bounds-same_bytes-count c = (ends c.args.log.now c.args.place c.if-log-place.false c.met.ensures c.in_ok-end.was).later

pub slice_bounds-same_bytes-start : goal.slice_bounds-same_bytes-start
slice_bounds-same_bytes-start c = let e = ends c.args.log.now c.args.place c.if-log-place.false c.met.ensures c.in_ok-end.was in let l = e.later in search (rules, l)

pub slice_bounds-same_bytes-end : goal.slice_bounds-same_bytes-end
slice_bounds-same_bytes-end c = let e = ends c.args.log.now c.args.place c.if-log-place.false c.met.ensures c.in_ok-end.was in let w = e.within in search (rules, w)

pub returns-then-not-same_bytes : goal.returns-then-not-same_bytes
returns-then-not-same_bytes c = one_differs c.args.log.now c.args.place c.if-log-place.false c.met.ensures c.args.expected.now c.in_ok-end.was c.same_bytes.ensures (ap not c.if-not-same_bytes.true)

pub returns : goal.returns
returns c = one_passes c.args.log.now c.args.place c.if-log-place.false c.met.ensures c.args.expected.now c.in_ok-end.was c.same_bytes.ensures (ap not c.if-not-same_bytes.false)
