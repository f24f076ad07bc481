use Rattle.std.proofs.lemmas.Result.{err_from_is_err_and}
use Rattle.log_compare.proofs.Laws.{none_ends, none_met, none_over}
use Rattle.log_compare.proofs.finish.Goals as goal

pub returns-then-log-place : goal.returns-then-log-place
returns-then-log-place c = search none_ends

pub returns-in_err-met : goal.returns-in_err-met
returns-in_err-met c =
    let p = err_from_is_err_and c.from_residual.result c.from_residual.ensures.1 in
    rw (p.1, p.2) (none_met c.args.log.now c.args.place c.if-log-place.false c.met.ensures c.in_err-met.was)

pub returns : goal.returns
returns c = none_over c.args.log.now c.args.place c.if-log-place.false c.met.ensures c.in_ok-met.was
