use Rattle.std.proofs.lemmas.Result.{err_from_is_err_and}
use Rattle.log_prepare.proofs.Laws.{is_bad, is_whole}
use Rattle.log_prepare.proofs.prepare.Goals as goal

pub returns-in_err-judge : goal.returns-in_err-judge
returns-in_err-judge c =
    let p = err_from_is_err_and c.from_residual.result c.from_residual.ensures.1 in
    rw (p.1, p.2) (is_bad c.args.settings _ _ _ _ _ _ c.judge.ensures c.in_err-judge.was)

pub returns : goal.returns
returns c = is_whole c.args.settings _ _ _ _ _ _ c.judge.ensures c.in_ok-judge.was c.open.ensures c.ready.ensures
