use Rattle.std.proofs.lemmas.Result.{err_from_is_err_and}
use Rattle.log_sections.specs.Steps.{memory}
use Rattle.log_check.proofs.Laws.{check_refused, check_whole, check_yes, check_wrong}
use Rattle.log_check.proofs.check.Goals as goal

pub returns-in_err-run : goal.returns-in_err-run
returns-in_err-run c = let a = c.args in
    let p = err_from_is_err_and c.from_residual.result c.from_residual.ensures.1 in
    rw (p.1, p.2) (check_refused a.settings a.sections.now a.log.now (memory a.keys.now a.changes.now a.heads.now a.slots.now a.cells.now) c.prepare.ensures c.in_err-run.was)

pub walk-requires : goal.walk-requires
walk-requires c = let a = c.args in
    check_whole a.settings a.sections.now a.log.now (memory a.keys.now a.changes.now a.heads.now a.slots.now a.cells.now) c.prepare.ensures c.in_ok-run.was

pub returns-in_err-walk : goal.returns-in_err-walk
returns-in_err-walk c = let a = c.args in let w = c.walk in
    let p = err_from_is_err_and c.from_residual-in_err-walk.result c.from_residual-in_err-walk.ensures.1 in
    rw (p.1, p.2) (check_wrong a.settings a.sections.now a.log.now (memory a.keys.now a.changes.now a.heads.now a.slots.now a.cells.now) c.prepare.ensures c.in_ok-run.was (memory w.new.keys w.new.changes w.new.heads w.new.slots w.new.cells) w.ensures c.in_err-walk.was)

pub returns : goal.returns
returns c = let a = c.args in let w = c.walk in
    check_yes a.settings a.sections.now a.log.now (memory a.keys.now a.changes.now a.heads.now a.slots.now a.cells.now) c.prepare.ensures c.in_ok-run.was (memory w.new.keys w.new.changes w.new.heads w.new.slots w.new.cells) w.ensures c.in_ok-walk.was
