use Rattle.std.proofs.lemmas.Result.{err_from_is_err_and}
use Rattle.log_sections.specs.Steps.{memory}
use Rattle.log_write.specs.Write.{write_as}
use Rattle.log_write.proofs.Laws.{write_refused, write_whole, write_ran}
use Rattle.log_write.proofs.write.Goals as goal

pub returns-in_err-run : goal.returns-in_err-run
returns-in_err-run c = let a = c.args in
    let p = err_from_is_err_and c.from_residual.result c.from_residual.ensures.1 in
    rw (p.1, p.2) (write_refused a.settings a.sections.now a.room.now (memory a.keys.now a.changes.now a.heads.now a.slots.now a.cells.now) c.as_writer-asked.ensures c.prepare.ensures c.in_err-run.was)

pub write_open-requires : goal.write_open-requires
write_open-requires c = let a = c.args in
    write_whole a.settings a.sections.now a.room.now (memory a.keys.now a.changes.now a.heads.now a.slots.now a.cells.now) c.as_writer-asked.ensures c.prepare.ensures c.in_ok-run.was

pub returns : goal.returns
returns c = let a = c.args in let w = c.write_open in
    write_ran a.settings a.sections.now a.room.now (memory a.keys.now a.changes.now a.heads.now a.slots.now a.cells.now) c.as_writer-asked.ensures c.prepare.ensures c.in_ok-run.was
    (write_as w.result w.new.room (memory w.new.keys w.new.changes w.new.heads w.new.slots w.new.cells)) w.ensures
