use Rattle.log_sections.specs.Steps.{memory}
use Rattle.log_write.proofs.Laws.{no_room, is_written}
use Rattle.log_write.proofs.write_open.Goals as goal

pub returns-in-None : goal.returns-in-None
returns-in-None c = let a = c.args in
    no_room a.sections.now a.room.now a.run (memory a.keys.now a.changes.now a.heads.now a.slots.now a.cells.now) c.measure.ensures c.in-None.is

pub returns-in-Some : goal.returns-in-Some
returns-in-Some c = let a = c.args in
    is_written a.sections.now a.room.now a.run (memory a.keys.now a.changes.now a.heads.now a.slots.now a.cells.now) c.measure.ensures c.in-Some.is c.write_all.ensures
