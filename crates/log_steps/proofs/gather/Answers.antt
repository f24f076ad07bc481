use native.Mathlib.Omega.{arith}
use Rattle.sets_settle.specs.Settle.{after_push}
use Rattle.store.specs.Store.{store}
use Rattle.log_steps.proofs.Laws.{gather_refused, gather_arrived, arrived_taken, pushed_ok}
use Rattle.log_steps.proofs.gather.Goals as goal

pub push_whole-requires : goal.push_whole-requires
push_whole-requires c = let a = c.args in let j = c.set_read in let b = c.shared_slice_known-1.given 7 in (c.requires, arrived_taken a.from a.section.now j.result c.in-Ok.entry (omega (arith, b)) j.ensures c.in-Ok.is)

pub returns-in-Err : goal.returns-in-Err
returns-in-Err c = let a = c.args in let j = c.set_read in record { cells_after = gather_refused (store a.sets a.heads.now a.slots.now a.cells.now) a.from a.section.now j.result j.ensures c.in-Err.refusal c.in-Err.is; pushed_ok = tt }

pub returns-in-Ok : goal.returns-in-Ok
returns-in-Ok c = let a = c.args in let j = c.set_read in let d = c.push_whole in let b = c.shared_slice_known-1.given 7 in record { cells_after = gather_arrived (store a.sets a.heads.now a.slots.now a.cells.now) a.from a.section.now j.result j.ensures c.in-Ok.entry (after_push d.result d.new.heads d.new.slots d.new.cells) c.in-Ok.is d.ensures; pushed_ok = pushed_ok a.section.now c.in-Ok.entry d.result.answer (arrived_taken a.from a.section.now j.result c.in-Ok.entry (omega (arith, b)) j.ensures c.in-Ok.is) }
