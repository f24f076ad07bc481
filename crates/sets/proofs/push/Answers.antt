use Rattle.sets.proofs.Admit.{admitted_arrived, pushed_refused, pushed_arrived}
use Rattle.store.specs.Store.{store}
use Rattle.sets_settle.specs.Settle.{after_push}
use Rattle.sets.proofs.push.Goals as goal

pub push_whole-requires : goal.push_whole-requires
push_whole-requires c = let a = c.args in admitted_arrived (store a.sets a.heads.now a.slots.now a.cells.now) a.bytes.now c.admit.result c.in-Ok.entry c.in-Ok.is c.admit.ensures.admitted_ok

pub returns-in-Err : goal.returns-in-Err
returns-in-Err c = let a = c.args in pushed_refused (store a.sets a.heads.now a.slots.now a.cells.now) a.input a.pid a.bytes.now c.admit.result c.admit.ensures.value c.in-Err.refusal c.in-Err.is

pub returns-in-Ok : goal.returns-in-Ok
returns-in-Ok c = let a = c.args in pushed_arrived (store a.sets a.heads.now a.slots.now a.cells.now) a.input a.pid a.bytes.now c.admit.result c.admit.ensures.value c.in-Ok.entry (after_push c.push_whole.result c.push_whole.new.heads c.push_whole.new.slots c.push_whole.new.cells) c.in-Ok.is c.push_whole.ensures
