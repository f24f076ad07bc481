use Rattle.sets_plan.proofs.May.{plan_may}
use Rattle.sets_push.proofs.Ways.{pushed_whole_lem}
use Rattle.store.specs.Store.{store}
use Rattle.sets_settle.specs.Settle.{after_push}
use Rattle.sets_push.proofs.push_whole.Goals as goal

pub carry-requires : goal.carry-requires
carry-requires c = let a = c.args in let p = c.requires in plan_may (store a.sets a.heads.now a.slots.now a.cells.now) p.0 a.e a.bytes.now p.1 c.decide-plan.result c.decide-plan.ensures

pub returns : goal.returns
returns c = let a = c.args in pushed_whole_lem (store a.sets a.heads.now a.slots.now a.cells.now) a.e a.bytes.now c.decide-plan.result (after_push c.carry.result c.carry.new.heads c.carry.new.slots c.carry.new.cells) c.decide-plan.ensures c.carry.ensures
