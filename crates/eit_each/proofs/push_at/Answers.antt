use Rattle.eit.specs.Store.{pushed}
use Rattle.eit_state.specs.State.{store}
use Rattle.eit_each.proofs.Ways.{at_pushed}
use Rattle.eit_each.proofs.push_at.Goals as goal

pub push_ready-requires : goal.push_ready-requires
push_ready-requires c = c.requires.pushable

pub returns : goal.returns
returns c = let a = c.args in let k = c.push_ready in record { units_after = at_pushed (store a.eit a.heads.now a.slots.now a.cells.now a.schedule_heads.now a.units.now) a.list.now a.place (pushed k.result k.new.heads k.new.slots k.new.cells k.new.schedule_heads k.new.units) k.ensures.units_after; pushable_2 = k.ensures.pushable }
