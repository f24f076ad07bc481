use Rattle.eit_carry.proofs.Ways.{whole_may, whole_done}
use Rattle.eit_carry.proofs.push_whole.Goals as goal

pub carry-requires : goal.carry-requires
carry-requires c = let a = c.args in let p = c.requires in whole_may a.eit a.heads.now a.slots.now a.cells.now a.schedule_heads.now a.units.now a.bytes.now a.a c.plan_section-plan.result c.plan_section-plan.ensures p.whole p.numbered p.can_count

pub returns : goal.returns
returns c = search whole_done
