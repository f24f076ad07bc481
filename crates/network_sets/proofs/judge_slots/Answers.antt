use Rattle.std.proofs.Common.{arith, refl, rules}
use Rattle.network_sets.proofs.Ways.{slot_in, fault_on, fault_stop, fault_end}
use Rattle.network_sets.proofs.judge_slots.Goals as goal

pub loop-j-init : goal.loop-j-init
loop-j-init c = (omega arith, refl)

pub judge_slot-requires : goal.judge_slot-requires
judge_slot-requires c = search slot_in

pub returns-in-Err : goal.returns-in-Err
returns-in-Err c = search fault_stop

pub loop-j-preserved : goal.loop-j-preserved
loop-j-preserved c = (search rules, search fault_on)

pub returns : goal.returns
returns c = search fault_end
