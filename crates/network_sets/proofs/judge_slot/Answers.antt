use Rattle.network_sets.proofs.Ways.{slot_end, fault_filled, fault_empty}
use Rattle.network_sets.proofs.judge_slot.Goals as goal

pub slice_bounds-judge-end : goal.slice_bounds-judge-end
slice_bounds-judge-end c = search slot_end

pub returns-then-is_filled : goal.returns-then-is_filled
returns-then-is_filled c = search fault_filled

pub returns : goal.returns
returns c = search fault_empty
