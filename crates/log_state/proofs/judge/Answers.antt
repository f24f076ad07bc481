use Rattle.log_state.proofs.Laws.{ruled_long, ruled_gate, ruled_sets, ruled_full, ruled_read, ruled_ok}
use Rattle.log_state.proofs.judge.Goals as goal

pub returns-then-section-gt4098 : goal.returns-then-section-gt4098
returns-then-section-gt4098 c = record { value = search ruled_long; ruling_ok = tt }

pub returns-then-counters_full : goal.returns-then-counters_full
returns-then-counters_full c = record { value = search ruled_full; ruling_ok = tt }

pub returns-then-is_whole : goal.returns-then-is_whole
returns-then-is_whole c = record { value = search ruled_read; ruling_ok = search ruled_ok }

pub returns-else-is_whole : goal.returns-else-is_whole
returns-else-is_whole c = record { value = search ruled_sets; ruling_ok = tt }

pub returns-else-gate_whole : goal.returns-else-gate_whole
returns-else-gate_whole c = record { value = search ruled_gate; ruling_ok = tt }
