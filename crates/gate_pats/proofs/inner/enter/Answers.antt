use Rattle.gate_pats.proofs.Laws.{enter_ready, entered_yes, entered_no}
use Rattle.gate_pats.proofs.inner.enter.Goals as goal

pub enter-requires : goal.enter-requires
enter-requires c = search enter_ready

pub returns-then-by_tables-is_sound : goal.returns-then-by_tables-is_sound
returns-then-by_tables-is_sound c = search entered_yes

pub returns-else-by_tables-is_sound : goal.returns-else-by_tables-is_sound
returns-else-by_tables-is_sound c = search entered_no
