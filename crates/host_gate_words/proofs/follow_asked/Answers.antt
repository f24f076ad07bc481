use Rattle.host_gate_words.proofs.Laws.{asked_off, asked_sections, asked_tables}
use Rattle.host_gate_words.proofs.follow_asked.Goals as goal

pub returns-then-bits-ne1 : goal.returns-then-bits-ne1
returns-then-bits-ne1 c = search asked_off

pub returns-then-bits-eq1 : goal.returns-then-bits-eq1
returns-then-bits-eq1 c = search asked_sections

pub returns-else-bits-eq1 : goal.returns-else-bits-eq1
returns-else-bits-eq1 c = search asked_tables
