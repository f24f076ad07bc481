use Rattle.host_gate_words.proofs.Laws.{off_in, sections_in_lem, tables_in_lem}
use Rattle.host_gate_words.proofs.follow_in.Goals as goal

pub returns-then-word-eq0 : goal.returns-then-word-eq0
returns-then-word-eq0 c = search off_in

pub returns-then-word-eq2 : goal.returns-then-word-eq2
returns-then-word-eq2 c = search sections_in_lem

pub returns-else-word-eq2 : goal.returns-else-word-eq2
returns-else-word-eq2 c = search tables_in_lem
