use Rattle.host_gate_words.proofs.Laws.{short_words, mismatch_words}
use Rattle.host_gate_words.proofs.failure_words.Goals as goal

pub returns-in-TooShort : goal.returns-in-TooShort
returns-in-TooShort c = search short_words

pub returns-in-Mismatch : goal.returns-in-Mismatch
returns-in-Mismatch c = search mismatch_words
