use Rattle.host_eit_words.proofs.Laws.{field_free, field_exact}
use Rattle.host_eit_words.proofs.wanted.Goals as goal

pub returns-then-word-eq-FREE : goal.returns-then-word-eq-FREE
returns-then-word-eq-FREE c = search field_free

pub returns-else-word-eq-FREE : goal.returns-else-word-eq-FREE
returns-else-word-eq-FREE c = search field_exact
