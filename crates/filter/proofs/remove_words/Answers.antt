use Rattle.filter.proofs.Laws.{words_removed}
use Rattle.filter.proofs.remove_words.Goals as goal

pub returns : goal.returns
returns c = search words_removed
