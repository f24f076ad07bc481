use Rattle.host_words.proofs.Laws.{words_are}
use Rattle.host_sets_words.proofs.write_cleared.Goals as goal

pub returns : goal.returns
returns c = search words_are
