use Rattle.host_words.proofs.Laws.{words_are}
use Rattle.host_words.proofs.sections.write_next.Goals as goal

pub returns : goal.returns
returns c = search words_are
