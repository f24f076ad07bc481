use Rattle.host_words.proofs.Laws.{words_are}
use Rattle.host_streams.proofs.write_opened.Goals as goal

pub returns : goal.returns
returns c = search words_are
