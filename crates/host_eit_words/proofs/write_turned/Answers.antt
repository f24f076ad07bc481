use Rattle.host_words.proofs.Laws.{words_are}
use Rattle.host_eit_words.proofs.write_turned.Goals as goal

pub returns : goal.returns
returns c = search words_are
