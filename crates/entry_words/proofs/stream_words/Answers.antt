use Rattle.entry_words.proofs.Laws.{stream_told}
use Rattle.entry_words.proofs.stream_words.Goals as goal

pub returns : goal.returns
returns c = search stream_told
