use Rattle.entry_words.proofs.Laws.{plain_told}
use Rattle.entry_words.proofs.plain_words.Goals as goal

pub returns : goal.returns
returns c = search plain_told
