use Rattle.entry_words.proofs.Laws.{service_told}
use Rattle.entry_words.proofs.service_words.Goals as goal

pub returns : goal.returns
returns c = search service_told
