use Rattle.entry_words.proofs.Laws.{event_told}
use Rattle.entry_words.proofs.event_words.Goals as goal

pub returns : goal.returns
returns c = search event_told
