use Rattle.entry_words.proofs.Laws.{event_read}
use borrow.Author.Rules.{rules}
use Rattle.entry_words.proofs.event_of.Goals as goal

pub returns : goal.returns
returns c = (search event_read, search rules)
