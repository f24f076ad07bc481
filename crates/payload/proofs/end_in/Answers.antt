use Rattle.payload.proofs.Laws.{joined_short, joined_cut, joined_there}
use borrow.Author.Rules.{rules}
use Rattle.payload.proofs.end_in.Goals as goal

pub returns-then-there-lt-HEADER_BYTES : goal.returns-then-there-lt-HEADER_BYTES
returns-then-there-lt-HEADER_BYTES c = (search joined_short, search rules)

pub returns-then-there-all : goal.returns-then-there-all
returns-then-there-all c = (search joined_cut, search rules)

pub returns : goal.returns
returns c = (search joined_there, search rules)
