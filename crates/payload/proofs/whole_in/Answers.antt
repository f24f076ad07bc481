use Rattle.payload.proofs.Laws.{end_short, end_cut, end_there}
use borrow.Author.Rules.{rules}
use Rattle.payload.proofs.whole_in.Goals as goal

pub returns-then-bytes-lt-HEADER_BYTES : goal.returns-then-bytes-lt-HEADER_BYTES
returns-then-bytes-lt-HEADER_BYTES c = (search end_short, search rules)

pub returns-then-bytes-size : goal.returns-then-bytes-size
returns-then-bytes-size c = (search end_cut, search rules)

pub returns : goal.returns
returns c = (search end_there, search rules)
