use Rattle.segments.proofs.Laws.{segment_none, segment_some, segment_start}
use borrow.Author.Rules.{rules}
use Rattle.segments.proofs.segment_complete.Goals as goal

pub returns-then-n-eq0 : goal.returns-then-n-eq0
returns-then-n-eq0 c = search segment_none

pub filled_to-requires : goal.filled_to-requires
filled_to-requires c = (search rules, search segment_start, search rules)

pub returns : goal.returns
returns c = search segment_some
