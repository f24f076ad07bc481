use Rattle.assemble.proofs.Laws.{too_many, past_end, whole_there, lacks_there}
use Rattle.assemble.proofs.span_in.Goals as goal

pub returns-then-words-gt-MOST_UNDER : goal.returns-then-words-gt-MOST_UNDER
returns-then-words-gt-MOST_UNDER c = search too_many

pub returns-then-words-size : goal.returns-then-words-size
returns-then-words-size c = search past_end

pub returns-then-whole_in-ne0 : goal.returns-then-whole_in-ne0
returns-then-whole_in-ne0 c = search whole_there

pub returns : goal.returns
returns c = search lacks_there
