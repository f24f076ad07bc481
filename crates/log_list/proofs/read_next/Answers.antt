use Rattle.log_list.proofs.Laws.{at_end_lem, head_cut, too_long_lem, body_cut, is_there, starts_in_lem}
use Rattle.log_list.proofs.read_next.Goals as goal

pub returns-then-list-place : goal.returns-then-list-place
returns-then-list-place c = search at_end_lem

pub returns-then-list-place-lt-HEAD : goal.returns-then-list-place-lt-HEAD
returns-then-list-place-lt-HEAD c = search head_cut

pub returns-then-p-gt-LONGEST : goal.returns-then-p-gt-LONGEST
returns-then-p-gt-LONGEST c = search too_long_lem

pub overflow_sub-list-2 : goal.overflow_sub-list-2
overflow_sub-list-2 c = search starts_in_lem

pub returns-then-list-p : goal.returns-then-list-p
returns-then-list-p c = search body_cut

pub returns : goal.returns
returns c = search is_there
