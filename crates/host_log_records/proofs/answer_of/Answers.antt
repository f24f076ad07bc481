use Rattle.host_log_records.proofs.Laws.{answer_1, answer_2, answer_3, answer_31, answer_other}
use Rattle.host_log_records.proofs.answer_of.Goals as goal

pub returns-then-number-eq1 : goal.returns-then-number-eq1
returns-then-number-eq1 c = search answer_1

pub returns-then-number-eq2 : goal.returns-then-number-eq2
returns-then-number-eq2 c = search answer_2

pub returns-then-number-eq3 : goal.returns-then-number-eq3
returns-then-number-eq3 c = search answer_3

pub returns-then-number-eq31 : goal.returns-then-number-eq31
returns-then-number-eq31 c = search answer_31

pub returns : goal.returns
returns c = search answer_other
