use Rattle.log_records.proofs.Laws.{size_13, size_6, size_10, size_8, size_0}
use Rattle.log_records.proofs.record_size.Goals as goal

pub returns-then-kind : goal.returns-then-kind
returns-then-kind c = search size_13

pub returns-then-kind-2 : goal.returns-then-kind-2
returns-then-kind-2 c = search size_6

pub returns-then-kind-eq-SET : goal.returns-then-kind-eq-SET
returns-then-kind-eq-SET c = search size_10

pub returns-then-kind-eq-BARE_SET : goal.returns-then-kind-eq-BARE_SET
returns-then-kind-eq-BARE_SET c = search size_8

pub returns : goal.returns
returns c = search size_0
