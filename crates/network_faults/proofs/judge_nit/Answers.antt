use Rattle.network_faults.proofs.Ways.{nit_length, nit_short, nit_no_second, nit_judged, small}
use borrow.Author.Rules.{rules}
use Rattle.network_faults.proofs.judge_nit.Goals as goal

pub returns-then-length_wrong : goal.returns-then-length_wrong
returns-then-length_wrong c = search nit_length

pub returns-then-s-lt16 : goal.returns-then-s-lt16
returns-then-s-lt16 c = search nit_short

pub returns-then-s-n : goal.returns-then-s-n
returns-then-s-n c = search nit_no_second

pub judge_nit_loops-requires : goal.judge_nit_loops-requires
judge_nit_loops-requires c = search (rules, small)

pub returns : goal.returns
returns c = search nit_judged
