use Rattle.network_faults.proofs.Ways.{sdt_length, sdt_short, sdt_judged, end_small}
use borrow.Author.Rules.{rules}
use Rattle.network_faults.proofs.judge_sdt.Goals as goal

pub returns-then-length_wrong : goal.returns-then-length_wrong
returns-then-length_wrong c = search sdt_length

pub returns-then-s-lt15 : goal.returns-then-s-lt15
returns-then-s-lt15 c = search sdt_short

pub judge_loop-requires : goal.judge_loop-requires
judge_loop-requires c = search (rules, end_small)

pub returns : goal.returns
returns c = search sdt_judged
