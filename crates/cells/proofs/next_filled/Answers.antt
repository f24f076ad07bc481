use Rattle.std.proofs.Common.{refl, arith, rules}
use Rattle.laws.proofs.Search.{first_hit, first_miss, first_none}
use Rattle.cells.proofs.next_filled.Goals as goal

pub loop-j-init : goal.loop-j-init
loop-j-init c = (omega arith, refl)

pub returns-then-is_filled : goal.returns-then-is_filled
returns-then-is_filled c = search first_hit

pub loop-j-preserved : goal.loop-j-preserved
loop-j-preserved c = (search rules, search first_miss)

pub returns : goal.returns
returns c = search first_none
