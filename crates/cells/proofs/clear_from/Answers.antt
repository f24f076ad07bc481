use Rattle.std.proofs.Common.{refl, arith, rules}
use Rattle.laws.proofs.Search.{first_hit, first_miss, first_none}
use Rattle.cells.proofs.clear_from.Goals as goal

pub loop-c-init : goal.loop-c-init
loop-c-init c = (omega arith, refl)

pub returns-then-is_clear : goal.returns-then-is_clear
returns-then-is_clear c = search first_hit

pub loop-c-preserved : goal.loop-c-preserved
loop-c-preserved c = (search rules, search first_miss)

pub returns : goal.returns
returns c = search first_none
