use Rattle.std.proofs.Common.{arith, rules}
use native.Mathlib.Nat.{sub-zero}
use Rattle.laws.proofs.Search.{first_hit, first_miss, first_none}
use Rattle.cells.proofs.full_words.Goals as goal

pub loop-k-init : goal.loop-k-init
loop-k-init c = (omega arith, rw sub-zero)

pub returns-then-lacks_cell : goal.returns-then-lacks_cell
returns-then-lacks_cell c = search first_hit

pub loop-k-preserved : goal.loop-k-preserved
loop-k-preserved c = (search rules, search first_miss)

pub returns : goal.returns
returns c = search first_none
