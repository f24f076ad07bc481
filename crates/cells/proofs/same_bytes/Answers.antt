use Rattle.std.proofs.Common.{refl, arith, rules}
use Rattle.cells.proofs.Laws.{lengths_differ, gather_turn, gather_end}
use Rattle.cells.proofs.same_bytes.Goals as goal

pub returns-then-a-b : goal.returns-then-a-b
returns-then-a-b c = search lengths_differ

pub loop-j-init : goal.loop-j-init
loop-j-init c = (omega arith, search rules, refl)

pub loop-j-preserved : goal.loop-j-preserved
loop-j-preserved c = (search rules, search rules, search gather_turn)

pub returns : goal.returns
returns c = search gather_end
