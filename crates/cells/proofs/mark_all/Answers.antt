use Rattle.std.proofs.Common.{refl, arith, rules}
use Rattle.cells.proofs.Laws.{mark_turn, mark_end}
use Rattle.cells.proofs.mark_all.Goals as goal

pub loop-w-init : goal.loop-w-init
loop-w-init c = (omega arith, refl)

pub loop-w-preserved : goal.loop-w-preserved
loop-w-preserved c = (search rules, search mark_turn)

pub returns : goal.returns
returns c = search mark_end
