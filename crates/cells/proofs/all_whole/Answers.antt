use Rattle.std.proofs.Common.{refl, arith, rules}
use Rattle.cells.proofs.Laws.{whole_turn, whole_end}
use Rattle.cells.proofs.all_whole.Goals as goal

pub loop-w-init : goal.loop-w-init
loop-w-init c = (omega arith, refl)

pub loop-w-preserved : goal.loop-w-preserved
loop-w-preserved c = (search rules, search whole_turn)

pub returns : goal.returns
returns c = search whole_end
