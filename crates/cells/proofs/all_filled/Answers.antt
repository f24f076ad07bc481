use Rattle.std.proofs.Common.{refl, arith, rules}
use Rattle.laws.proofs.Search.{every_turn, every_end}
use Rattle.cells.proofs.all_filled.Goals as goal

pub loop-w-init : goal.loop-w-init
loop-w-init c = (omega arith, refl)

pub loop-w-preserved : goal.loop-w-preserved
loop-w-preserved c = (search rules, search every_turn)

pub returns : goal.returns
returns c = search every_end
