use Rattle.cells.proofs.Laws.{kept_end}
use Rattle.std.proofs.Common.{refl, arith, rules}
use lib.Seq.{paste-zero}
use Rattle.laws.proofs.Lists.{paste_turn}
use Rattle.cells.proofs.keep.Goals as goal

pub loop-j-init : goal.loop-j-init
loop-j-init c = (omega arith, refl, search paste-zero)

pub loop-j-preserved : goal.loop-j-preserved
loop-j-preserved c = (search rules, search rules, search paste_turn)

pub returns : goal.returns
returns c = search kept_end
