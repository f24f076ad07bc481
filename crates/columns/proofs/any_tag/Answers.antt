use mathlib.Core.Path.{refl}
use native.Mathlib.Omega.{arith}
use borrow.Author.Rules.{rules}
use Rattle.columns.proofs.Ways.{any_turn, any_end}
use Rattle.columns.proofs.any_tag.Goals as goal

pub loop-x-init : goal.loop-x-init
loop-x-init c = (omega arith, refl)

pub loop-x-preserved : goal.loop-x-preserved
loop-x-preserved c = (search rules, search any_turn)

pub returns : goal.returns
returns c = search any_end
