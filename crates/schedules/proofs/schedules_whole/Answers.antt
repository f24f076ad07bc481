use native.Mathlib.Omega.{arith}
use mathlib.Core.Path.{refl}
use Rattle.schedules.proofs.Laws.{schedules_turn, schedules_end}
use borrow.Author.Rules.{rules}
use Rattle.schedules.proofs.schedules_whole.Goals as goal

pub loop-k-init : goal.loop-k-init
loop-k-init c = (omega arith, refl)

pub loop-k-preserved : goal.loop-k-preserved
loop-k-preserved c = (search rules, search schedules_turn)

pub returns : goal.returns
returns c = search schedules_end
