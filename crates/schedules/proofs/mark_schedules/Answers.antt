use native.Mathlib.Omega.{arith}
use mathlib.Core.Path.{refl}
use Rattle.schedules.proofs.Laws.{all_marks_turn, all_marks_end}
use borrow.Author.Rules.{rules}
use Rattle.schedules.proofs.mark_schedules.Goals as goal

pub loop-k-init : goal.loop-k-init
loop-k-init c = (omega arith, refl)

pub loop-k-preserved : goal.loop-k-preserved
loop-k-preserved c = (search rules, search all_marks_turn)

pub returns : goal.returns
returns c = search all_marks_end
