use Rattle.log_check.proofs.Laws.{On}
use mathlib.Core.Path.{◌≡◌}
use Rattle.log_state.specs.State.{lent}
use Rattle.log_sections.specs.Steps.{memory, Lengths}
use Rattle.log_check.proofs.walk.Given as goal

abbrev pub invariant-loop-place : goal.invariant-loop-place
invariant-loop-place l = (goal.iterator-loop-place).can_next l.place-iterator × (goal.iterator-loop-place).is_finite l.place-iterator × (l.place-iterator.list.now ≡ l.sections)
    × Lengths (memory l.initial.keys l.initial.changes l.initial.heads l.initial.slots l.initial.cells) (memory l.keys l.changes l.heads l.slots l.cells)
    × On l.sections l.log (lent l.initial.now l.initial.keys l.initial.changes l.initial.heads l.initial.slots l.initial.cells) (lent l.now l.keys l.changes l.heads l.slots l.cells) l.place-iterator.at l.at
