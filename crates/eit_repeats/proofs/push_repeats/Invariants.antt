use mathlib.Core.Path.{◌≡◌}
use lib.ListN.{length}
use Rattle.eit_repeats.specs.Repeats.{Searchable, Passed}
use Rattle.eit_repeats.proofs.push_repeats.Given as goal

abbrev pub invariant-loop-place : goal.invariant-loop-place
invariant-loop-place l = (goal.iterator-loop-place).can_next l.place-iterator × (goal.iterator-loop-place).is_finite l.place-iterator × (l.place-iterator.list.now ≡ l.list) × (l.place-iterator.at ≡ l.at) × (length l.heads ≡ length l.initial.heads) × Searchable l.held.sets l.heads l.slots l.cells l.tags × Passed l.list l.slots l.cells l.initial.held l.initial.heads l.held l.heads l.at
