use mathlib.Core.Path.{◌≡◌}
use lib.ListN.{length}
use Rattle.store.specs.Store.{store}
use Rattle.log_list.specs.List.{WholeFrom}
use Rattle.sets_repeats.specs.Repeats.{Searchable, Passed}
use Rattle.sets_repeats.proofs.push_repeats.Given as goal

abbrev pub invariant-loop-place : goal.invariant-loop-place
invariant-loop-place l = (goal.iterator-loop-place).can_next l.place-iterator × (goal.iterator-loop-place).is_finite l.place-iterator × (l.place-iterator.list.now ≡ l.list) × (l.place-iterator.at ≡ l.at) × (length l.heads ≡ length l.initial.heads) × Searchable l.held l.heads l.slots l.cells l.tags × WholeFrom l.list l.at × Passed l.list (store l.initial.held l.initial.heads l.slots l.cells) l.at (store l.held l.heads l.slots l.cells)
