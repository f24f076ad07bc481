use mathlib.Core.Path.{◌≡◌}
use lib.ListN.{length}
use Rattle.store.specs.Store.{store}
use Rattle.log_list.specs.List.{givens_from, WholeFrom}
use Rattle.sets_all.specs.All.{pushed_each, Pushable}
use Rattle.sets_all.proofs.push_each.Given as goal

abbrev pub invariant-loop-place : goal.invariant-loop-place
invariant-loop-place l = (goal.iterator-loop-place).can_next l.place-iterator × (goal.iterator-loop-place).is_finite l.place-iterator × (l.place-iterator.list.now ≡ l.list) × (l.place-iterator.at ≡ l.at) × (length l.heads ≡ length l.initial.heads) × (length l.slots ≡ length l.initial.slots) × (length l.cells ≡ length l.initial.cells) × Pushable l.held l.heads l.slots l.cells × WholeFrom l.list l.at × (pushed_each l.at (store l.held l.heads l.slots l.cells) (givens_from l.list l.at) ≡ pushed_each l.initial.at (store l.initial.held l.initial.heads l.initial.slots l.initial.cells) (givens_from l.list l.initial.at))
