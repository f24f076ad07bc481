use mathlib.Core.Path.{◌≡◌}
use lib.ListN.{length}
use Rattle.eit_state.specs.State.{store}
use Rattle.eit_ready.specs.Ready.{Pushable}
use Rattle.log_list.specs.List.{givens_from, WholeFrom}
use Rattle.eit_each.specs.Each.{pushed_each}
use Rattle.eit_each.proofs.push_each.Given as goal

abbrev pub invariant-loop-place : goal.invariant-loop-place
invariant-loop-place l = (goal.iterator-loop-place).can_next l.place-iterator × (goal.iterator-loop-place).is_finite l.place-iterator × (l.place-iterator.list.now ≡ l.list) × (l.place-iterator.at ≡ l.at) × (length l.heads ≡ length l.initial.heads) × (length l.slots ≡ length l.initial.slots) × (length l.cells ≡ length l.initial.cells) × (length l.schedule_heads ≡ length l.initial.schedule_heads) × (length l.units ≡ length l.initial.units) × Pushable (store l.held l.heads l.slots l.cells l.schedule_heads l.units) × WholeFrom l.list l.at × (pushed_each l.at (store l.held l.heads l.slots l.cells l.schedule_heads l.units) (givens_from l.list l.at) ≡ pushed_each l.from (store l.initial.held l.initial.heads l.initial.slots l.initial.cells l.initial.schedule_heads l.initial.units) (givens_from l.list l.from))
