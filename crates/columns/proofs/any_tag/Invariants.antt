use mathlib.Core.Path.{◌≡◌}
use mathlib.Core.Bool.{◌||◌}
use Prim.Native.Nat.{ℕ, ◌≤◌}
use lib.Dec.{eqb}
use lib.ListN.{length, drop}
use Rattle.laws.specs.Lists.{any}
use Rattle.columns.proofs.any_tag.Given as goal

abbrev pub invariant-loop-x : goal.invariant-loop-x
invariant-loop-x l = (l.x-index ≤ length l.tags) × (any (λ (x : ℕ). eqb x l.t) l.tags ≡ (l.found || any (λ (x : ℕ). eqb x l.t) (drop l.x-index l.tags)))
