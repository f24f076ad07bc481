use mathlib.Core.Path.{◌≡◌}
use Prim.Native.Nat.{ℕ, ◌≤◌, ◌-◌}
use Rattle.laws.specs.Lists.{first_from}
use Rattle.rows.specs.Rows.{key_at, same_key, row_of}
use Rattle.rows.proofs.find.Given as goal

abbrev pub invariant-loop-i : goal.invariant-loop-i
invariant-loop-i l = (l.i ≤ l.used) × (row_of l.heads l.key l.used ≡ first_from (λ (k : ℕ). same_key (key_at l.heads k) l.key) (l.used - l.i) l.i)
