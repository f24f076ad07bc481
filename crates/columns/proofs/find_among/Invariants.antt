use mathlib.Core.Path.{◌≡◌}
use Prim.Native.Nat.{ℕ, ◌≤◌, ◌-◌}
use Rattle.laws.specs.Lists.{first_from}
use Rattle.rows.specs.Rows.{key_at, same_key}
use Rattle.columns.proofs.find_among.Given as goal

abbrev pub invariant-loop-i : goal.invariant-loop-i
invariant-loop-i l = (l.i ≤ l.e) × (first_from (λ (k : ℕ). same_key (key_at l.heads k) l.key) (l.e - l.a) l.a ≡ first_from (λ (k : ℕ). same_key (key_at l.heads k) l.key) (l.e - l.i) l.i)
