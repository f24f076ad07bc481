use Rattle.std.proofs.Common.{◌≡◌, ℕ, ◌-◌, min}
use Rattle.laws.specs.Lists.{first_from}
use Rattle.rows.specs.Rows.{key_at, same_key, row_of}
use Rattle.columns.proofs.find.Given as goal

abbrev pub invariant-loop-a : goal.invariant-loop-a
invariant-loop-a l = row_of l.heads l.key l.used ≡ first_from (λ (k : ℕ). same_key (key_at l.heads k) l.key) (l.used - min l.a l.used) (min l.a l.used)

abbrev pub decreases-loop-a : goal.decreases-loop-a
decreases-loop-a l = l.used - l.a
