use Rattle.std.proofs.Common.{◌≡◌, ℕ, ◌-◌, ◌≤◌, not}
use Rattle.laws.specs.Lists.{first_from}
use Rattle.laws.specs.Bits.{has_bit}
use Rattle.cells.specs.Cells.{clear_from}
use Rattle.cells.proofs.clear_from.Given as goal

abbrev pub invariant-loop-c : goal.invariant-loop-c
invariant-loop-c l = (l.c ≤ l.count) × (clear_from l.map l.from l.count ≡ first_from (λ (k : ℕ). not (has_bit l.map k)) (l.count - l.c) l.c)
