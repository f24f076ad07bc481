use Rattle.std.proofs.Common.{◌≡◌, ℕ, ◌-◌, ◌≤◌, get_or}
use Rattle.laws.specs.Lists.{first_from}
use Rattle.cells.specs.Cells.{lacks, full_words}
use Rattle.cells.proofs.full_words.Given as goal

abbrev pub invariant-loop-k : goal.invariant-loop-k
invariant-loop-k l = (l.k ≤ l.n) × (full_words l.map l.n ≡ first_from (λ (i : ℕ). lacks (get_or l.map i 0)) (l.n - l.k) l.k)
