use mathlib.Core.Path.{◌≡◌, refl}
use Prim.Native.Nat.{◌+◌, ◌*◌, ◌-◌, ◌≤◌}
use lib.ListN.{length}
use Rattle.counts_lines.proofs.Ways.{Left, left_first, left_turn, left_none}
use Rattle.counts_lines.proofs.put_numbers.Given as goal

abbrev pub invariant-loop-k : goal.invariant-loop-k
invariant-loop-k l = (l.k ≤ length l.numbers) × (length l.line ≡ length l.initial.line) × (l.to ≤ l.at + 21 * l.k) × Left l.initial.line l.at l.numbers l.line l.to l.k
