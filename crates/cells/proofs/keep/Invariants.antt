use Rattle.std.proofs.Common.{◌≡◌, ◌≤◌, length}
use lib.Seq.{paste}
use Rattle.cells.proofs.keep.Given as goal

abbrev pub invariant-loop-j : goal.invariant-loop-j
invariant-loop-j l = (l.j ≤ length l.bytes) × (length l.cells ≡ length l.initial.cells) × (l.cells ≡ paste l.initial.cells l.at l.bytes l.j)
