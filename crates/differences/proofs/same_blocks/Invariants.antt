use mathlib.Core.Path.{◌≡◌}
use Prim.Native.Nat.{◌*◌, ◌/◌, ◌≤◌, min}
use lib.ListN.{length}
use Rattle.differences.specs.Walk.{SameTo}
use Rattle.differences.proofs.same_blocks.Given as goal

abbrev pub invariant-loop-block : goal.invariant-loop-block
invariant-loop-block l = (l.blocks ≡ min (length l.x) (length l.y) / 256) × (l.block ≤ l.blocks) × SameTo l.x l.y (l.block * 256)
