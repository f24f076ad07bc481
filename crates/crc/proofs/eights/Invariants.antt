-- What is left are whole groups of bytes, which go into the register x.
use mathlib.Core.Path.{◌≡◌}
use Prim.Native.Nat.{ℕ, ◌%◌, ◌<◌}
use lib.ListN.{length, get_or}
use Rattle.std.specs.Slice.Iter.{chunks_exact_rest, chunks_exact_size}
use Rattle.crc.specs.Crc.{crc_from}
use Rattle.crc.proofs.eights.Given as goal

abbrev pub invariant-loop-group : goal.invariant-loop-group
invariant-loop-group l = (chunks_exact_size l.group-iterator ≡ 8) × (length (chunks_exact_rest l.group-iterator) % 8 ≡ 0) × (crc_from l.x (chunks_exact_rest l.group-iterator) ≡ crc_from l.r l.s)
    × ((k : ℕ) → get_or (chunks_exact_rest l.group-iterator) k 0 < 256)
