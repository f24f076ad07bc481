-- `crc::crc_bitwise` meets its contract. The invariant: r is the register after the first i bytes. Assumes nothing.
use mathlib.Core.Path.{◌≡◌}
use Prim.Native.Nat.{◌≤◌}
use lib.ListN.{length, take}
use Rattle.crc.specs.Crc.{crc_of}
use Rattle.crc.proofs.crc_bitwise.Given as goal

abbrev pub invariant-loop-v : goal.invariant-loop-v
invariant-loop-v l = (l.v-index ≤ length l.s) × (l.r ≡ crc_of (take l.v-index l.s))
