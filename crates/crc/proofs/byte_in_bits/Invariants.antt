-- `crc::byte_in_bits` meets its contract. The invariant: the 8 - k upper bits of the byte have gone in. Assumes nothing.
use mathlib.Core.Path.{◌≡◌}
use Prim.Native.Nat.{◌-◌, ◌/◌, ◌^◌, ◌≤◌}
use Rattle.crc.specs.Crc.{bits_in}
use Rattle.crc.proofs.byte_in_bits.Given as goal

abbrev pub invariant-loop-k : goal.invariant-loop-k
invariant-loop-k l = (l.k ≤ 8) × (l.x ≡ bits_in (8 - l.k) l.r (l.w / 2 ^ l.k))
