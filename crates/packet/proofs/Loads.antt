-- What is so of every payload that a packet is read as.
-- Assumes nothing.
use Prim.Native.Nat.{ℕ, ◌+◌, ◌*◌, ◌/◌, ◌%◌, ◌≤◌, ◌<◌}
use mathlib.Core.Path.{◌≡◌, refl}
use mathlib.Core.List.{List}
use mathlib.Core.Bool.{Bool, true, false, cond, ◌&&◌}
use native.Mathlib.Omega.{arith}
use lib.Dec.{eqb, leb}
use lib.ListN.{length, get_or}
use borrow.Author.Tests.{leb-true, eqb-true}
use Rattle.section.specs.Facts.{Bytes}
use Rattle.packet.specs.Packets.{packet_of, packet_by, payload_at, is_readable, load_of, IsLoad}
use Rattle.packet.specs.declared.Load.{Load}
use Rattle.packet.specs.declared.Packet.TheVariants.{Malformed, Nothing, Payload}

read_fields : (flags low control from : ℕ) (s : List ℕ) → low < 256 → 4 ≤ from → from ≤ 188 → length s ≡ 188 → IsLoad (load_of flags low control from) s
read_fields flags low control from s b h k n = record { pid = omega arith; counted = omega arith; headed = h; inside = k; long = n }

header_there : (control field : ℕ) → 4 ≤ payload_at control field
header_there control field = go (eqb (control / 32 % 2) 1)
  where
    go : (b : Bool) → 4 ≤ cond b (5 + field) 4
    go true = omega arith
    go false = omega arith

pub as_read : (s : List ℕ) (l : Load) → Bytes s → packet_of s ≡ Payload l → IsLoad l s
unfolding packet_of packet_by
as_read s l b = go (eqb (length s) 188) (eqb (get_or s 0 0) 0x47) (leb from 188) (is_readable (get_or s 1 0) (get_or s 3 0)) refl refl
  where
    from : ℕ
    from = payload_at (get_or s 3 0) (get_or s 4 0)

    told : Load
    told = load_of (get_or s 1 0) (get_or s 2 0) (get_or s 3 0) from

    go : (x y z w : Bool) → eqb (length s) 188 ≡ x → leb from 188 ≡ z → cond (x && y) (cond z (cond w (Payload told) Nothing) Malformed) Malformed ≡ Payload l → IsLoad l s
    go true true true true p q e =
        let same : told ≡ l = cc in
        rw (← same) (read_fields (get_or s 1 0) (get_or s 2 0) (get_or s 3 0) from s (b 2) (header_there (get_or s 3 0) (get_or s 4 0)) (leb-true _ _ q) (eqb-true _ _ p))
    go true true true false p q e = let z : ◌≡◌ {A = ℕ} 0 1 = cc in absurd (omega arith)
    go true true false w p q e = let z : ◌≡◌ {A = ℕ} 0 1 = cc in absurd (omega arith)
    go true false z w p q e = let z : ◌≡◌ {A = ℕ} 0 1 = cc in absurd (omega arith)
    go false y z w p q e = let z : ◌≡◌ {A = ℕ} 0 1 = cc in absurd (omega arith)
