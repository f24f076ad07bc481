-- The words that a section's cell and slot need.
-- Assumes nothing.
use mathlib.Core.Path.{◌≡◌}
use mathlib.Core.List.{List}
use Prim.Native.Nat.{ℕ, ◌*◌, ◌≤◌, ◌<◌}
use native.Mathlib.Omega.{arith}
use mir.Val.{Fits}
use mir.Syntax.{w64}
use Rattle.rows.specs.declared.Entry.{Entry}
use Rattle.rows.specs.declared.Room.{Room as RoomFound}
use Rattle.store.proofs.Whole.{product_fits}
use Rattle.segments.specs.Segments.{kept_section}

pub cell_bytes : (k size n : ℕ) → k < 65535 → size ≤ 4096 → Fits w64 (k * size)
cell_bytes k size n h l = product_fits k size (omega arith) l

pub word_kept : (r : RoomFound) (e : Entry) (n w x : ℕ) (l l' : List ℕ) → w ≡ x → l' ≡ kept_section r e n w l → l' ≡ kept_section r e n x l
word_kept r e n w x l l' p q = rw (← p) q
