-- What the functions that look for a section's place ask of each other.
-- Assumes nothing.
use mathlib.Core.Path.{◌≡◌, sym, ◌∙◌}
use mathlib.Core.List.{List}
use mathlib.Core.Bool.{true, ◌&&◌}
use Prim.Native.Nat.{ℕ, ◌+◌, ◌*◌, ◌≤◌, ◌<◌}
use native.Mathlib.Nat.{mul-le-mul_right, mul-le-mul_left, le_trans, lt_of_le_of_lt}
use native.Mathlib.Omega.{arith}
use borrow.Author.Tests.{ne_eqb, ltb-true, eqb-true, leb-true}
use mir.Val.{Fits}
use mir.Syntax.{w64}
use lib.Dec.{eqb, ltb, leb, lit<}
use lib.ListN.{length, get_or}
use Rattle.laws.proofs.Tests.{and_true}
use Rattle.cells.specs.Cells.{kept_length, cell_number, slot_whole}
use Rattle.rows.specs.Rows.{slots_at, last_of}
use Rattle.rows.specs.declared.Entry.{Entry}
use Rattle.rows.proofs.Whole.{slot_get}
use Rattle.arrivals.specs.Arrivals.{Numbered}
use Rattle.store.specs.Store.{Whole}
use Rattle.store.specs.declared.Sets.{Sets}
use Rattle.store.proofs.Whole.{cell_fits}

-- ---- a slot that is whole

-- a filled slot that is whole names a cell below count, with a length of at most size
pub slot_bounds : (count size w : ℕ) → slot_whole count size w ≡ true → (kept_length w ≡ 0 → ⊥) → (kept_length w ≤ size) × (cell_number w < count)
unfolding slot_whole
slot_bounds count size w e ne =
    let a = and_true (leb 12 (kept_length w) && leb (kept_length w) size) (ltb (cell_number w) count) (rw (ne_eqb (kept_length w) 0 ne) at e) in
    let b = and_true (leb 12 (kept_length w)) (leb (kept_length w) size) a.0 in
    (leb-true _ _ b.1, ltb-true _ _ a.1)

pub slot_fits : (s : Sets) (heads slots cells : List ℕ) (w n c : ℕ) → Whole s heads slots cells → slot_whole s.count s.size w ≡ true → n ≡ kept_length w → c ≡ cell_number w → (n ≡ 0 → ⊥)
    → c * s.size + n ≤ length cells
slot_fits s heads slots cells w n c f e p q ne =
    let b = slot_bounds s.count s.size w e (λ z. ne (p ∙ z)) in
    cell_fits s heads slots cells n c f (rw q b.1) (rw p b.0)

pub place_fits : (c n size : ℕ) → c < 65536 → n < 65536 → size ≤ 4096 → Fits w64 (c * size + n)
place_fits c n size h k l =
    let m : c * size ≤ 65535 * 4096 = le_trans (mul-le-mul_right size (omega arith)) (mul-le-mul_left 65535 l) in
    record { fits = lt_of_le_of_lt {m = 268500991} (omega arith) (lit< tt) }

pub same_last_lem : (a b u v : ℕ) → (eqb a u && eqb b v) ≡ true → b ≡ v
same_last_lem a b u v e = eqb-true b v (and_true (eqb a u) (eqb b v) e).1

pub known_slot : (s : Sets) (heads slots cells : List ℕ) (e : Entry) (i v l w : ℕ) → Whole s heads slots cells → Numbered e → i < s.used → l ≡ last_of heads i → (eqb v e.version && eqb l e.last) ≡ true
    → w ≡ get_or slots (slots_at i + e.number) 0 → slot_whole s.count s.size w ≡ true
known_slot s heads slots cells e i v l w f n h p t q =
    let k : last_of heads i ≡ e.last = sym p ∙ same_last_lem v l e.version e.last t in
    let a = f.slots_long in
    let b = f.used in
    let c = n.number in
    let d = n.last in
    rw q (slot_get heads slots s.count s.size s.used i e.number f.rows h (omega arith) (omega arith))
