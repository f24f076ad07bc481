-- Rows: what a head and the words of its row show, which of them matter, and that a complete set is the rules' complete set.
-- Assumes nothing.
use mathlib.Core.Path.{◌≡◌, refl, sym, ap, ◌∙◌}
use mathlib.Core.Bool.{Bool, true, false, cond, not, ◌&&◌}
use mathlib.Core.Option.{Option, none, some}
use mathlib.Core.List.{List, [], ◌∷◌, map}
use Prim.Native.Nat.{ℕ, zero, suc, ◌+◌, ◌-◌, ◌*◌, ◌/◌, ◌≤◌, ◌<◌, min}
use native.Mathlib.Nat.{add-zero}
use native.Mathlib.Omega.{arith}
use borrow.Author.Tests.{eqb-false, not-true}
use lib.Dec.{eqb}
use lib.ListN.{length, get_or, take, drop, set}
use lib.Seq.{drop-cons, take-take, drop-drop}
use Rattle.laws.specs.Lists.{every}
use Rattle.laws.proofs.Lists.{drop_take}
use Rattle.laws.proofs.Tests.{and_true}
use Rattle.rules_shared.specs.Slots.{is_held, present}
use Rattle.rules_shared.specs.Row.{marked}
use Rattle.rules_shared.specs.Cells.{Held, bytes_of}
use Rattle.rules_eit.specs.Segments.{held_from, segment_full, segments_full, complete, SegmentLasts}
use Rattle.rules_eit.specs.Segments.{segment_end as rules_end}
use Rattle.rules_eit.specs.Cells.{set_takes}
use Rattle.cells.specs.Cells.{filled, slot_whole, all_filled, all_whole, kept, some_names}
use Rattle.eit_section.specs.Segment.{segment_end}
use Rattle.rows.specs.Rows.{word, row_slots, slots_at, slot_count, last_of, mark_of, version_of}
use Rattle.rows.proofs.Words.{length_slots}
use Rattle.ticks.specs.Slots.{held_of, held_slots, cells_seen, up_from}
use Rattle.ticks.proofs.Slots.{place, held_get, slots_same, held_names_lem}
use Rattle.ticks.proofs.Cells.{bytes_kept, up_get, up_cong}
use Rattle.placing.proofs.Fits.{slot_bounds}
use Rattle.segments.specs.Segments.{word_of, filled_to, segment_complete, segments_complete, set_complete}
use Rattle.readers.specs.Next.{filled_slots}
use Rattle.ties_eit.specs.View.{last_noted, row_seen}

-- ---- a row

-- version, last number, mark, slots and segments are all that matters: row i' shows then what row i showed before
pub row_as : (heads heads' slots slots' : List ℕ) (i i' : ℕ) → ((m : ℕ) → 6 ≤ m → m < 9 → word heads' i' m ≡ word heads i m) → row_slots heads' slots' i' ≡ row_slots heads slots i
    → ((g : ℕ) → g < 32 → word_of slots' i' g ≡ word_of slots i g) → row_seen heads' slots' i' ≡ row_seen heads slots i
unfolding row_seen
row_as heads heads' slots slots' i i' e q n =
    rw (
      e 6 (omega arith) (omega arith),
      e 7 (omega arith) (omega arith),
      e 8 (omega arith) (omega arith),
      q,
      up_cong (λ (g : ℕ). last_noted (word_of slots' i' g)) (λ (g : ℕ). last_noted (word_of slots i g)) 32 0 (λ k a b. ap last_noted (n k (omega arith))),
    )

pub row_same : (heads heads' slots slots' : List ℕ) (i : ℕ) → ((m : ℕ) → 6 ≤ m → m < 9 → word heads' i m ≡ word heads i m) → row_slots heads' slots' i ≡ row_slots heads slots i
    → ((g : ℕ) → g < 32 → word_of slots' i g ≡ word_of slots i g) → row_seen heads' slots' i ≡ row_seen heads slots i
row_same heads heads' slots slots' i = row_as heads heads' slots slots' i i

-- a row with its mark set, and else as it was
pub row_marked : (heads heads' slots : List ℕ) (i : ℕ) → version_of heads' i ≡ version_of heads i → last_of heads' i ≡ last_of heads i → mark_of heads' i ≡ 1
    → row_seen heads' slots i ≡ marked (row_seen heads slots i)
unfolding row_seen marked
row_marked heads heads' slots i v l m = rw (v, l, m, slots_same heads heads' slots i l)

-- the cells that a row names
pub row_takes : (heads slots : List ℕ) (c j : ℕ) → set_takes c (row_seen heads slots j) ≡ some_names c (row_slots heads slots j)
unfolding set_takes row_seen
row_takes heads slots c j = held_names_lem c (row_slots heads slots j)

-- ---- segments

held_is : (w : ℕ) → is_held (held_of w) ≡ filled w
unfolding is_held held_of
held_is w = go (filled w)
  where
    go : (b : Bool) → is_held (cond b (some (place w)) none) ≡ b
    go true = refl
    go false = refl

-- n slots from a on are filled
held_part : (ws : List ℕ) (n a : ℕ) → a + n ≤ length ws → held_from (held_slots ws) a n ≡ all_filled (take n (drop a ws))
unfolding held_from every
held_part ws zero a h = refl
held_part ws (suc n) a h =
    rw (drop-cons ws a 0 (omega arith), held_get ws a, held_is (get_or ws a 0))
    (ap (λ (b : Bool). filled (get_or ws a 0) && b) (held_part ws n (suc a) (omega arith)))

-- a part of the first m elements
part_of : {A : Type 0} (xs : List A) (m a n : ℕ) → a + n ≤ m → take n (drop a (take m xs)) ≡ take n (drop a xs)
part_of xs m a n h = sym (drop_take a n (take m xs)) ∙ ap (drop a) (take-take (a + n) m xs h) ∙ drop_take a n xs

-- slots `start` to `end` of a row
filled_to_lem : (heads slots : List ℕ) (i start end : ℕ) → i * 288 + 288 ≤ length slots → last_of heads i < 256 → start ≤ end → end ≤ last_of heads i
    → held_from (held_slots (row_slots heads slots i)) start (suc end - start) ≡ filled_to slots i start end
unfolding filled_to row_slots
filled_to_lem heads slots i start end l h from e =
    let n : end + 1 - start ≡ suc end - start = omega arith in
    let d : length (row_slots heads slots i) ≡ slot_count (last_of heads i) = length_slots heads slots i l in
    rw n (held_part (row_slots heads slots i) (suc end - start) start (omega arith)
    ∙ ap all_filled (part_of (drop (slots_at i) slots) (slot_count (last_of heads i)) start (suc end - start) (omega arith)
    ∙ ap (take (suc end - start)) (drop-drop start (slots_at i) slots)))

ends : (start number last : ℕ) → rules_end start number last ≡ segment_end start number last
unfolding rules_end segment_end
ends start number last = refl

end_bounds : (start number last : ℕ) → start ≤ last → (start ≤ segment_end start number last) × (segment_end start number last ≤ last)
unfolding segment_end
end_bounds start number last h = (omega arith, omega arith)

module _ (heads slots : List ℕ) (i : ℕ) (l : i * 288 + 288 ≤ length slots) (h : last_of heads i < 256) where
  abbrev last : ℕ
  last = last_of heads i

  abbrev held : List (Option Held)
  held = held_slots (row_slots heads slots i)

  abbrev lasts : SegmentLasts
  lasts = up_from (λ (g : ℕ). last_noted (word_of slots i g)) 32 0

  segment_is : (g : ℕ) → g * 8 ≤ last → segment_full last held (8 * g) (get_or lasts g none) ≡ segment_complete slots i last g
  unfolding segment_complete segment_full last_noted
  segment_is g k =
      let z : 0 + g ≡ g = omega arith in
      let y : 8 * g ≡ g * 8 = omega arith in
      rw (up_get (λ (n : ℕ). last_noted (word_of slots i n)) 32 0 g none (omega arith), z, y) (go (eqb (word_of slots i g) 0))
    where
      n : ℕ
      n = word_of slots i g - 1

      go : (b : Bool) → segment_full last held (g * 8) (cond b none (some n)) ≡ (not b && filled_to slots i (g * 8) (segment_end (g * 8) n last))
      go true = refl
      go false =
          let b = end_bounds (g * 8) n last k in
          rw (ends (g * 8) n last) (filled_to_lem heads slots i (g * 8) (segment_end (g * 8) n last) l h b.0 b.1)

seg_none : {A : Type 0} (last : ℕ) (slots : List (Option A)) (lasts : SegmentLasts) → segments_full last slots lasts 0 0 ≡ true
unfolding segments_full
seg_none last slots lasts = refl

-- the rules count segments up, the code down
swap : (a b c : Bool) → (a && (b && c)) ≡ (b && (a && c))
swap true true c = refl
swap true false c = refl
swap false true c = refl
swap false false c = refl

segments_last : {A : Type 0} (last : ℕ) (slots : List (Option A)) (lasts : SegmentLasts) (g n : ℕ)
    → segments_full last slots lasts g (suc n) ≡ (segment_full last slots (8 * (g + n)) (get_or lasts (g + n) none) && segments_full last slots lasts g n)
unfolding segments_full
segments_last last slots lasts g zero = let z : g + 0 ≡ g = add-zero g in rw z
segments_last last slots lasts g (suc n) =
    let z : suc g + n ≡ g + suc n = omega arith in
    ap (λ (b : Bool). segment_full last slots (8 * g) (get_or lasts g none) && b) (segments_last last slots lasts (suc g) n ∙ rw z)
    ∙ swap (segment_full last slots (8 * g) (get_or lasts g none)) (segment_full last slots (8 * (g + suc n)) (get_or lasts (g + suc n) none)) (segments_full last slots lasts (suc g) n)

module _ (heads slots : List ℕ) (i : ℕ) (l : i * 288 + 288 ≤ length slots) (h : last_of heads i < 256) where
  segments_are : (n : ℕ) → n ≤ suc (last_of heads i / 8)
      → segments_full (last_of heads i) (held_slots (row_slots heads slots i)) (up_from (λ (g : ℕ). last_noted (word_of slots i g)) 32 0) 0 n ≡ segments_complete slots i (last_of heads i) n
  unfolding segments_complete
  segments_are zero k = seg_none (last_of heads i) (held_slots (row_slots heads slots i)) (up_from (λ (g : ℕ). last_noted (word_of slots i g)) 32 0)
  segments_are (suc n) k =
      let z : 0 + n ≡ n = omega arith in
      segments_last (last_of heads i) (held_slots (row_slots heads slots i)) (up_from (λ (g : ℕ). last_noted (word_of slots i g)) 32 0) 0 n
      ∙ rw (z, segment_is heads slots i l h n (omega arith), segments_are n (omega arith))

  -- "A set is complete if each segment from 0 to last_section_number / 8" is
  pub complete_is : complete (row_seen heads slots i) ≡ set_complete heads slots i
  unfolding complete row_seen set_complete
  complete_is =
      let m : min (last_of heads i) 255 ≡ last_of heads i = omega arith in
      let z : last_of heads i / 8 + 1 ≡ suc (last_of heads i / 8) = omega arith in
      rw (m, z) (segments_are (suc (last_of heads i / 8)) (omega arith))

-- ---- what goes out

-- "All filled slots are handed out": the rules' sections are the bytes that the filled words name
pub sections_kept : (bytes : List ℕ) (size count : ℕ) (ws : List ℕ) → all_whole count size ws ≡ true
    → map (bytes_of (cells_seen bytes size count)) (present (held_slots ws)) ≡ map (kept bytes size) (filled_slots ws)
unfolding present held_slots every filled_slots held_of
sections_kept bytes size count [] o = refl
sections_kept bytes size count (w ∷ ws) o =
    let q = and_true (slot_whole count size w) (all_whole count size ws) o in
    go (filled w) refl q.0 (sections_kept bytes size count ws q.1)
  where
    go : (b : Bool) → filled w ≡ b → slot_whole count size w ≡ true → map (bytes_of (cells_seen bytes size count)) (present (held_slots ws)) ≡ map (kept bytes size) (filled_slots ws)
        → map (bytes_of (cells_seen bytes size count)) (present (cond b (some (place w)) none ∷ held_slots ws)) ≡ map (kept bytes size) (cond b (w ∷ filled_slots ws) (filled_slots ws))
    go true e s ih =
        let b = slot_bounds count size w s (eqb-false _ _ (not-true _ e)) in
        let h = bytes_kept bytes size count w b.1 b.0 in
        λ t. h t ∷ ih t
    go false e s ih = ih
