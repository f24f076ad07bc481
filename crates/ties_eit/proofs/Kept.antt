-- The words of the rows once a section was kept: its slot, its segment, and no other word.
-- Assumes nothing.
use mathlib.Core.Path.{◌≡◌, refl, ap, ◌∙◌}
use mathlib.Core.Logic.{◌≢◌}
use mathlib.Core.Bool.{Bool, true, false, cond}
use mathlib.Core.Option.{Option, none, some}
use mathlib.Core.List.{List}
use Prim.Native.Nat.{ℕ, suc, ◌+◌, ◌-◌, ◌*◌, ◌/◌, ◌≤◌, ◌<◌}
use native.Mathlib.Omega.{arith}
use borrow.Author.Tests.{ne_eqb}
use lib.ListN.{length, get_or, set, replicate, length-set}
use lib.Seq.{get_or-set_same, get_or-set_other}
use Rattle.rules_eit.specs.Segments.{no_lasts}
use Rattle.rows.specs.declared.Entry.{Entry}
use Rattle.rows.specs.declared.Room.{Room}
use Rattle.rows.specs.Rows.{slots_at, slot_count, row_slots, emptied, kept_slots, last_of}
use Rattle.rows.proofs.Words.{length_kept_slots, length_emptied, emptied_in, emptied_out}
use Rattle.ticks.specs.Slots.{up_from}
use Rattle.ticks.proofs.Slots.{part_alike, other_slots, own_slots, fresh_slots}
use Rattle.ticks.proofs.Cells.{up_set}
use Rattle.segments.specs.Segments.{word_of, kept_section}
use Rattle.ties_eit.specs.View.{last_noted}

-- slots that differ only in words of segments
slots_alike : (heads slots slots' : List ℕ) (j : ℕ) → length slots' ≡ length slots → ((k : ℕ) → slots_at j ≤ k → k < slots_at j + 256 → get_or slots' k 0 ≡ get_or slots k 0)
    → row_slots heads slots' j ≡ row_slots heads slots j
unfolding row_slots
slots_alike heads slots slots' j l e = part_alike 0 slots' slots (slots_at j) (slot_count (last_of heads j)) l (λ k a b. e k a (omega arith))

module _ (r : Room) (e : Entry) (n w : ℕ) (slots : List ℕ) (long : r.row * 288 + 288 ≤ length slots) (number : e.number ≤ e.last) (last : e.last < 256) where
  -- a row that begins anew has no segments yet
  abbrev begun : Bool → List ℕ
  begun b = cond b (emptied (r.row * 288) 32 slots) slots

  abbrev base : List ℕ
  base = begun r.fresh

  abbrev segment : ℕ
  segment = e.number / 8

  abbrev after : List ℕ
  after = kept_section r e n w slots

  begun_length : (b : Bool) → length (begun b) ≡ length slots
  begun_length true = length_emptied (r.row * 288) 32 slots (omega arith)
  begun_length false = refl

  base_long : r.row * 288 + 288 ≤ length base
  base_long = let q = begun_length r.fresh in omega arith

  slots_length : length (kept_slots r e w base) ≡ length slots
  slots_length = length_kept_slots r e w base base_long number last ∙ begun_length r.fresh

  pub after_length : length after ≡ length slots
  unfolding kept_section
  after_length = length-set (kept_slots r e w base) (r.row * 288 + segment) n ∙ slots_length

  -- ---- slots

  begun_slots : (heads : List ℕ) (b : Bool) (j : ℕ) → row_slots heads (begun b) j ≡ row_slots heads slots j
  begun_slots heads true j =
      slots_alike heads slots (begun true) j (begun_length true) (λ k p q. emptied_out (r.row * 288) 32 slots (omega arith) k (λ c d. absurd (omega arith)))
  begun_slots heads false j = refl

  segment_slots : (heads : List ℕ) (j : ℕ) → row_slots heads after j ≡ row_slots heads (kept_slots r e w base) j
  unfolding kept_section
  segment_slots heads j =
      slots_alike heads (kept_slots r e w base) after j (length-set (kept_slots r e w base) (r.row * 288 + segment) n) (λ k p q.
      get_or-set_other (kept_slots r e w base) (r.row * 288 + segment) k n 0 (omega arith))

  pub after_other : (heads heads' : List ℕ) (j : ℕ) → j ≢ r.row → last_of heads' j ≡ last_of heads j → row_slots heads' after j ≡ row_slots heads slots j
  after_other heads heads' j ne q = segment_slots heads' j ∙ other_slots r e w base base_long number last heads heads' j ne q ∙ begun_slots heads r.fresh j

  pub after_own : (heads heads' : List ℕ) → r.fresh ≡ false → last_of heads r.row ≡ e.last → last_of heads' r.row ≡ e.last
      → row_slots heads' after r.row ≡ set (row_slots heads slots r.row) e.number w
  after_own heads heads' f p q =
      segment_slots heads' r.row ∙ own_slots r e w base base_long number last heads heads' f p q
      ∙ ap (λ (l : List ℕ). set l e.number w) (begun_slots heads r.fresh r.row)

  pub after_fresh : (heads' : List ℕ) → r.fresh ≡ true → last_of heads' r.row ≡ e.last → row_slots heads' after r.row ≡ set (replicate (suc e.last) 0) e.number w
  after_fresh heads' f q = segment_slots heads' r.row ∙ fresh_slots r e w base base_long number last heads' f q

  -- ---- segments

  kept_word : (j g : ℕ) → g < 32 → word_of (kept_slots r e w base) j g ≡ word_of base j g
  unfolding kept_slots
  kept_word j g h =
      get_or-set_other (cond r.fresh (emptied (slots_at r.row) (e.last + 1) base) base) (slots_at r.row + e.number) (j * 288 + g) w 0 (omega arith) ∙ go r.fresh base base_long
    where
      go : (b : Bool) (xs : List ℕ) → r.row * 288 + 288 ≤ length xs → word_of (cond b (emptied (slots_at r.row) (e.last + 1) xs) xs) j g ≡ word_of xs j g
      go true xs l = emptied_out (slots_at r.row) (e.last + 1) xs (omega arith) (j * 288 + g) (λ p q. absurd (omega arith))
      go false xs l = refl

  pub word_other : (j g : ℕ) → j ≢ r.row → g < 32 → word_of after j g ≡ word_of slots j g
  unfolding kept_section
  word_other j g ne h =
      get_or-set_other (kept_slots r e w base) (r.row * 288 + segment) (j * 288 + g) n 0 (omega arith) ∙ kept_word j g h ∙ go r.fresh
    where
      go : (b : Bool) → word_of (begun b) j g ≡ word_of slots j g
      go true = emptied_out (r.row * 288) 32 slots (omega arith) (j * 288 + g) (λ p q. absurd (omega arith))
      go false = refl

  word_own : word_of after r.row segment ≡ n
  unfolding kept_section
  word_own = let l = slots_length in get_or-set_same (kept_slots r e w base) (r.row * 288 + segment) n 0 (omega arith)

  word_beside : (g : ℕ) → g < 32 → g ≢ segment → word_of after r.row g ≡ word_of base r.row g
  unfolding kept_section
  word_beside g h ne = get_or-set_other (kept_slots r e w base) (r.row * 288 + segment) (r.row * 288 + g) n 0 (omega arith) ∙ kept_word r.row g h

  module _ (Some-number : 0 < n) where
    last_own : last_noted (word_of after r.row segment) ≡ some (n - 1)
    unfolding last_noted
    last_own = rw (word_own, ne_eqb n 0 (λ (q : n ≡ 0). absurd (omega arith)))

    -- the segments that a row noted before, by what `old` says, and the section's
    lasts_set : (old : ℕ → Option ℕ) → ((g : ℕ) → g < 32 → g ≢ segment → last_noted (word_of base r.row g) ≡ old g)
        → up_from (λ (g : ℕ). last_noted (word_of after r.row g)) 32 0 ≡ set (up_from old 32 0) segment (some (n - 1))
    lasts_set old q =
        let z : 0 + segment ≡ segment = omega arith in
        up_set old (λ (g : ℕ). last_noted (word_of after r.row g)) 32 0 segment (some (n - 1)) (omega arith) (rw z last_own)
        (λ k a b ne. ap last_noted (word_beside k (omega arith) (omega arith)) ∙ q k (omega arith) (omega arith))

    pub lasts_own : r.fresh ≡ false → up_from (λ (g : ℕ). last_noted (word_of after r.row g)) 32 0 ≡ set (up_from (λ (g : ℕ). last_noted (word_of slots r.row g)) 32 0) segment (some (n - 1))
    lasts_own f = lasts_set (λ (g : ℕ). last_noted (word_of slots r.row g)) (λ g h ne. rw f)

    pub lasts_fresh : r.fresh ≡ true → up_from (λ (g : ℕ). last_noted (word_of after r.row g)) 32 0 ≡ set no_lasts segment (some (n - 1))
    unfolding up_from last_noted
    lasts_fresh f = lasts_set (λ (g : ℕ). none) (λ g h ne. rw (f, emptied_in (r.row * 288) 32 slots (omega arith) (r.row * 288 + g) (omega arith) (omega arith)))
