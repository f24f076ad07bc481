-- One law for each way out of the functions that walk over sections, and for each turn of their loops.
-- Assumes nothing.
use mathlib.Core.Path.{◌≡◌, refl, sym, ap, ◌∙◌}
use mathlib.Core.Logic.{⊎_elim}
use mathlib.Core.Bool.{Bool, true, false, cond}
use mathlib.Core.List.{List, [], ◌∷◌, flatten}
use Prim.Native.Nat.{ℕ, ◌+◌, ◌*◌, ◌-◌, ◌≤◌, ◌<◌}
use native.Mathlib.Nat.{add-sub_cancel_left, add-zero, zero-add, sub_self, add_assoc}
use native.Mathlib.Omega.{arith}
use lib.ListN.{length, take, drop, get_or, length-drop, length-append}
use lib.Seq.{get_or-take, get_or-drop, length-take-le, drop-drop, take-append_seam}
use lib.Dec.{ltb, eqb}
use borrow.Author.Tests.{eq-eqb, ne_eqb, lt-ltb, le-ltb}
use Rattle.laws.proofs.Lists.{rest_part, rest_length}
use Rattle.laws.proofs.Tests.{lt_or_le}
use Rattle.section.specs.Header.{section_length, table_id_of, section_number}
use Rattle.laid.specs.Laid.{size_of, sections_in, laid_out}
use Rattle.laid.specs.Walk.{LaidFrom, from, head_of, rank_of, head_rank, head_if, tail_if, RankAt, leads, Sectioned, EndAt, numbered, place_in, Placed, leading, following, below_table, Passed}
use Rattle.laid.proofs.Sections.{Begins, sections_none, sections_front, laid_begins, sections_all}

pub laid_whole : (s : List ℕ) → laid_out s ≡ true → LaidFrom s 0
laid_whole s w = record { fits = omega arith; whole = w }

module _ (s : List ℕ) (at : ℕ) (w : LaidFrom s at) where
  pub none_left : length s ≤ at → from s at ≡ []
  none_left h = sections_none (drop at s) (length-drop at s ∙ let u : length s - at ≡ 0 = omega arith in u)

  -- ---- the section that starts at `at`

  module _ (h : at < length s) where
    pub begins : Begins (drop at s)
    begins = laid_begins (drop at s) (λ (q : length (drop at s) ≡ 0). let a = length-drop at s in omega arith) w.whole

    pub one_here : from s at ≡ take (size_of (drop at s)) (drop at s) ∷ sections_in (drop (size_of (drop at s)) (drop at s))
    one_here = sections_front (drop at s) (size_of (drop at s)) begins.front

    pub size_least : 12 ≤ size_of (drop at s)
    size_least = begins.front.least

    pub size_fits : at + size_of (drop at s) ≤ length s
    size_fits = let a = begins.front.within in let d = length-drop at s in omega arith

    pub room_here : at + 12 ≤ length s
    room_here = let a = size_least in let b = size_fits in omega arith

    pub rest_room : 3 ≤ length (take (length s - at) (drop at s))
    rest_room = let a = room_here in let b = rest_length at s in omega arith

    first_length : length (take (size_of (drop at s)) (drop at s)) ≡ size_of (drop at s)
    first_length = length-take-le (size_of (drop at s)) (drop at s) begins.front.within

    first_byte : (i : ℕ) → i < 12 → get_or (take (size_of (drop at s)) (drop at s)) i 0 ≡ get_or s (at + i) 0
    first_byte i l = get_or-take (size_of (drop at s)) (drop at s) i 0 (let a = size_least in omega arith) ∙ get_or-drop at s i 0

    pub end_here : (n : ℕ) → n ≡ section_length (take (length s - at) (drop at s)) → n < 4096 → EndAt s at (at + 3 + n)
    end_here n e l =
        let z : n ≡ section_length (drop at s) = e ∙ ap section_length (rest_part at s) in
        let k : at + 3 + n ≡ at + size_of (drop at s) = rw z (add_assoc at 3 (section_length (drop at s))) in
        record {
          exact = k ∙ rw (one_here, first_length);
          small = omega arith;
          next = record { fits = rw k size_fits; whole = rw (k, ← drop-drop (size_of (drop at s)) at s) begins.rest };
        }

    pub rank_here : (a b : ℕ) → a ≡ get_or s at 0 → b ≡ get_or s (at + 6) 0 → a < 256 → b < 256 → RankAt s at (a * 256 + b)
    rank_here a b e f k l = record {
      exact = rw (one_here, first_byte 0 (omega arith), first_byte 6 (omega arith), add-zero at, e, f);
      most = omega arith;
      some = λ (z : at < length s). omega arith;
    }

    number_here : (a : ℕ) → a ≡ get_or s (at + 6) 0 → section_number (take (size_of (drop at s)) (drop at s)) ≡ a
    number_here a e = first_byte 6 (omega arith) ∙ sym e

    table_here : (a : ℕ) → a ≡ get_or s at 0 → table_id_of (take (size_of (drop at s)) (drop at s)) ≡ a
    table_here a e = first_byte 0 (omega arith) ∙ rw (add-zero at) (sym e)

    -- the rest, where the end is known
    rest_here : (r : ℕ) → EndAt s at r → from s r ≡ sections_in (drop (size_of (drop at s)) (drop at s))
    rest_here r e =
        let k : r ≡ at + size_of (drop at s) = e.exact ∙ rw (one_here, first_length) in
        rw (k, ← drop-drop (size_of (drop at s)) at s)

    pub end_past : (r : ℕ) → EndAt s at r → at + 12 ≤ r
    end_past r e =
        let k : r ≡ at + size_of (drop at s) = e.exact ∙ rw (one_here, first_length) in
        let a = size_least in omega arith

  pub end_none : length s ≤ at → EndAt s at at
  end_none h = record { exact = rw (none_left h) (sym (add-zero at)); small = omega arith; next = w }

  pub rank_none : length s ≤ at → RankAt s at 65536
  rank_none h = record { exact = rw (none_left h); most = omega arith; some = λ (z : at < length s). omega arith }

  -- ---- the section as a part

  head_part : take (length (head_of (from s at))) (drop at s) ≡ head_of (from s at)
  unfolding flatten
  head_part = go (from s at) (sections_all (drop at s) w.whole)
    where
      go : (xs : List (List ℕ)) → flatten xs ≡ drop at s → take (length (head_of xs)) (drop at s) ≡ head_of xs
      go [] e = refl
      go (x ∷ xs) e = rw (← e) (take-append_seam x (flatten xs))

  pub part_here : (k rank r : ℕ) → EndAt s at r → k ≡ head_rank (from s at) → k ≡ rank → take (r - at) (drop at s) ≡ head_if rank (from s at)
  part_here k rank r e f g =
      let d : r - at ≡ length (head_of (from s at)) = rw e.exact (add-sub_cancel_left at (length (head_of (from s at)))) in
      rw (d, eq-eqb (head_rank (from s at)) rank (sym f ∙ g)) head_part

  pub part_other : (k rank : ℕ) → k ≡ head_rank (from s at) → (k ≡ rank → ⊥) → take (at - at) (drop at s) ≡ head_if rank (from s at)
  part_other k rank f g = rw (sub_self at, ne_eqb (head_rank (from s at)) rank (λ (q : head_rank (from s at) ≡ rank). g (f ∙ q)))

  -- the same by table
  pub lead_none : (t : ℕ) → length s ≤ at → take (at - at) (drop at s) ≡ leads t (from s at)
  lead_none t h = rw (sub_self at, none_left h)

  pub lead_other : (t a : ℕ) → at < length s → a ≡ get_or s at 0 → (a ≡ t → ⊥) → take (at - at) (drop at s) ≡ leads t (from s at)
  lead_other t a h e g =
      rw (sub_self at, one_here h, ne_eqb (table_id_of (take (size_of (drop at s)) (drop at s))) t (λ (q : table_id_of (take (size_of (drop at s)) (drop at s)) ≡ t). g (sym (table_here h a e) ∙ q)))

  pub lead_here : (t a r : ℕ) → at < length s → a ≡ get_or s at 0 → a ≡ t → EndAt s at r → take (r - at) (drop at s) ≡ leads t (from s at)
  lead_here t a r h e g d =
      let m : r ≡ at + size_of (drop at s) = d.exact ∙ rw (one_here h, first_length h) in
      let k : r - at ≡ size_of (drop at s) = rw m (add-sub_cancel_left at (size_of (drop at s))) in
      rw (k, one_here h, eq-eqb (table_id_of (take (size_of (drop at s)) (drop at s))) t (table_here h a e ∙ g))

  -- a part has no bytes, or those of a section
  pub part_sized : (r : ℕ) → EndAt s at r → Sectioned (take (r - at) (drop at s))
  part_sized r d = record { least = λ h. at_least h; most = at_most }
    where
      same : take (r - at) (drop at s) ≡ head_of (from s at)
      same = let k : r - at ≡ length (head_of (from s at)) = rw d.exact (add-sub_cancel_left at (length (head_of (from s at)))) in rw k head_part

      at_most : length (take (r - at) (drop at s)) ≤ 4098
      at_most = let a = d.exact in let b = d.small in rw same (omega arith)

      at_least : (length (take (r - at) (drop at s)) ≡ 0 → ⊥) → 12 ≤ length (take (r - at) (drop at s))
      at_least h = ⊎_elim
          (λ (l : at < length s). rw (same, one_here l, first_length l) (size_least l))
          (λ (l : length s ≤ at). absurd (h (rw (same, none_left l))))
          (lt_or_le at (length s))

  pub part_empty : Sectioned (take (at - at) (drop at s))
  part_empty = rw (sub_self at) (record { least = λ (h : ◌≡◌ {A = ℕ} 0 0 → ⊥). absurd (h refl); most = omega arith })

  -- ---- the place behind it

  none_next : (n : ℕ) → length s ≤ at → (LaidFrom s (at + length (head_if n (from s at)))) × (from s (at + length (head_if n (from s at))) ≡ tail_if n (from s at))
  none_next n l =
      let z : length (head_if n (from s at)) ≡ 0 = rw (none_left l) (empty_if (eqb 65536 n)) in
      rw (z, add-zero at) (w, none_left l ∙ sym (ap (tail_if n) (none_left l)))
    where
      empty_if : (b : Bool) → length (cond {A = List ℕ} b [] []) ≡ 0
      empty_if true = refl
      empty_if false = refl

  some_next : (n : ℕ) → at < length s → (LaidFrom s (at + length (head_if n (from s at)))) × (from s (at + length (head_if n (from s at))) ≡ tail_if n (from s at))
  some_next n l = go (eqb (rank_of (take (size_of (drop at s)) (drop at s))) n) refl
    where
      go : (b : Bool) → eqb (rank_of (take (size_of (drop at s)) (drop at s))) n ≡ b
          → (LaidFrom s (at + length (head_if n (from s at)))) × (from s (at + length (head_if n (from s at))) ≡ tail_if n (from s at))
      go true z = rw (one_here l, z, first_length l, ← drop-drop (size_of (drop at s)) at s) (record { fits = size_fits l; whole = rw (← drop-drop (size_of (drop at s)) at s) (begins l).rest }, refl)
      go false z = rw (one_here l, z, add-zero at) (w, one_here l)

  pub next_held : (n : ℕ) → (LaidFrom s (at + length (head_if n (from s at)))) × (from s (at + length (head_if n (from s at))) ≡ tail_if n (from s at))
  next_held n = ⊎_elim (λ (l : at < length s). some_next n l) (λ (l : length s ≤ at). none_next n l) (lt_or_le at (length s))

  -- and the section there has its bytes
  pub held_least : (n : ℕ) → n ≡ head_rank (from s at) → n < 65536 → 12 ≤ length (head_if n (from s at))
  held_least n e h = ⊎_elim
      (λ (l : at < length s). rw (eq-eqb (head_rank (from s at)) n (sym e), one_here l, first_length l) (size_least l))
      (λ (l : length s ≤ at). absurd (let z : n ≡ 65536 = e ∙ ap head_rank (none_left l) in omega arith))
      (lt_or_le at (length s))

-- ---- by number

module _ (s : List ℕ) (n : ℕ) where
  -- what a search for number n has left at `at`
  pub record Seeks (at : ℕ) : Type 0 where
    pub laid : LaidFrom s at
    pub place : place_in n (sections_in s) ≡ at + place_in n (from s at)
    pub same : numbered n (sections_in s) ≡ numbered n (from s at)

  pub seeks_starts : laid_out s ≡ true → Seeks 0
  seeks_starts w = record { laid = laid_whole s w; place = sym (zero-add (place_in n (sections_in s))); same = refl }

  module _ (at : ℕ) (k : Seeks at) where
    pub seeks_found : (a : ℕ) → at < length s → a ≡ get_or s (at + 6) 0 → a ≡ n → Placed s n at
    unfolding numbered place_in
    seeks_found a h e z =
        let t : eqb (section_number (take (size_of (drop at s)) (drop at s))) n ≡ true = eq-eqb _ n (number_here s at k.laid h a e ∙ z) in
        record {
          exact = sym (k.place ∙ rw (one_here s at k.laid h, t) (add-zero at));
          there = sym (k.same ∙ rw (one_here s at k.laid h, t));
          laid = k.laid;
        }

    pub seeks_turn : (a r : ℕ) → at < length s → a ≡ get_or s (at + 6) 0 → (a ≡ n → ⊥) → EndAt s at r → Seeks r
    unfolding numbered place_in
    seeks_turn a r h e z d =
        let t : eqb (section_number (take (size_of (drop at s)) (drop at s))) n ≡ false =
        ne_eqb _ n (λ (q : section_number (take (size_of (drop at s)) (drop at s)) ≡ n). z (sym (number_here s at k.laid h a e) ∙ q)) in
        let m : r ≡ at + length (take (size_of (drop at s)) (drop at s)) = d.exact ∙ rw (one_here s at k.laid h) in
        record {
          laid = d.next;
          place = k.place ∙ rw (one_here s at k.laid h, t, rest_here s at k.laid h r d, m) (sym (add_assoc at _ _));
          same = k.same ∙ rw (one_here s at k.laid h, t, rest_here s at k.laid h r d);
        }

    pub seeks_ends : length s ≤ at → Placed s n at
    unfolding numbered place_in
    seeks_ends h = record {
      exact = sym (k.place ∙ rw (none_left s at k.laid h) (add-zero at));
      there = sym (k.same ∙ rw (none_left s at k.laid h));
      laid = k.laid;
    }

-- ---- by table

module _ (s : List ℕ) (start bound : ℕ) where
  -- what a pass over tables below the bound has left at `at`
  pub record Passes (at : ℕ) : Type 0 where
    pub laid : LaidFrom s at
    pub place : start + length (flatten (leading (below_table bound) (from s start))) ≡ at + length (flatten (leading (below_table bound) (from s at)))
    pub same : following (below_table bound) (from s start) ≡ following (below_table bound) (from s at)

  pub passes_starts : LaidFrom s start → Passes start
  passes_starts w = record { laid = w; place = refl; same = refl }

  module _ (at : ℕ) (k : Passes at) where
    pub passes_found : (a : ℕ) → at < length s → a ≡ get_or s at 0 → bound ≤ a → Passed (below_table bound) s start at
    unfolding leading following flatten
    passes_found a h e z =
        let t : ltb (table_id_of (take (size_of (drop at s)) (drop at s))) bound ≡ false = rw (table_here s at k.laid h a e) (le-ltb a bound z) in
        record {
          exact = sym (k.place ∙ rw (one_here s at k.laid h, t) (add-zero at));
          rest = sym (k.same ∙ rw (one_here s at k.laid h, t));
          laid = k.laid;
        }

    pub passes_turn : (a r : ℕ) → at < length s → a ≡ get_or s at 0 → a < bound → EndAt s at r → Passes r
    unfolding leading following flatten
    passes_turn a r h e z d =
        let t : ltb (table_id_of (take (size_of (drop at s)) (drop at s))) bound ≡ true = rw (table_here s at k.laid h a e) (lt-ltb a bound z) in
        let m : r ≡ at + length (take (size_of (drop at s)) (drop at s)) = d.exact ∙ rw (one_here s at k.laid h) in
        record {
          laid = d.next;
          place = k.place ∙ rw (one_here s at k.laid h, t, rest_here s at k.laid h r d, m, length-append) (sym (add_assoc at _ _));
          same = k.same ∙ rw (one_here s at k.laid h, t, rest_here s at k.laid h r d);
        }

    pub passes_ends : length s ≤ at → Passed (below_table bound) s start at
    unfolding leading following flatten
    passes_ends h = record {
      exact = sym (k.place ∙ rw (none_left s at k.laid h) (add-zero at));
      rest = sym (k.same ∙ rw (none_left s at k.laid h));
      laid = k.laid;
    }
