-- The first row with a key, found by going through the rows: what stands at i ends the search, or hands it to the rest.
-- Assumes nothing.
use Prim.Native.Nat.{ℕ, suc, ◌+◌, ◌-◌, ◌<◌, ◌≤◌}
use mathlib.Core.Path.{◌≡◌, sym, ◌∙◌}
use mathlib.Core.List.{List}
use lib.ListN.{length, get_or, take, drop, drop_of_length-le}
use native.Mathlib.Numerals.{add-one}
use native.Mathlib.Omega.{arith}
use lib.Seq.{drop-cons, get_or-take, length-take-le}
use borrow.Author.Tests.{eq-eqb, ne_eqb}
use Rattle.ring.specs.Store.{row_of}

row_here : (l : List ℕ) (i key : ℕ) → i < length l → get_or l i 0 ≡ key → row_of (drop i l) key ≡ 0
row_here l i key h e = rw (drop-cons l i 0) (simp (eq-eqb _ _ e))

row_next_lem : (l : List ℕ) (i key : ℕ) → i < length l → (get_or l i 0 ≡ key → ⊥) → row_of (drop i l) key ≡ suc (row_of (drop (suc i) l) key)
row_next_lem l i key h e = rw (drop-cons l i 0) (simp (ne_eqb _ _ e))

-- The search over the first used keys, which is to give `whole`: found at i; not at i; at the end.
module _ (keys : List ℕ) (used key whole : ℕ) (fits : used ≤ length keys) where
  module _ (i : ℕ) (inv : whole ≡ i + row_of (drop i (take used keys)) key) where
    pub row_found : i < used → get_or keys i 0 ≡ key → i ≡ whole
    row_found h e =
        let n : length (take used keys) ≡ used = length-take-le used keys fits in
        let z : row_of (drop i (take used keys)) key ≡ 0 = row_here (take used keys) i key (omega arith) (get_or-take used keys i 0 h ∙ e) in
        omega arith

    pub row_more : i < used → (get_or keys i 0 ≡ key → ⊥) → whole ≡ i + 1 + row_of (drop (i + 1) (take used keys)) key
    row_more h e =
        let n : length (take used keys) ≡ used = length-take-le used keys fits in
        let z : row_of (drop i (take used keys)) key ≡ suc (row_of (drop (suc i) (take used keys)) key) =
        row_next_lem (take used keys) i key (omega arith) (λ q. e (sym (get_or-take used keys i 0 h) ∙ q)) in
        rw add-one (omega arith)

    -- the same, the next row by another name
    row_more_to : (j : ℕ) → j ≡ i + 1 → i < used → (get_or keys i 0 ≡ key → ⊥) → whole ≡ j + row_of (drop j (take used keys)) key
    row_more_to j e h ne = rw e (row_more h ne)

    pub row_none : used ≤ i → i ≤ used → used ≡ whole
    row_none h g =
        let n : length (take used keys) ≡ used = length-take-le used keys fits in
        let z : row_of (drop i (take used keys)) key ≡ 0 = rw (drop_of_length-le (take used keys) {i = i} (omega arith)) in
        omega arith

  -- what is left of the rows gives the rest
  pub left_over : (i r : ℕ) → whole ≡ i + row_of (drop i (take used keys)) key → r ≡ i + row_of (drop i (take used keys)) key → r ≡ whole
  left_over i r inv e = e ∙ sym inv

  -- four rows a turn: found at the first, the second, the third, the fourth; at none of them
  pub first_found : (i : ℕ) → whole ≡ i + row_of (drop i (take used keys)) key → 4 ≤ used - i → get_or keys i 0 ≡ key → i ≡ whole
  first_found i inv four = row_found i inv (omega arith)

  module _ (i : ℕ) (inv : whole ≡ i + row_of (drop i (take used keys)) key) (four : 4 ≤ used - i) (first : get_or keys i 0 ≡ key → ⊥) where
    past_first : whole ≡ i + 1 + row_of (drop (i + 1) (take used keys)) key
    past_first = row_more i inv (omega arith) first

    pub second_found : get_or keys (i + 1) 0 ≡ key → i + 1 ≡ whole
    second_found = row_found (i + 1) past_first (omega arith)

    module _ (second : get_or keys (i + 1) 0 ≡ key → ⊥) where
      past_second : whole ≡ i + 2 + row_of (drop (i + 2) (take used keys)) key
      past_second = row_more_to (i + 1) past_first (i + 2) (omega arith) (omega arith) second

      pub third_found : get_or keys (i + 2) 0 ≡ key → i + 2 ≡ whole
      third_found = row_found (i + 2) past_second (omega arith)

      module _ (third : get_or keys (i + 2) 0 ≡ key → ⊥) where
        past_third : whole ≡ i + 3 + row_of (drop (i + 3) (take used keys)) key
        past_third = row_more_to (i + 2) past_second (i + 3) (omega arith) (omega arith) third

        pub fourth_found : get_or keys (i + 3) 0 ≡ key → i + 3 ≡ whole
        fourth_found = row_found (i + 3) past_third (omega arith)

        pub four_more : (get_or keys (i + 3) 0 ≡ key → ⊥) → whole ≡ i + 4 + row_of (drop (i + 4) (take used keys)) key
        four_more = row_more_to (i + 3) past_third (i + 4) (omega arith) (omega arith)
