-- What the test says of the rows, both ways, and examples.
-- Assumes nothing.
use mathlib.Core.Path.{◌≡◌, refl, sym, ap, ◌∙◌}
use mathlib.Core.List.{List, ◌∷◌}
use mathlib.Core.Bool.{Bool, true, false, ◌&&◌, ◌||◌, and-true, or-true, or-false, true≢false}
use Prim.Native.Nat.{ℕ, zero, suc, ◌+◌, ◌-◌, ◌*◌, ◌≤◌, ◌<◌}
use native.Mathlib.Omega.{arith}
use borrow.Author.Tests.{eq-eqb, ne_eqb, eqb-true, eqb-false}
use lib.Dec.{eqb}
use lib.ListN.{length, get_or, replicate}
use mathlib.Core.List.{◌++◌}
use Rattle.cells.specs.Cells.{slot_whole, all_whole}
use Rattle.rows.specs.Rows.{word, last_of, slots_at, row_slots, rows_whole}
use Rattle.rows.proofs.Loops.{row_single, rows_turn}
use Rattle.without_pid.specs.Pids.{without_pid}

-- ---- the loop

pub none_yet : (heads : List ℕ) → without_pid heads 0 ≡ false
unfolding without_pid
none_yet heads = refl

pub next_row : (heads : List ℕ) (i : ℕ) (found : Bool) → found ≡ without_pid heads i → (found || eqb (get_or heads (i * 12) 0) 8192) ≡ without_pid heads (i + 1)
unfolding without_pid
next_row heads i found e = let z : i + 1 ≡ suc i = omega arith in rw z (step e)
  where
    step : found ≡ without_pid heads i → (found || eqb (get_or heads (i * 12) 0) 8192) ≡ without_pid heads (suc i)
    step e = let y : i * 12 + 0 ≡ i * 12 = omega arith in rw (e, y)

pub at_end_lem : (heads : List ℕ) (i used : ℕ) (found : Bool) → found ≡ without_pid heads i → i ≤ used → used ≤ i → found ≡ without_pid heads used
at_end_lem heads i used found e h k = let z : used ≡ i = omega (arith, h, k) in rw z e

-- the pass from the last row down: what is still to be looked at, or what was found
pub down_start : (heads : List ℕ) (used : ℕ) → without_pid heads used ≡ (without_pid heads used || false)
down_start heads used = sym (or-false (without_pid heads used))

or_swap : (a b c : Bool) → ((a || b) || c) ≡ (a || (c || b))
or_swap true b c = refl
or_swap false true true = refl
or_swap false true false = refl
or_swap false false true = refl
or_swap false false false = refl

pub down_row : (heads : List ℕ) (used i : ℕ) (found : Bool) → 0 < i → without_pid heads used ≡ (without_pid heads i || found)
    → without_pid heads used ≡ (without_pid heads (i - 1) || (found || eqb (get_or heads ((i - 1) * 12) 0) 8192))
unfolding without_pid
down_row heads used zero found p e = absurd (omega (arith, p))
down_row heads used (suc j) found p e =
    let y : j * 12 + 0 ≡ j * 12 = omega arith in
    let z : suc j - 1 ≡ j = omega arith in
    rw z (e ∙ or_swap (without_pid heads j) (eqb (word heads j 0) 8192) found ∙ rw y refl)

pub down_end : (heads : List ℕ) (used i : ℕ) (found : Bool) → i ≤ 0 → without_pid heads used ≡ (without_pid heads i || found) → found ≡ without_pid heads used
unfolding without_pid
down_end heads used zero found p e = sym e
down_end heads used (suc i) found p e = absurd (omega (arith, p))

-- ---- a row of one slot that is filled and whole, with a PID

pub not_plain : (A : Type 0) → false ≡ true → A
not_plain A e = absurd (true≢false (sym e))

pub plain_slot : (heads slots : List ℕ) (count size i l w : ℕ) (r : Bool) → l ≡ last_of heads i → l ≡ 0 → i * 288 + 288 ≤ length slots → w ≡ get_or slots (slots_at i + 0) 0
    → (r ≡ true → slot_whole count size w ≡ true) → r ≡ true → all_whole count size (row_slots heads slots i) ≡ true
plain_slot heads slots count size i l w r e z h f g t = sym (row_single heads slots count size i l w r e z h f g t)

-- such a row changes nothing of what was seen
pub plain_whole : (heads slots : List ℕ) (count size used i : ℕ) (ok r : Bool) → 0 < i → (r ≡ true → all_whole count size (row_slots heads slots (i - 1)) ≡ true) → r ≡ true
    → rows_whole heads slots count size used ≡ (ok && rows_whole heads slots count size i)
    → rows_whole heads slots count size used ≡ (ok && rows_whole heads slots count size (i - 1))
plain_whole heads slots count size used i ok r p h t e =
    rows_turn heads slots count size used i ok true p (sym (h t)) e ∙ ap (λ (b : Bool). b && rows_whole heads slots count size (i - 1)) (and-true ok)

pub plain_pid : (heads : List ℕ) (used i : ℕ) (found r : Bool) → 0 < i → (r ≡ true → eqb (get_or heads ((i - 1) * 12) 0) 8192 ≡ false) → r ≡ true
    → without_pid heads used ≡ (without_pid heads i || found)
    → without_pid heads used ≡ (without_pid heads (i - 1) || found)
plain_pid heads used i found r p h t e =
    down_row heads used i found p e
    ∙ ap (λ (b : Bool). without_pid heads (i - 1) || (found || b)) (h t)
    ∙ ap (λ (b : Bool). without_pid heads (i - 1) || b) (or-false found)

pub first : {A B C : Type 0} → (C → A × B) → C → A
first h c = (h c).0

pub second : {A B C : Type 0} → (C → A × B) → C → B
second h c = (h c).1

-- ---- what it says

-- no row in use without a PID: the test is false
pub each_has : (heads : List ℕ) (used : ℕ) → ((i : ℕ) → i < used → word heads i 0 ≡ 8192 → ⊥) → without_pid heads used ≡ false
unfolding without_pid
each_has heads zero h = refl
each_has heads (suc n) h = rw (each_has heads n (λ i k e. h i (omega (arith, k)) e), ne_eqb (word heads n 0) 8192 (h n (omega arith)))

-- one of them without: the test is true
pub one_without : (heads : List ℕ) (used i : ℕ) → i < used → word heads i 0 ≡ 8192 → without_pid heads used ≡ true
unfolding without_pid
one_without heads zero i h e = absurd (omega (arith, h))
one_without heads (suc n) i h e = go (without_pid heads n) (eqb i n) refl refl (λ k. one_without heads n i k e)
  where
    go : (b s : Bool) → without_pid heads n ≡ b → eqb i n ≡ s → (i < n → without_pid heads n ≡ true) → (without_pid heads n || eqb (word heads n 0) 8192) ≡ true
    go b true p q r = let z : i ≡ n = eqb-true i n q in let w : word heads n 0 ≡ 8192 = rw (← z) e in rw (eq-eqb (word heads n 0) 8192 w, or-true (without_pid heads n))
    go b false p q r = rw (r (omega (arith, h, eqb-false i n q)))

-- ---- examples: a head has twelve words

abbrev row : ℕ → List ℕ
row pid = pid ∷ replicate 11 0

pub none_in_use : without_pid (row 17 ++ row 8192) 1 ≡ false
unfolding without_pid
none_in_use = refl

pub second_without : without_pid (row 17 ++ row 8192) 2 ≡ true
unfolding without_pid
second_without = refl

-- no PID, and not "none"
pub larger : without_pid (row 8193 ++ row 18446744073709551615) 2 ≡ false
unfolding without_pid
larger = refl
