-- What a complete set has, segment by segment and slot by slot.
-- Assumes nothing.
use mathlib.Core.Path.{◌≡◌, refl, sym, subst}
use mathlib.Core.Logic.{◌⊎◌, inl, inr}
use mathlib.Core.Bool.{true, true≢false}
use mathlib.Core.Option.{Option, none, some}
use mathlib.Core.List.{List}
use Prim.Native.Nat.{ℕ, zero, suc, ◌+◌, ◌*◌, ◌-◌, ◌≤◌, ◌<◌}
use native.Mathlib.Omega.{arith}
use native.Mathlib.Nat.{eq-or-lt_of_le}
use lib.ListN.{get_or}
use Rattle.laws.proofs.Tests.{and_true, true_and, none≢some}
use Rattle.rules_shared.specs.Slots.{is_held}
use Rattle.rules_eit.specs.Segments.{segment_of, segment_end, SegmentLasts, SetOf, held_from, segment_full, segments_full, complete}

module _ {A : Type 0} where
  -- a slot holds a section
  abbrev pub Filled : List (Option A) → ℕ → Type 0
  Filled slots i = (a : A) × (get_or slots i none ≡ some a)

  held_some : (o : Option A) → is_held o ≡ true → (a : A) × (o ≡ some a)
  unfolding is_held
  held_some none h = absurd (true≢false (sym h))
  held_some (some a) h = (a, refl)

  some_held_lem : (o : Option A) (a : A) → o ≡ some a → is_held o ≡ true
  unfolding is_held
  some_held_lem none a e = absurd (none≢some refl e)
  some_held_lem (some b) a e = refl

  held_at : (slots : List (Option A)) (a n : ℕ) → held_from slots a n ≡ true → (i : ℕ) → a ≤ i → i < a + n → Filled slots i
  unfolding held_from
  held_at slots a zero h i p q = absurd (omega arith)
  held_at slots a (suc n) h i p q =
      let c = and_true (is_held (get_or slots a none)) (held_from slots (suc a) n) h in
      go (eq-or-lt_of_le p) c.0 (λ r. held_at slots (suc a) n c.1 i r (omega arith))
    where
      go : (a ≡ i) ⊎ (a < i) → is_held (get_or slots a none) ≡ true → (suc a ≤ i → Filled slots i) → Filled slots i
      go (inl e) t ih = held_some (get_or slots i none) (subst (λ (k : ℕ). is_held (get_or slots k none) ≡ true) e t)
      go (inr r) t ih = ih r

  at_held : (slots : List (Option A)) (a n : ℕ) → ((i : ℕ) → a ≤ i → i < a + n → Filled slots i) → held_from slots a n ≡ true
  unfolding held_from
  at_held slots a zero f = refl
  at_held slots a (suc n) f =
      let b = f a (omega arith) (omega arith) in
      true_and (some_held_lem (get_or slots a none) b.0 b.1) (at_held slots (suc a) n (λ i p q. f i (omega arith) (omega arith)))

  -- segment g "has a last number and all slots from start to min(start + number mod 8, last_section_number) are filled"
  pub record SegmentFilled (last : ℕ) (slots : List (Option A)) (lasts : SegmentLasts) (g : ℕ) : Type 0 where
    pub number : ℕ
    pub noted : get_or lasts g none ≡ some number
    pub filled : (i : ℕ) → 8 * g ≤ i → i ≤ segment_end (8 * g) number last → Filled slots i

  module _ (last : ℕ) (slots : List (Option A)) (lasts : SegmentLasts) where
    full_filled : (g : ℕ) → segment_full last slots (8 * g) (get_or lasts g none) ≡ true → SegmentFilled last slots lasts g
    unfolding segment_full
    full_filled g h = go (get_or lasts g none) refl h
      where
        go : (o : Option ℕ) → get_or lasts g none ≡ o → segment_full last slots (8 * g) o ≡ true → SegmentFilled last slots lasts g
        go none e j = absurd (true≢false (sym j))
        go (some m) e j = record { number = m; noted = e; filled = λ i p q. held_at slots (8 * g) _ j i p (omega arith) }

    filled_full : (g : ℕ) → SegmentFilled last slots lasts g → segment_full last slots (8 * g) (get_or lasts g none) ≡ true
    unfolding segment_full
    filled_full g f = rw f.noted (at_held slots (8 * g) (suc (segment_end (8 * g) f.number last) - 8 * g) (λ i p q. f.filled i p (omega arith)))

    fulls_filled : (g n : ℕ) → segments_full last slots lasts g n ≡ true → (j : ℕ) → g ≤ j → j < g + n → SegmentFilled last slots lasts j
    unfolding segments_full
    fulls_filled g zero h j p q = absurd (omega arith)
    fulls_filled g (suc n) h j p q =
        let c = and_true (segment_full last slots (8 * g) (get_or lasts g none)) (segments_full last slots lasts (suc g) n) h in
        go (eq-or-lt_of_le p) (full_filled g c.0) (λ r. fulls_filled (suc g) n c.1 j r (omega arith))
      where
        go : (g ≡ j) ⊎ (g < j) → SegmentFilled last slots lasts g → (suc g ≤ j → SegmentFilled last slots lasts j) → SegmentFilled last slots lasts j
        go (inl e) t ih = subst (SegmentFilled last slots lasts) e t
        go (inr r) t ih = ih r

    filled_fulls : (g n : ℕ) → ((j : ℕ) → g ≤ j → j < g + n → SegmentFilled last slots lasts j) → segments_full last slots lasts g n ≡ true
    unfolding segments_full
    filled_fulls g zero f = refl
    filled_fulls g (suc n) f = true_and (filled_full g (f g (omega arith) (omega arith))) (filled_fulls (suc g) n (λ j p q. f j (omega arith) (omega arith)))

  -- "A set is complete if each segment from 0 to last_section_number / 8" is filled: and only then
  abbrev pub EachFilled : SetOf A → Type 0
  EachFilled r = (g : ℕ) → g ≤ segment_of r.last → SegmentFilled r.last r.slots r.notes g

  pub complete_filled : (r : SetOf A) → complete r ≡ true → EachFilled r
  unfolding complete
  complete_filled r h g p = fulls_filled r.last r.slots r.notes 0 (suc (segment_of r.last)) h g (omega arith) (omega arith)

  pub filled_complete : (r : SetOf A) → EachFilled r → complete r ≡ true
  unfolding complete
  filled_complete r f = filled_fulls r.last r.slots r.notes 0 (suc (segment_of r.last)) (λ g p q. f g (omega arith))
