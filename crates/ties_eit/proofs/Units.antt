-- Units: what a schedule's places show once a set was put in, the tables were taken out, or the schedule was refilled.
-- Assumes nothing.
use mathlib.Core.Path.{◌≡◌, refl, ap, ◌∙◌}
use mathlib.Core.Logic.{◌≢◌, ◌⊎◌, inl, inr}
use mathlib.Core.Bool.{Bool, true, false, cond, ◌&&◌}
use mathlib.Core.Option.{Option, none, some}
use mathlib.Core.List.{List}
use Prim.Native.Nat.{ℕ, zero, suc, ◌+◌, ◌-◌, ◌*◌, ◌%◌, ◌≤◌, ◌<◌}
use native.Mathlib.Nat.{le_refl, not-suc-le-zero}
use native.Mathlib.Decide.{ℕ_discrete, dec_lt}
use native.Mathlib.Omega.{arith}
use borrow.Author.Tests.{ltb-true}
use lib.Dec.{eqb, ltb}
use lib.ListN.{length, get_or, take, drop, length-set}
use lib.Seq.{get_or-set_same, get_or-set_other, paste, length-paste, take_all}
use Rattle.laws.proofs.Lists.{paste_past, paste_before}
use Rattle.rules_shared.specs.Cells.{Held}
use Rattle.rules_eit.specs.Schedules.{CopyOf, copy_of}
use Rattle.rows.specs.declared.Key.{Key}
use Rattle.rows.specs.Rows.{row_of, row_slots, slots_at, slot_count, last_of, version_of}
use Rattle.rows.proofs.Words.{length_slots}
use Rattle.ticks.proofs.Slots.{part_alike, part_pasted}
use Rattle.segments.specs.Segments.{word_of, with_word, set_complete}
use Rattle.units.specs.Units.{unit_slots, without_units, with_words, with_set, first_table, with_table, with_complete, with_table_set, refilled}
use Rattle.ties_eit.specs.View.{row_seen, copy_seen, HeadFits}

-- ---- words of units

put_same : (units : List ℕ) (u k v : ℕ) → u * 288 + k < length units → word_of (with_word u k v units) u k ≡ v
put_same units u k v l = get_or-set_same units (u * 288 + k) v 0 l

put_not : (units : List ℕ) (u k v j m : ℕ) → k < 288 → m < 288 → (j ≢ u) ⊎ (m ≢ k) → word_of (with_word u k v units) j m ≡ word_of units j m
put_not units u k v j m hk hm o = get_or-set_other units (u * 288 + k) (j * 288 + m) v 0 (away o)
  where
    away : (j ≢ u) ⊎ (m ≢ k) → j * 288 + m ≢ u * 288 + k
    away (inl n) = omega arith
    away (inr n) = omega arith

-- a unit's 288 words are all that its copy knows
pub copy_same : (units units' : List ℕ) (u : ℕ) → length units' ≡ length units → ((k : ℕ) → k < 288 → word_of units' u k ≡ word_of units u k) → copy_seen units' u ≡ copy_seen units u
unfolding copy_seen unit_slots
copy_same units units' u l e =
    rw (
      e 0 (omega arith),
      e 1 (omega arith),
      e 2 (omega arith),
      part_alike 0 units' units (slots_at u) (slot_count (word_of units u 2)) l (λ k a b.
          let z : u * 288 + (k - u * 288) ≡ k = omega arith in
          let q : get_or units' (u * 288 + (k - u * 288)) 0 ≡ get_or units (u * 288 + (k - u * 288)) 0 = e (k - u * 288) (omega arith) in
          rw z at q),
    )

-- its first three words and its slots, wherever they stand
pub copy_as : (units units' : List ℕ) (u u' : ℕ) → word_of units' u' 0 ≡ word_of units u 0 → word_of units' u' 1 ≡ word_of units u 1 → word_of units' u' 2 ≡ word_of units u 2
    → take (slot_count (word_of units u 2)) (drop (slots_at u') units') ≡ take (slot_count (word_of units u 2)) (drop (slots_at u) units) → copy_seen units' u' ≡ copy_seen units u
unfolding copy_seen unit_slots
copy_as units units' u u' a b c d = rw (a, b, c, d)

copy_none : (units : List ℕ) (u : ℕ) → word_of units u 0 ≡ 0 → copy_seen units u ≡ none
unfolding copy_seen
copy_none units u e = rw e

-- ---- a set is put in

module _ (heads slots : List ℕ) (i u : ℕ) (units : List ℕ) (in_slots : i * 288 + 288 ≤ length slots) (in_units : u * 288 + 288 ≤ length units) where
  abbrev part : List ℕ
  part = row_slots heads slots i

  abbrev pasted : List ℕ
  pasted = paste units (slots_at u) part (length part)

  part_length : length part ≡ slot_count (last_of heads i)
  part_length = length_slots heads slots i in_slots

  pasted_length : length pasted ≡ length units
  pasted_length = let d = part_length in length-paste units (slots_at u) part (length part) (omega arith) (le_refl (length part))

  words_length : (v m : ℕ) (us : List ℕ) → length (with_words u v m us) ≡ length us
  words_length v m us =
      length-set (with_word u 1 v (with_word u 0 1 us)) (u * 288 + 2) m ∙ length-set (with_word u 0 1 us) (u * 288 + 1) v ∙ length-set us (u * 288 + 0) 1

  pub set_length : length (with_set heads slots i u units) ≡ length units
  unfolding with_set
  set_length = words_length (version_of heads i % 4294967296) (length part - 1) pasted ∙ pasted_length

  words_not : (v n : ℕ) (us : List ℕ) (j m : ℕ) → m < 288 → (j ≢ u) ⊎ (3 ≤ m) → word_of (with_words u v n us) j m ≡ word_of us j m
  words_not v n us j m hm o =
      put_not (with_word u 1 v (with_word u 0 1 us)) u 2 n j m (omega arith) hm (away 2 (omega arith) o)
      ∙ put_not (with_word u 0 1 us) u 1 v j m (omega arith) hm (away 1 (omega arith) o)
      ∙ put_not us u 0 1 j m (omega arith) hm (away 0 (omega arith) o)
    where
      away : (k : ℕ) → k < 3 → (j ≢ u) ⊎ (3 ≤ m) → (j ≢ u) ⊎ (m ≢ k)
      away k h (inl n) = inl n
      away k h (inr n) = inr (omega arith)

  pub set_other : (j : ℕ) → j ≢ u → copy_seen (with_set heads slots i u units) j ≡ copy_seen units j
  unfolding with_set
  set_other j ne =
      copy_same units (with_words u (version_of heads i % 4294967296) (length part - 1) pasted) j set_length (λ m h.
      words_not (version_of heads i % 4294967296) (length part - 1) pasted j m h (inl ne) ∙ beside m h (dec_lt j u))
    where
      d : length part ≡ slot_count (last_of heads i)
      d = part_length

      beside : (m : ℕ) → m < 288 → Dec (j < u) → word_of pasted j m ≡ word_of units j m
      beside m h (yes l) = let z = d in paste_before units (slots_at u) part (length part) (j * 288 + m) 0 (omega arith) (le_refl (length part)) (omega arith)
      beside m h (no l) = let z = d in paste_past units (slots_at u) part (length part) (j * 288 + m) 0 (omega arith) (le_refl (length part)) (omega arith)

  module _ (fit : HeadFits heads i) where
    abbrev v : ℕ
    v = version_of heads i % 4294967296

    abbrev n : ℕ
    n = length part - 1

    w0 : word_of (with_words u v n pasted) u 0 ≡ 1
    w0 =
        let l = pasted_length in
        put_not (with_word u 1 v (with_word u 0 1 pasted)) u 2 n u 0 (omega arith) (omega arith) (inr (omega arith))
        ∙ put_not (with_word u 0 1 pasted) u 1 v u 0 (omega arith) (omega arith) (inr (omega arith))
        ∙ put_same pasted u 0 1 (omega arith)

    w1 : word_of (with_words u v n pasted) u 1 ≡ version_of heads i
    w1 =
        let l = pasted_length in
        let k = length-set pasted (u * 288 + 0) 1 in
        let f = fit.version in
        let z : version_of heads i % 4294967296 ≡ version_of heads i = omega arith in
        put_not (with_word u 1 v (with_word u 0 1 pasted)) u 2 n u 1 (omega arith) (omega arith) (inr (omega arith))
        ∙ put_same (with_word u 0 1 pasted) u 1 v (omega arith) ∙ z

    w2 : word_of (with_words u v n pasted) u 2 ≡ last_of heads i
    w2 =
        let l = pasted_length in
        let d = part_length in
        let k : length (with_word u 1 v (with_word u 0 1 pasted)) ≡ length units = length-set (with_word u 0 1 pasted) (u * 288 + 1) v ∙ length-set pasted (u * 288 + 0) 1 ∙ l in
        let f = fit.last in
        let z : length part - 1 ≡ last_of heads i = omega arith in
        put_same (with_word u 1 v (with_word u 0 1 pasted)) u 2 n (omega arith) ∙ z

    slots_in : unit_slots (with_words u v n pasted) u ≡ part
    unfolding unit_slots
    slots_in =
        let d = part_length in
        let m : slot_count (last_of heads i) ≡ length part = omega arith in
        rw (w2, m)
        (part_alike 0 (with_words u v n pasted) pasted (slots_at u) (length part) (words_length v n pasted) (λ k a b.
        let z : u * 288 + (k - u * 288) ≡ k = omega arith in
        let q : get_or (with_words u v n pasted) (u * 288 + (k - u * 288)) 0 ≡ get_or pasted (u * 288 + (k - u * 288)) 0 = words_not v n pasted u (k - u * 288) (omega arith) (inr (omega arith)) in
        rw z at q)
        ∙ part_pasted units (slots_at u) part (length part) (omega arith) (le_refl (length part)) ∙ take_all (length part) part (le_refl (length part)))

    -- "the set .. put in as a copy"
    pub set_own : copy_seen (with_set heads slots i u units) u ≡ some (copy_of (row_seen heads slots i))
    unfolding with_set copy_seen copy_of row_seen
    set_own = rw (w0, w1, w2, slots_in)

-- ---- the tables are taken out

pub without_length : (base n : ℕ) (units : List ℕ) → length (without_units base n units) ≡ length units
unfolding without_units
without_length base zero units = refl
without_length base (suc n) units = without_length base n (with_word (base + n) 0 0 units) ∙ length-set units ((base + n) * 288 + 0) 0

without_word : (base n : ℕ) (units : List ℕ) (u k : ℕ) → k < 288 → (u < base) ⊎ (base + n ≤ u) → word_of (without_units base n units) u k ≡ word_of units u k
unfolding without_units
without_word base zero units u k h o = refl
without_word base (suc n) units u k h o =
    without_word base n (with_word (base + n) 0 0 units) u k h (past o) ∙ put_not units (base + n) 0 0 u k (omega arith) h (inl (not_it o))
  where
    past : (u < base) ⊎ (base + suc n ≤ u) → (u < base) ⊎ (base + n ≤ u)
    past (inl l) = inl l
    past (inr l) = inr (omega arith)

    not_it : (u < base) ⊎ (base + suc n ≤ u) → u ≢ base + n
    not_it (inl l) = omega arith
    not_it (inr l) = omega arith

pub without_other : (base n : ℕ) (units : List ℕ) (u : ℕ) → (u < base) ⊎ (base + n ≤ u) → copy_seen (without_units base n units) u ≡ copy_seen units u
without_other base n units u o = copy_same units (without_units base n units) u (without_length base n units) (λ k h. without_word base n units u k h o)

without_zero : (base n : ℕ) (units : List ℕ) (u : ℕ) → (base + n) * 288 ≤ length units → base ≤ u → u < base + n → word_of (without_units base n units) u 0 ≡ 0
unfolding without_units
without_zero base zero units u l a b = absurd (omega arith)
without_zero base (suc n) units u l a b =
    go (ℕ_discrete u (base + n)) (λ h. let q = length-set units ((base + n) * 288 + 0) 0 in without_zero base n (with_word (base + n) 0 0 units) u (omega arith) a h)
  where
    go : Dec (u ≡ base + n) → (u < base + n → word_of (without_units base n (with_word (base + n) 0 0 units)) u 0 ≡ 0) → word_of (without_units base n (with_word (base + n) 0 0 units)) u 0 ≡ 0
    go (yes e) ih =
        without_word base n (with_word (base + n) 0 0 units) u 0 (omega arith) (inr (omega arith))
        ∙ ap (λ (x : ℕ). word_of (with_word (base + n) 0 0 units) x 0) e ∙ put_same units (base + n) 0 0 (omega arith)
    go (no ne) ih = ih (omega arith)

pub without_own : (base n : ℕ) (units : List ℕ) (u : ℕ) → (base + n) * 288 ≤ length units → base ≤ u → u < base + n → copy_seen (without_units base n units) u ≡ none
without_own base n units u l a b = copy_none (without_units base n units) u (without_zero base n units u l a b)

-- ---- refilled

-- what goes into place j: the other table's set where it is complete
unfoldable pub copy_for : (heads slots : List ℕ) (used : ℕ) → Key → (own j : ℕ) → Option (CopyOf Held)
copy_for heads slots used key own j =
    let r : ℕ = row_of heads (with_table key (first_table key.table_id + j)) used in
    cond (eqb (first_table key.table_id + j) own) none (cond (ltb r used && set_complete heads slots r) (some (copy_of (row_seen heads slots r))) none)

module _ (heads slots : List ℕ) (used : ℕ) (key : Key) (own base : ℕ) (long : used * 288 ≤ length slots) (fit : (i : ℕ) → i < used → HeadFits heads i) where
  abbrev row_for : ℕ → ℕ
  row_for j = row_of heads (with_table key (first_table key.table_id + j)) used

  table_length : (j : ℕ) (units : List ℕ) → (base + j) * 288 + 288 ≤ length units → length (with_table_set heads slots used key own base j units) ≡ length units
  unfolding with_table_set with_complete
  table_length j units l = go (eqb (first_table key.table_id + j) own) (ltb (row_for j) used) (set_complete heads slots (row_for j)) refl
    where
      go : (a b c : Bool) → ltb (row_for j) used ≡ b → length (cond a units (cond (b && c) (with_set heads slots (row_for j) (base + j) units) units)) ≡ length units
      go true b c e = refl
      go false false c e = refl
      go false true false e = refl
      go false true true e = let h = ltb-true (row_for j) used e in set_length heads slots (row_for j) (base + j) units (omega arith) l

  table_other : (j : ℕ) (units : List ℕ) → (base + j) * 288 + 288 ≤ length units → (u : ℕ) → u ≢ base + j → copy_seen (with_table_set heads slots used key own base j units) u ≡ copy_seen units u
  unfolding with_table_set with_complete
  table_other j units l u ne = go (eqb (first_table key.table_id + j) own) (ltb (row_for j) used) (set_complete heads slots (row_for j)) refl
    where
      go : (a b c : Bool) → ltb (row_for j) used ≡ b → copy_seen (cond a units (cond (b && c) (with_set heads slots (row_for j) (base + j) units) units)) u ≡ copy_seen units u
      go true b c e = refl
      go false false c e = refl
      go false true false e = refl
      go false true true e = let h = ltb-true (row_for j) used e in set_other heads slots (row_for j) (base + j) units (omega arith) l u ne

  table_own : (j : ℕ) (units : List ℕ) → (base + j) * 288 + 288 ≤ length units → copy_seen units (base + j) ≡ none → copy_seen (with_table_set heads slots used key own base j units) (base + j) ≡ copy_for heads slots used key own j
  unfolding with_table_set with_complete copy_for
  table_own j units l e = go (eqb (first_table key.table_id + j) own) (ltb (row_for j) used) (set_complete heads slots (row_for j)) refl
    where
      go : (a b c : Bool) → ltb (row_for j) used ≡ b
          → copy_seen (cond a units (cond (b && c) (with_set heads slots (row_for j) (base + j) units) units)) (base + j) ≡ cond a none (cond (b && c) (some (copy_of (row_seen heads slots (row_for j)))) none)
      go true b c q = e
      go false false c q = e
      go false true false q = e
      go false true true q = let h = ltb-true (row_for j) used q in set_own heads slots (row_for j) (base + j) units (omega arith) l (fit (row_for j) h)

  pub refill_length : (n : ℕ) (units : List ℕ) → (base + n) * 288 ≤ length units → length (refilled heads slots used key own base n units) ≡ length units
  unfolding refilled
  refill_length zero units l = refl
  refill_length (suc n) units l =
      let q = table_length n units (omega arith) in
      refill_length n (with_table_set heads slots used key own base n units) (omega arith) ∙ q

  pub refill_other : (n : ℕ) (units : List ℕ) → (base + n) * 288 ≤ length units → (u : ℕ) → (u < base) ⊎ (base + n ≤ u) → copy_seen (refilled heads slots used key own base n units) u ≡ copy_seen units u
  unfolding refilled
  refill_other zero units l u o = refl
  refill_other (suc n) units l u o =
      let q = table_length n units (omega arith) in
      refill_other n (with_table_set heads slots used key own base n units) (omega arith) u (past o) ∙ table_other n units (omega arith) u (not_it o)
    where
      past : (u < base) ⊎ (base + suc n ≤ u) → (u < base) ⊎ (base + n ≤ u)
      past (inl l) = inl l
      past (inr l) = inr (omega arith)

      not_it : (u < base) ⊎ (base + suc n ≤ u) → u ≢ base + n
      not_it (inl l) = omega arith
      not_it (inr l) = omega arith

  pub refill_own : (n : ℕ) (units : List ℕ) → (base + n) * 288 ≤ length units → ((j : ℕ) → j < n → copy_seen units (base + j) ≡ none) → (j : ℕ) → j < n
      → copy_seen (refilled heads slots used key own base n units) (base + j) ≡ copy_for heads slots used key own j
  unfolding refilled
  refill_own zero units l e j h = absurd (not-suc-le-zero h)
  refill_own (suc n) units l e j h =
      let z = table_length n units (omega arith) in
      go (ℕ_discrete j n) (λ f m. refill_own n (with_table_set heads slots used key own base n units) (omega arith) f j m)
    where
      next : List ℕ
      next = with_table_set heads slots used key own base n units

      next_length : length next ≡ length units
      next_length = table_length n units (omega arith)

      go : Dec (j ≡ n) → (((k : ℕ) → k < n → copy_seen next (base + k) ≡ none) → j < n → copy_seen (refilled heads slots used key own base n next) (base + j) ≡ copy_for heads slots used key own j)
          → copy_seen (refilled heads slots used key own base n next) (base + j) ≡ copy_for heads slots used key own j
      go (yes q) ih =
          let z = next_length in
          rw q (refill_other n next (omega arith) (base + n) (inr (omega arith)) ∙ table_own n units (omega arith) (e n (omega arith)))
      go (no ne) ih = ih (λ k m. table_other n units (omega arith) (base + k) (omega arith) ∙ e k (omega arith)) (omega arith)
