-- The rows in use, the newest first: how an arrival and an eviction change this list; and that the first row of it with a key is the ring's row
-- of that key, where each key stands once.
-- Assumes nothing.
use Prim.Native.Nat.{ℕ, zero, suc, ◌+◌, ◌-◌, ◌%◌, ◌<◌, ◌≤◌}
use mathlib.Core.Path.{◌≡◌, refl, sym, ap, ◌∙◌}
use mathlib.Core.Logic.{◌⊎◌, inl, inr}
use mathlib.Core.List.{List, [], ◌∷◌, ◌++◌, append-nil, append_assoc}
use mathlib.Core.Bool.{Bool, true, false, cond}
use lib.ListN.{length, get_or, length-append}
use lib.Dec.{eqb}
use native.Mathlib.Nat.{mod-eq_of_lt, mod_self}
use native.Mathlib.Numerals.{add-one}
use native.Mathlib.Decide.{dec_lt}
use native.Mathlib.Omega.{arith}
use borrow.Author.Tests.{eqb-true, eqb-false, eq-eqb, ne_eqb}
use Rattle.ring.specs.Store.{row_of}
use Rattle.ring.specs.Rules.{count_key}
use Rattle.ring.specs.View.{rows_of}
use Rattle.ring_index.specs.Store.{bucket_of}
use Rattle.ring_index.proofs.Chains.{All, none, more, Lacks, all_append, all_left_lem, all_right, chain, pick_of}

-- n rows from a on, the last first
abbrev pub span : ℕ → ℕ → List ℕ
span a zero = []
span a (suc n) = (a + n) ∷ span a n

module _ {P : ℕ → Type 0} where
  all_span : (a n : ℕ) → ((i : ℕ) → a ≤ i → i < a + n → P i) → All P (span a n)
  all_span a zero f = none
  all_span a (suc n) f = more (f (a + n) (omega arith) (omega arith)) (all_span a n (λ i g h. f i g (omega arith)))

  span_at : (a n i : ℕ) → All P (span a n) → a ≤ i → i < a + n → P i
  span_at a zero i s g h = absurd (omega arith)
  span_at a (suc n) i (more p s) g h = go (eqb i (a + n)) refl (span_at a n i s)
    where
      go : (t : Bool) → eqb i (a + n) ≡ t → (a ≤ i → i < a + n → P i) → P i
      go true e f = rw (eqb-true i (a + n) e) p
      go false e f = let q : i ≡ a + n → ⊥ = eqb-false _ _ e in f g (omega arith)

length_span : (a n : ℕ) → length (span a n) ≡ n
length_span a zero = refl
length_span a (suc n) = ap suc (length_span a n)

span_end : (a n : ℕ) → span a (suc n) ≡ span (suc a) n ++ (a ∷ [])
span_end a zero = let e : a + 0 ≡ a = omega arith in ap (λ (k : ℕ). k ∷ []) e
span_end a (suc n) = let e : a + suc n ≡ suc a + n = omega arith in rw (span_end a n) (ap (λ (k : ℕ). k ∷ (span (suc a) n ++ (a ∷ []))) e)

-- the rows in use, the newest first: down from the row before the first of all, and then down to it
abbrev pub newest : ℕ → ℕ → List ℕ
newest first used = span 0 first ++ span first (used - first)

-- without the first of all
abbrev pub newer : ℕ → ℕ → List ℕ
newer first used = span 0 first ++ span (suc first) (used - suc first)

module _ (first used : ℕ) (h : first ≤ used) where
  pub newest_used : All (λ x. x < used) (newest first used)
  newest_used = all_append (all_span 0 first (λ i p q. omega arith)) (all_span first (used - first) (λ i p q. omega arith))

  pub newest_length : length (newest first used) ≡ used
  newest_length = omega (arith, length-append (span 0 first) (span first (used - first)), length_span 0 first, length_span first (used - first))

  pub newest_at : {P : ℕ → Type 0} (i : ℕ) → i < used → All P (newest first used) → P i
  newest_at {P} i l a = go (dec_lt i first)
    where
      go : Dec (i < first) → P i
      go (yes q) = span_at 0 first i (all_left_lem (span 0 first) (span first (used - first)) a) (omega arith) (omega arith)
      go (no q) = span_at first (used - first) i (all_right (span 0 first) (span first (used - first)) a) (omega arith) (omega arith)

pub newest_free : (used : ℕ) → newest 0 (used + 1) ≡ used ∷ newest 0 used
newest_free used =
    let a : used + 1 - 0 ≡ suc used = omega arith in
    let b : used - 0 ≡ used = omega arith in
    let c : 0 + used ≡ used = omega arith in
    rw (a, b) (ap (λ (k : ℕ). k ∷ span 0 used) c)

module _ (first used : ℕ) (h : first < used) where
  count : used - first ≡ suc (used - suc first)
  count = omega arith

  pub newest_full : newest first used ≡ newer first used ++ (first ∷ [])
  newest_full = rw (count, span_end first (used - suc first)) (sym (append_assoc (span 0 first) (span (suc first) (used - suc first)) (first ∷ [])))

  pub newer_lacks : Lacks first (newer first used)
  newer_lacks = all_append (all_span 0 first (λ i p q e. omega arith)) (all_span (suc first) (used - suc first) (λ i p q e. omega arith))

  pub newest_turned : newest ((first + 1) % used) used ≡ first ∷ newer first used
  newest_turned = go (dec_lt (first + 1) used)
    where
      same : 0 + first ≡ first
      same = omega arith

      go : Dec (first + 1 < used) → newest ((first + 1) % used) used ≡ first ∷ newer first used
      go (yes q) = rw (mod-eq_of_lt q, add-one first) (ap (λ (k : ℕ). k ∷ newer first used) same)
      go (no q) =
          let e : first + 1 ≡ used = omega arith in
          let z : used - suc first ≡ 0 = omega arith in
          let u : used - 0 ≡ suc first = omega arith in
          rw (e, mod_self used, z, append-nil (span 0 first), u) (ap (λ (k : ℕ). k ∷ span 0 first) same)

-- ---- the row of a key

-- the rows of other buckets have other keys
pub pick_chain :
    (keys : List ℕ) (used key room : ℕ) (l : List ℕ) →
    pick_of keys used key (chain (λ i. bucket_of (get_or keys i 0) room) (bucket_of key room) l) ≡ pick_of keys used key l
pick_chain keys used key room [] = refl
pick_chain keys used key room (x ∷ l) = go (eqb (get_or keys x 0) key) refl (pick_chain keys used key room l)
  where
    c : List ℕ
    c = chain (λ i. bucket_of (get_or keys i 0) room) (bucket_of key room) l

    take : (t : Bool) → t ≡ true → eqb (get_or keys x 0) key ≡ true → pick_of keys used key (cond t (x ∷ c) c) ≡ x
    take true q e = rw e
    take false q e = let z : ◌≡◌ {A = ℕ} 0 1 = cc in absurd (omega arith)

    skip : (t : Bool) → eqb (get_or keys x 0) key ≡ false → pick_of keys used key c ≡ pick_of keys used key l → pick_of keys used key (cond t (x ∷ c) c) ≡ pick_of keys used key l
    skip true e ih = rw e ih
    skip false e ih = ih

    go :
        (t : Bool) → eqb (get_or keys x 0) key ≡ t → pick_of keys used key c ≡ pick_of keys used key l →
        pick_of keys used key (cond (eqb (bucket_of (get_or keys x 0) room) (bucket_of key room)) (x ∷ c) c) ≡ cond t x (pick_of keys used key l)
    go true e ih = take (eqb (bucket_of (get_or keys x 0) room) (bucket_of key room)) (eq-eqb _ _ (ap (λ (k : ℕ). bucket_of k room) (eqb-true _ _ e))) e
    go false e ih = skip (eqb (bucket_of (get_or keys x 0) room) (bucket_of key room)) e ih

-- where a key stands in one row at most
module _ (keys : List ℕ) (used key row : ℕ) (once : (j : ℕ) → j < used → get_or keys j 0 ≡ key → row ≡ j) where
  pick_none : (l : List ℕ) → All (λ x. x < used) l → used ≤ row → pick_of keys used key l ≡ used
  pick_none [] a h = refl
  pick_none (x ∷ l) (more p a) h =
      rw (ne_eqb (get_or keys x 0) key (λ e. let q : row ≡ x = once x p e in omega arith)) (pick_none l a h)

  pick_some : (l : List ℕ) → get_or keys row 0 ≡ key → All (λ x. x < used) l → (pick_of keys used key l ≡ row) ⊎ Lacks row l
  pick_some [] k a = inr none
  pick_some (x ∷ l) k (more p a) = go (eqb (get_or keys x 0) key) refl (pick_some l k a)
    where
      go : (t : Bool) → eqb (get_or keys x 0) key ≡ t → (pick_of keys used key l ≡ row) ⊎ Lacks row l → (cond t x (pick_of keys used key l) ≡ row) ⊎ Lacks row (x ∷ l)
      go true e s = inl (sym (once x p (eqb-true _ _ e)))
      go false e (inl s) = inl s
      go false e (inr s) = inr (more (λ q. eqb-false (get_or keys x 0) key e (ap (λ (i : ℕ). get_or keys i 0) q ∙ k)) s)

  pub pick_newest :
      (first : ℕ) → first ≤ used → row ≤ used → (row < used → get_or keys row 0 ≡ key) → pick_of keys used key (newest first used) ≡ row
  pick_newest first h w k = go (dec_lt row used)
    where
      some : row < used → (pick_of keys used key (newest first used) ≡ row) ⊎ Lacks row (newest first used) → pick_of keys used key (newest first used) ≡ row
      some q (inl e) = e
      some q (inr a) = absurd (newest_at first used h row q a refl)

      go : Dec (row < used) → pick_of keys used key (newest first used) ≡ row
      go (yes q) = some q (pick_some (newest first used) (k q) (newest_used first used h))
      go (no q) = pick_none (newest first used) (newest_used first used h) (omega arith) ∙ omega arith

-- the ring's row of a key
pub row_within : (l : List ℕ) (key : ℕ) → row_of l key ≤ length l
row_within [] key = omega arith
row_within (x ∷ l) key = go (eqb x key) (row_within l key)
  where
    go : (t : Bool) → row_of l key ≤ length l → cond t 0 (suc (row_of l key)) ≤ suc (length l)
    go true h = omega arith
    go false h = omega arith

pub row_key_lem : (l : List ℕ) (key : ℕ) → row_of l key < length l → get_or l (row_of l key) 0 ≡ key
row_key_lem [] key h = absurd (omega arith)
row_key_lem (x ∷ l) key h = go (eqb x key) refl h (row_key_lem l key)
  where
    go :
        (t : Bool) → eqb x key ≡ t → cond t 0 (suc (row_of l key)) < suc (length l) → (row_of l key < length l → get_or l (row_of l key) 0 ≡ key) →
        get_or (x ∷ l) (cond t 0 (suc (row_of l key))) 0 ≡ key
    go true e h f = eqb-true _ _ e
    go false e h f = f (omega arith)

count_at : (ks ms : List ℕ) (key j : ℕ) → length ks ≡ length ms → j < length ks → get_or ks j 0 ≡ key → 1 ≤ count_key key (rows_of ks ms)
count_at [] ms key j e h k = absurd (omega arith)
count_at (x ∷ ks) [] key j e h k = absurd (omega arith)
count_at (x ∷ ks) (m ∷ ms) key zero e h k = rw (eq-eqb x key k) (omega arith)
count_at (x ∷ ks) (m ∷ ms) key (suc j) e h k = go (eqb x key) (count_at ks ms key j (omega arith) (omega arith) k)
  where
    go : (t : Bool) {n : ℕ} → 1 ≤ n → 1 ≤ cond t (suc n) n
    go true h = omega arith
    go false h = h

pub row_once :
    (ks ms : List ℕ) (key j : ℕ) → length ks ≡ length ms → count_key key (rows_of ks ms) ≤ 1 → j < length ks → get_or ks j 0 ≡ key → row_of ks key ≡ j
row_once [] ms key j e c h k = absurd (omega arith)
row_once (x ∷ ks) [] key j e c h k = absurd (omega arith)
row_once (x ∷ ks) (m ∷ ms) key zero e c h k = rw (eq-eqb x key k)
row_once (x ∷ ks) (m ∷ ms) key (suc j) e c h k =
    go (eqb x key) c (count_at ks ms key j (omega arith) (omega arith) k) (λ d. row_once ks ms key j (omega arith) d (omega arith) k)
  where
    go : (t : Bool) {n : ℕ} → cond t (suc n) n ≤ 1 → 1 ≤ n → (n ≤ 1 → row_of ks key ≡ j) → cond t 0 (suc (row_of ks key)) ≡ suc j
    go true c o f = absurd (omega arith)
    go false c o f = ap suc (f c)
