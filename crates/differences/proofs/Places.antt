-- The first place at which two sections differ, block by block and byte by byte.
-- Assumes nothing.
use mathlib.Core.Path.{◌≡◌, refl, sym, ap, ◌∙◌}
use mathlib.Core.Bool.{Bool, true, false, cond, not, ◌&&◌, true≢false}
use mathlib.Core.List.{List, [], ◌∷◌, head-eq_of_cons-eq, tail-eq_of_cons-eq}
use Prim.Native.Nat.{ℕ, zero, suc, ◌+◌, ◌-◌, ◌≤◌, ◌<◌, min}
use native.Mathlib.Nat.{add-sub_cancel_left, zero-add, add-zero, suc-add, add_assoc}
use native.Mathlib.Omega.{arith}
use lib.ListN.{length, take, drop, get_or, length-drop}
use lib.Seq.{drop-drop, get_or-drop}
use lib.Dec.{eqb}
use borrow.Author.Tests.{eq-eqb, ne_eqb, eqb-true, eqb-false, not-false}
use Rattle.laws.specs.Lists.{same_list}
use Rattle.laws.proofs.Search.{same_true}
use Rattle.laws.proofs.Tests.{and_true, eqb_sym}
use Rattle.differences.specs.Rules.{first_place, kind_of, place_of}
use Rattle.differences.specs.Walk.{SameTo, only_of, difference_of}
use Rattle.differences.specs.declared.Difference.{Difference}

-- ---- what the place is

pub place_first : (x y : List ℕ) → first_place x y ≤ length x
unfolding first_place
place_first [] ys = omega arith
place_first (x ∷ xs) [] = omega arith
place_first (x ∷ xs) (y ∷ ys) = go (eqb x y) (place_first xs ys)
  where
    go : (b : Bool) → first_place xs ys ≤ length xs → cond b (suc (first_place xs ys)) 0 ≤ suc (length xs)
    go true h = omega arith
    go false h = omega arith

pub place_swap : (x y : List ℕ) → first_place x y ≡ first_place y x
unfolding first_place
place_swap [] [] = refl
place_swap [] (y ∷ ys) = refl
place_swap (x ∷ xs) [] = refl
place_swap (x ∷ xs) (y ∷ ys) = rw (eqb_sym x y, place_swap xs ys)

pub place_second : (x y : List ℕ) → first_place x y ≤ length y
place_second x y = rw (place_swap x y) (place_first y x)

-- the bytes before it are equal
pub place_before : (x y : List ℕ) → take (first_place x y) x ≡ take (first_place x y) y
unfolding first_place
place_before [] [] = refl
place_before [] (y ∷ ys) = refl
place_before (x ∷ xs) [] = refl
place_before (x ∷ xs) (y ∷ ys) = go (eqb x y) refl (place_before xs ys)
  where
    go : (b : Bool) → eqb x y ≡ b → take (first_place xs ys) xs ≡ take (first_place xs ys) ys
        → take (cond b (suc (first_place xs ys)) 0) (x ∷ xs) ≡ take (cond b (suc (first_place xs ys)) 0) (y ∷ ys)
    go true e h = let p = eqb-true x y e in λ i. p i ∷ h i
    go false e h = refl

-- and at it they differ, or one ends
pub place_at_lem : (x y : List ℕ) → first_place x y < length x → first_place x y < length y → get_or x (first_place x y) 0 ≡ get_or y (first_place x y) 0 → ⊥
unfolding first_place
place_at_lem [] ys h l e = omega arith
place_at_lem (x ∷ xs) [] h l e = omega arith
place_at_lem (x ∷ xs) (y ∷ ys) h l e = go (eqb x y) refl (λ (a : first_place xs ys < length xs) (b : first_place xs ys < length ys) (q : get_or xs (first_place xs ys) 0 ≡ get_or ys (first_place xs ys) 0). place_at_lem xs ys a b q) h l e
  where
    go : (b : Bool) → eqb x y ≡ b → (first_place xs ys < length xs → first_place xs ys < length ys → get_or xs (first_place xs ys) 0 ≡ get_or ys (first_place xs ys) 0 → ⊥)
        → cond b (suc (first_place xs ys)) 0 < suc (length xs) → cond b (suc (first_place xs ys)) 0 < suc (length ys)
        → get_or (x ∷ xs) (cond b (suc (first_place xs ys)) 0) 0 ≡ get_or (y ∷ ys) (cond b (suc (first_place xs ys)) 0) 0 → ⊥
    go true e f h l q = f (omega arith) (omega arith) q
    go false e f h l q = eqb-false x y e q

-- two that are equal up to both ends are the same
pub place_all : (x y : List ℕ) → first_place x y ≡ length x → first_place x y ≡ length y → same_list x y ≡ true
unfolding first_place same_list
place_all [] [] h l = refl
place_all [] (y ∷ ys) h l = absurd (omega arith)
place_all (x ∷ xs) [] h l = absurd (omega arith)
place_all (x ∷ xs) (y ∷ ys) h l = go (eqb x y) refl (λ (a : first_place xs ys ≡ length xs) (b : first_place xs ys ≡ length ys). place_all xs ys a b) h l
  where
    go : (b : Bool) → eqb x y ≡ b → (first_place xs ys ≡ length xs → first_place xs ys ≡ length ys → same_list xs ys ≡ true)
        → cond b (suc (first_place xs ys)) 0 ≡ suc (length xs) → cond b (suc (first_place xs ys)) 0 ≡ suc (length ys) → (eqb x y && same_list xs ys) ≡ true
    go true e f h l = rw e (f (omega arith) (omega arith))
    go false e f h l = absurd (omega arith)

pub place_same : (x : List ℕ) → first_place x x ≡ length x
unfolding first_place
place_same [] = refl
place_same (x ∷ xs) = rw (eq-eqb x x refl, place_same xs)

-- ---- block by block, byte by byte

place_byte : (x y : List ℕ) → (0 < length x) → (0 < length y) → get_or x 0 0 ≡ get_or y 0 0 → first_place x y ≡ 1 + first_place (drop 1 x) (drop 1 y)
unfolding first_place
place_byte [] ys h l e = absurd (omega arith)
place_byte (x ∷ xs) [] h l e = absurd (omega arith)
place_byte (x ∷ xs) (y ∷ ys) h l e = rw (eq-eqb x y e) (omega arith)

place_off : (x y : List ℕ) → (0 < length x) → (0 < length y) → (get_or x 0 0 ≡ get_or y 0 0 → ⊥) → first_place x y ≡ 0
unfolding first_place
place_off [] ys h l e = refl
place_off (x ∷ xs) [] h l e = refl
place_off (x ∷ xs) (y ∷ ys) h l e = rw (ne_eqb x y e)

place_end : (x y : List ℕ) → min (length x) (length y) ≤ 0 → first_place x y ≡ 0
unfolding first_place
place_end [] ys h = refl
place_end (x ∷ xs) [] h = refl
place_end (x ∷ xs) (y ∷ ys) h = absurd (omega arith)

-- a block that is the same on both sides
place_block : (k : ℕ) (x y : List ℕ) → k ≤ length x → k ≤ length y → take k x ≡ take k y → first_place x y ≡ k + first_place (drop k x) (drop k y)
unfolding first_place
place_block zero x y h l e = sym (zero-add (first_place x y))
place_block (suc k) [] y h l e = absurd (omega arith)
place_block (suc k) (x ∷ xs) [] h l e = absurd (omega arith)
place_block (suc k) (x ∷ xs) (y ∷ ys) h l e =
    let p : x ≡ y = head-eq_of_cons-eq e in
    let q : take k xs ≡ take k ys = tail-eq_of_cons-eq e in
    rw (eq-eqb x y p, place_block k xs ys (omega arith) (omega arith) q) (sym (suc-add k (first_place (drop k xs) (drop k ys))))

module _ (x y : List ℕ) where
  pub same_starts : SameTo x y 0
  same_starts = record { first = omega arith; second = omega arith; place = sym (zero-add (first_place x y)) }

  module _ (i : ℕ) (s : SameTo x y i) where
    pub same_block : (k : ℕ) (t : Bool) → i + k ≤ length x → i + k ≤ length y → t ≡ same_list (take (i + k - i) (drop i x)) (take (i + k - i) (drop i y)) → not t ≡ false → SameTo x y (i + k)
    same_block k t h l e z =
        let n : i + k - i ≡ k = add-sub_cancel_left i k in
        let q : take k (drop i x) ≡ take k (drop i y) = same_true (take k (drop i x)) (take k (drop i y)) (rw n at (sym e ∙ not-false t z)) in
        let a : k ≤ length (drop i x) = simp length-drop (omega arith) in
        let b : k ≤ length (drop i y) = simp length-drop (omega arith) in
        record {
          first = h;
          second = l;
          place = s.place ∙ rw (place_block k (drop i x) (drop i y) a b q, drop-drop k i x, drop-drop k i y) (sym (add_assoc i k (first_place (drop (i + k) x) (drop (i + k) y))));
        }

    pub same_byte : (n : ℕ) → n ≡ min (length x) (length y) → i < n → get_or x i 0 ≡ get_or y i 0 → SameTo x y (i + 1)
    same_byte n m k e =
        let a : 0 < length (drop i x) = simp length-drop (omega arith) in
        let b : 0 < length (drop i y) = simp length-drop (omega arith) in
        let q : get_or (drop i x) 0 0 ≡ get_or (drop i y) 0 0 = rw (get_or-drop i x 0 0, get_or-drop i y 0 0, add-zero i) e in
        record {
          first = omega arith;
          second = omega arith;
          place = s.place ∙ rw (place_byte (drop i x) (drop i y) a b q, drop-drop 1 i x, drop-drop 1 i y) (sym (add_assoc i 1 (first_place (drop (i + 1) x) (drop (i + 1) y))));
        }

    pub place_found : (n : ℕ) → n ≡ min (length x) (length y) → i < n → (get_or x i 0 ≡ get_or y i 0 → ⊥) → i ≡ first_place x y
    place_found n m k e =
        let a : 0 < length (drop i x) = simp length-drop (omega arith) in
        let b : 0 < length (drop i y) = simp length-drop (omega arith) in
        let q : get_or (drop i x) 0 0 ≡ get_or (drop i y) 0 0 → ⊥ = λ (z : get_or (drop i x) 0 0 ≡ get_or (drop i y) 0 0). e (rw (get_or-drop i x 0 0, get_or-drop i y 0 0, add-zero i) at z) in
        sym (s.place ∙ rw (place_off (drop i x) (drop i y) a b q) (add-zero i))

    pub place_ends : (n : ℕ) → n ≡ min (length x) (length y) → n ≤ i → n ≡ first_place x y
    place_ends n m h =
        let a : min (length (drop i x)) (length (drop i y)) ≤ 0 = simp length-drop (omega arith) in
        let z : n ≡ i = omega (arith, s.first, s.second) in
        z ∙ sym (s.place ∙ rw (place_end (drop i x) (drop i y) a) (add-zero i))

-- ---- how two sections differ

module _ (x y : List ℕ) where
  pub differ_neither : (d : Difference) → length x ≡ 0 → length y ≡ 0 → d ≡ only_of 0 → d ≡ difference_of x y
  unfolding kind_of place_of
  differ_neither d h l e = e ∙ simp (eq-eqb (length x) 0 h, eq-eqb (length y) 0 l)

  pub differ_second : (d : Difference) → length x ≡ 0 → (length y ≡ 0 → ⊥) → d ≡ only_of 2 → d ≡ difference_of x y
  unfolding kind_of place_of
  differ_second d h l e = e ∙ simp (eq-eqb (length x) 0 h, ne_eqb (length y) 0 l)

  pub differ_first : (d : Difference) → (length x ≡ 0 → ⊥) → length y ≡ 0 → d ≡ only_of 1 → d ≡ difference_of x y
  unfolding kind_of place_of
  differ_first d h l e = e ∙ simp (ne_eqb (length x) 0 h, eq-eqb (length y) 0 l)

  module _ (p : ℕ) (h : length x ≡ 0 → ⊥) (l : length y ≡ 0 → ⊥) (e : p ≡ first_place x y) where
    pub differ_not : (d : Difference) → (eqb p (length x) && eqb p (length y)) ≡ true → d ≡ only_of 0 → d ≡ difference_of x y
    unfolding kind_of place_of
    differ_not d z g =
        let c = and_true (eqb p (length x)) (eqb p (length y)) z in
        let s : same_list x y ≡ true = place_all x y (sym e ∙ eqb-true p (length x) c.0) (sym e ∙ eqb-true p (length y) c.1) in
        g ∙ simp (ne_eqb (length x) 0 h, ne_eqb (length y) 0 l, s)

    not_same : (eqb p (length x) && eqb p (length y)) ≡ false → same_list x y ≡ false
    not_same z = go (same_list x y) refl
      where
        go : (b : Bool) → same_list x y ≡ b → b ≡ false
        go true s =
            let q : x ≡ y = same_true x y s in
            let u : p ≡ length x = e ∙ rw (← q) (place_same x) in
            let v : p ≡ length y = u ∙ ap length q in
            absurd (true≢false (sym (rw (eq-eqb p (length x) u, eq-eqb p (length y) v)) ∙ z))
        go false s = refl

    pub differ_bytes : (eqb p (length x) && eqb p (length y)) ≡ false → ◌≡◌ {A = Difference} (record { kind = 3; place = p }) (difference_of x y)
    unfolding kind_of place_of
    differ_bytes z = simp (ne_eqb (length x) 0 h, ne_eqb (length y) 0 l, not_same z, e)
