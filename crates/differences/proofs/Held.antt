-- What two sides by rising rank hold of each rank, and the entries that a walk over them meets one after another.
-- Assumes nothing.
use mathlib.Core.Path.{◌≡◌, refl, ap, ◌∙◌}
use mathlib.Core.Bool.{Bool, true, false, cond}
use mathlib.Core.List.{List, [], ◌∷◌, ◌++◌}
use Prim.Native.Nat.{ℕ, ◌≤◌, ◌<◌}
use native.Mathlib.Omega.{arith}
use lib.Dec.{eqb}
use borrow.Author.Tests.{ne_eqb, ltb-true, eqb-true, eqb-false}
use Rattle.laws.proofs.Tests.{and_true}
use Rattle.laid.specs.Laid.{chain, chain_from}
use Rattle.laid.specs.Walk.{rank_of, head_rank, head_if, tail_if}
use Rattle.differences.specs.Rules.{held_in, kind_of, place_of, entry_of, entry_at, up_from}
use Rattle.differences.specs.Walk.{rises, all_differences}
use Rattle.differences.proofs.Upward.{up_first, up_none}

-- below the first rank nothing is held
pub held_after_lem : (x : List ℕ) (xs : List (List ℕ)) (m : ℕ) → chain_from rises x xs ≡ true → m ≤ rank_of x → held_in xs m ≡ []
unfolding chain_from held_in
held_after_lem x [] m e h = refl
held_after_lem x (y ∷ ys) m e h =
    let c = and_true (rises x y) (chain_from rises y ys) e in
    let l : rank_of x < rank_of y = ltb-true (rank_of x) (rank_of y) c.0 in
    rw (ne_eqb (rank_of y) m (λ (q : rank_of y ≡ m). omega arith)) (held_after_lem y ys m c.1 (omega arith))

pub held_below : (xs : List (List ℕ)) (m : ℕ) → chain rises xs ≡ true → m < head_rank xs → held_in xs m ≡ []
unfolding chain held_in
held_below [] m e h = refl
held_below (x ∷ xs) m e h = rw (ne_eqb (rank_of x) m (λ (q : rank_of x ≡ m). omega arith)) (held_after_lem x xs m e (omega arith))

module _ (n : ℕ) where
  -- at the rank that is looked at, and above it
  pub held_here : (xs : List (List ℕ)) → chain rises xs ≡ true → n ≤ head_rank xs → n < 65536 → held_in xs n ≡ head_if n xs
  unfolding chain held_in
  held_here [] e h l = rw (ne_eqb 65536 n (λ (q : 65536 ≡ n). omega arith))
  held_here (x ∷ xs) e h l = go (eqb (rank_of x) n) refl
    where
      go : (b : Bool) → eqb (rank_of x) n ≡ b → cond b x (held_in xs n) ≡ cond b x []
      go true z = refl
      go false z = held_after_lem x xs n e h

  pub held_above : (xs : List (List ℕ)) (m : ℕ) → n < m → held_in xs m ≡ held_in (tail_if n xs) m
  unfolding held_in
  held_above [] m h = refl
  held_above (x ∷ xs) m h = go (eqb (rank_of x) n) refl
    where
      go : (b : Bool) → eqb (rank_of x) n ≡ b → cond (eqb (rank_of x) m) x (held_in xs m) ≡ held_in (cond b xs (x ∷ xs)) m
      go true z = let q = eqb-true (rank_of x) n z in rw (ne_eqb (rank_of x) m (λ (p : rank_of x ≡ m). omega arith))
      go false z = refl

  pub held_passed : (xs : List (List ℕ)) (m : ℕ) → chain rises xs ≡ true → n ≤ head_rank xs → m ≤ n → held_in (tail_if n xs) m ≡ []
  unfolding chain held_in
  held_passed [] m e h l = refl
  held_passed (x ∷ xs) m e h l = go (eqb (rank_of x) n) refl
    where
      go : (b : Bool) → eqb (rank_of x) n ≡ b → held_in (cond b xs (x ∷ xs)) m ≡ []
      go true z = let q = eqb-true (rank_of x) n z in held_after_lem x xs m e (omega arith)
      go false z = let q = eqb-false (rank_of x) n z in held_below (x ∷ xs) m e (omega arith)

  -- the rest rises too
  tail_rises : (x : List ℕ) (xs : List (List ℕ)) → chain_from rises x xs ≡ true → chain rises xs ≡ true
  unfolding chain chain_from
  tail_rises x [] e = refl
  tail_rises x (y ∷ ys) e = (and_true (rises x y) (chain_from rises y ys) e).1

  pub rest_rises : (xs : List (List ℕ)) → chain rises xs ≡ true → chain rises (tail_if n xs) ≡ true
  unfolding chain
  rest_rises [] e = refl
  rest_rises (x ∷ xs) e = go (eqb (rank_of x) n)
    where
      go : (b : Bool) → chain rises (cond b xs (x ∷ xs)) ≡ true
      go true = tail_rises x xs e
      go false = e

-- nothing and nothing give no entry
pub entry_none : (r : ℕ) → entry_of r [] [] ≡ []
unfolding kind_of place_of
entry_none r = refl

pub entry_at_none : (r : ℕ) (a b : List (List ℕ)) → held_in a r ≡ [] → held_in b r ≡ [] → entry_at a b r ≡ []
entry_at_none r a b p q = ap (λ (x : List ℕ). entry_of r x (held_in b r)) p ∙ ap (λ (y : List ℕ). entry_of r [] y) q ∙ entry_none r

-- a turn: the lower of the first ranks gives its entry, and the rest the others
pub all_turn : (a b : List (List ℕ)) (n : ℕ) → chain rises a ≡ true → chain rises b ≡ true → n ≤ head_rank a → n ≤ head_rank b → n < 65536
    → all_differences a b ≡ entry_of n (head_if n a) (head_if n b) ++ all_differences (tail_if n a) (tail_if n b)
unfolding all_differences
all_turn a b n ea eb ha hb l =
    let e : entry_at a b n ≡ entry_of n (head_if n a) (head_if n b) =
    ap (λ (x : List ℕ). entry_of n x (held_in b n)) (held_here n a ea ha l) ∙ ap (λ (y : List ℕ). entry_of n (head_if n a) y) (held_here n b eb hb l) in
    up_first 65536 0 n (entry_at a b) (entry_at (tail_if n a) (tail_if n b)) (omega arith) (omega arith)
    (λ m h. entry_at_none m a b (held_below a m ea (omega arith)) (held_below b m eb (omega arith)))
    (λ m h. entry_at_none m (tail_if n a) (tail_if n b) (held_passed n a m ea ha h) (held_passed n b m eb hb h))
    (λ m h. ap (λ (x : List ℕ). entry_of m x (held_in b m)) (held_above n a m h) ∙ ap (λ (y : List ℕ). entry_of m (held_in (tail_if n a) m) y) (held_above n b m h))
    ∙ ap (λ (l : List _). l ++ up_from 65536 0 (entry_at (tail_if n a) (tail_if n b))) e

-- no sections on either side: no entries
pub all_none : all_differences [] [] ≡ []
unfolding all_differences held_in
all_none = up_none 65536 0 (entry_at [] []) (λ m p q. entry_at_none m [] [] refl refl)
