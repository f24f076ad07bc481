-- How many entries there can be: each takes two bytes or more. Where one that runs past its loop starts.
-- Assumes nothing.
use mathlib.Core.Path.{◌≡◌, refl}
use mathlib.Core.Bool.{Bool, true, false, cond}
use Prim.Native.Nat.{ℕ, zero, suc, ◌+◌, ◌*◌, ◌≤◌, ◌<◌, ◌-◌}
use native.Mathlib.Omega.{arith}
use mathlib.Core.List.{List, [], ◌∷◌}
use lib.ListN.{length, get_or, drop, length-drop}
use lib.Dec.{ltb}
use borrow.Author.Tests.{ltb-false}
use Rattle.laws.specs.Entries.{counted}
use Rattle.listing.specs.declared.Walked.{Walked}
use Rattle.listing.specs.declared.Walked.TheVariants.{Done, Past}
use Rattle.listing.specs.Store.{Found, past, walk, found_from, words_of, end_of}

module _ (network number n : ℕ) (p : 2 ≤ n) where
  abbrev few : Found → ℕ → Type 0
  few f size = 2 * length (words_of network number f) ≤ size

  pick : (b : Bool) (x y : Found) (size : ℕ) → few x size → (b ≡ false → few y size) → few (cond b x y) size
  pick true x y size h l = h
  pick false x y size h l = l refl

  bounded : (r : List ℕ) (pass left at : ℕ) → pass + left ≤ length r → few (walk n r pass left at) (length r - pass)
  unfolding walk words_of
  bounded [] pass left at h = omega arith
  bounded (b ∷ t) (suc pass) left at h = let i = bounded t pass left (suc at) (omega arith) in omega arith
  bounded (b ∷ t) zero zero at h =
      pick (ltb (length (b ∷ t)) n) (past at) _ (length (b ∷ t) - 0) (omega arith)
      (λ (e : ltb (length (b ∷ t)) n ≡ false).
      pick (ltb (length (b ∷ t) - n) (counted n (b ∷ t))) (past at) _ (length (b ∷ t) - 0) (omega arith)
      (λ (d : ltb (length (b ∷ t) - n) (counted n (b ∷ t)) ≡ false).
      let x : n ≤ length (b ∷ t) = ltb-false (length (b ∷ t)) n e in
      let y : counted n (b ∷ t) ≤ length (b ∷ t) - n = ltb-false (length (b ∷ t) - n) (counted n (b ∷ t)) d in
      let i = bounded t (n - 1) (counted n (b ∷ t)) (suc at) (omega arith) in omega arith))
  bounded (b ∷ t) zero (suc left) at h =
      pick (ltb (suc left) 2) (past at) _ (length (b ∷ t) - 0) (omega arith)
      (λ (e : ltb (suc left) 2 ≡ false).
      pick (ltb (suc left - 2) (get_or t 0 0)) (past at) _ (length (b ∷ t) - 0) (omega arith)
      (λ (d : ltb (suc left - 2) (get_or t 0 0) ≡ false).
      let x : 2 ≤ suc left = ltb-false (suc left) 2 e in
      let y : get_or t 0 0 ≤ suc left - 2 = ltb-false (suc left - 2) (get_or t 0 0) d in
      let i = bounded t (1 + get_or t 0 0) (suc left - 2 - get_or t 0 0) (suc at) (omega arith) in omega arith))

  -- twice the number of entries is at most the bytes walked, of which the first `left` are descriptors'
  pub two_bytes_from : (s : List ℕ) (at left : ℕ) → at + left ≤ length s → 2 * length (words_of network number (found_from n s at left)) ≤ length s - at
  unfolding found_from
  two_bytes_from s at left h =
      let l : length (drop at s) ≡ length s - at = length-drop at s in
      let i = bounded (drop at s) 0 left at (omega arith) in
      omega arith

  pub two_bytes : (s : List ℕ) (at : ℕ) → 2 * length (words_of network number (found_from n s at 0)) ≤ length s - at
  unfolding found_from
  two_bytes s at = let i = bounded (drop at s) 0 0 at (omega arith) in let l : length (drop at s) ≡ length s - at = length-drop at s in omega arith

-- ---- the one that runs past its loop starts inside it

abbrev pub Below : (limit : ℕ) → Walked → Type 0
Below limit (Done count) = Unit {0}
Below limit (Past at count) = at < limit

module _ (n limit : ℕ) where
  either_below : (b : Bool) (x y : Found) (k : ℕ) → Below limit (end_of k x) → Below limit (end_of k y) → Below limit (end_of k (cond b x y))
  either_below true x y k p q = p
  either_below false x y k p q = q

  below : (r : List ℕ) (pass left at k : ℕ) → at + length r ≤ limit → Below limit (end_of k (walk n r pass left at))
  unfolding walk end_of
  below [] pass left at k h = tt
  below (b ∷ t) (suc pass) left at k h = below t pass left (suc at) k (omega arith)
  below (b ∷ t) zero zero at k h =
      either_below (ltb (length (b ∷ t)) n) (past at) _ k (omega arith)
      (either_below (ltb (length (b ∷ t) - n) (counted n (b ∷ t))) (past at) _ k (omega arith)
      (below t (n - 1) (counted n (b ∷ t)) (suc at) (k + 1) (omega arith)))
  below (b ∷ t) zero (suc left) at k h =
      either_below (ltb (suc left) 2) (past at) _ k (omega arith)
      (either_below (ltb (suc left - 2) (get_or t 0 0)) (past at) _ k (omega arith)
      (below t (1 + get_or t 0 0) (suc left - 2 - get_or t 0 0) (suc at) (k + 1) (omega arith)))

  pub starts_below : (s : List ℕ) (at left k : ℕ) → at ≤ length s → length s ≤ limit → Below limit (end_of k (found_from n s at left))
  unfolding found_from
  starts_below s at left k h l = let e : length (drop at s) ≡ length s - at = length-drop at s in below (drop at s) 0 left at k (omega arith)
