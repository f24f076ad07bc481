-- The laws of the walk: what it finds where an entry or a descriptor stands, or where one runs past its loop.
-- Assumes nothing.
use mathlib.Core.Path.{◌≡◌, refl, ap, ap₂, ◌∙◌}
use Prim.Native.Nat.{ℕ, zero, suc, ◌+◌, ◌≤◌, ◌<◌, ◌-◌}
use native.Mathlib.Nat.{add-zero}
use native.Mathlib.Omega.{arith}
use mathlib.Core.List.{List, [], ◌∷◌}
use lib.ListN.{length, get_or, take, drop}
use borrow.Author.Tests.{lt-ltb, le-ltb}
use Rattle.laws.specs.Entries.{counted}
use Rattle.listing.specs.Store.{done, past, entry, descriptor, walk}

module _ (n : ℕ) where
  passing : (j : ℕ) (r : List ℕ) (left at : ℕ) → j ≤ length r → walk n r j left at ≡ walk n (drop j r) 0 left (at + j)
  unfolding walk
  passing zero r left at h = rw add-zero
  passing (suc j) [] left at h = absurd (omega arith)
  passing (suc j) (b ∷ r) left at h = passing j r left (suc at) (omega arith) ∙ ap (λ (a : ℕ). walk n (drop j r) 0 left a) (omega arith)

  pub walk_end : (r : List ℕ) (at : ℕ) → length r ≤ 0 → walk n r 0 0 at ≡ done
  unfolding walk
  walk_end [] at h = refl
  walk_end (b ∷ t) at h = absurd (omega arith)

  pub walk_short : (r : List ℕ) (at : ℕ) → 0 < length r → length r < n → walk n r 0 0 at ≡ past at
  unfolding walk
  walk_short [] at h l = absurd (omega arith)
  walk_short (b ∷ t) at h l = simp (lt-ltb (length (b ∷ t)) n l)

  pub walk_past : (r : List ℕ) (at : ℕ) → 0 < length r → n ≤ length r → length r - n < counted n r → walk n r 0 0 at ≡ past at
  unfolding walk
  walk_past [] at z h m = absurd (omega arith)
  walk_past (b ∷ t) at z h m = simp (le-ltb (length (b ∷ t)) n h, lt-ltb (length (b ∷ t) - n) (counted n (b ∷ t)) m)

  pub walk_entry : (r : List ℕ) (at : ℕ) → 1 ≤ n → n ≤ length r → counted n r ≤ length r - n
      → walk n r 0 0 at ≡ entry at (take n r) (walk n (drop n r) 0 (counted n r) (at + n))
  unfolding walk
  walk_entry [] at z h m = absurd (omega arith)
  walk_entry (b ∷ t) at z h m =
      simp (le-ltb (length (b ∷ t)) n h, le-ltb (length (b ∷ t) - n) (counted n (b ∷ t)) m)
      (ap (entry at (take n (b ∷ t)))
      (passing (n - 1) t (counted n (b ∷ t)) (suc at) (omega arith)
      ∙ ap₂ (λ (q : List ℕ) (a : ℕ). walk n q 0 (counted n (b ∷ t)) a) (ap (λ (j : ℕ). drop j (b ∷ t)) one) (omega arith)))
    where
      one : suc (n - 1) ≡ n
      one = omega arith

  pub walk_one : (r : List ℕ) (at : ℕ) → 1 ≤ length r → walk n r 0 1 at ≡ past at
  unfolding walk
  walk_one [] at h = absurd (omega arith)
  walk_one (b ∷ t) at h = refl

  pub walk_over : (r : List ℕ) (left at : ℕ) → 2 ≤ left → left ≤ length r → left - 2 < get_or r 1 0 → walk n r 0 left at ≡ past at
  unfolding walk
  walk_over [] left at h l m = absurd (omega arith)
  walk_over (b ∷ t) zero at h l m = absurd (omega arith)
  walk_over (b ∷ t) (suc left) at h l m = simp (le-ltb (suc left) 2 h, lt-ltb (suc left - 2) (get_or t 0 0) m)

  pub walk_descriptor : (r : List ℕ) (left at : ℕ) → 2 ≤ left → left ≤ length r → get_or r 1 0 ≤ left - 2
      → walk n r 0 left at ≡ descriptor at (get_or r 0 0) (get_or r 1 0) (walk n (drop (2 + get_or r 1 0) r) 0 (left - 2 - get_or r 1 0) (at + 2 + get_or r 1 0))
  unfolding walk
  walk_descriptor [] left at h l m = absurd (omega arith)
  walk_descriptor (b ∷ t) zero at h l m = absurd (omega arith)
  walk_descriptor (b ∷ t) (suc left) at h l m =
      simp (le-ltb (suc left) 2 h, le-ltb (suc left - 2) (get_or t 0 0) m)
      (ap (descriptor at b (get_or t 0 0))
      (passing (1 + get_or t 0 0) t (suc left - 2 - get_or t 0 0) (suc at) (omega arith)
      ∙ ap₂ (λ (q : List ℕ) (a : ℕ). walk n q 0 (suc left - 2 - get_or t 0 0) a) (ap (λ (j : ℕ). drop j (b ∷ t)) two) (omega arith)))
    where
      two : suc (1 + get_or t 0 0) ≡ 2 + get_or t 0 0
      two = omega arith
