-- What numbers give in their order: numbers that give nothing may be left out.
-- Assumes nothing.
use mathlib.Core.Path.{◌≡◌, refl, sym, ap, ◌∙◌}
use mathlib.Core.Logic.{by_cases}
use mathlib.Core.List.{List, [], ◌++◌, append-nil, append_assoc}
use Prim.Native.Nat.{ℕ, zero, suc, ◌+◌, ◌*◌, ◌-◌, ◌≤◌, ◌<◌}
use native.Mathlib.Decide.{ℕ_discrete}
use native.Mathlib.Nat.{zero-add, suc-add, suc-mul, add_comm}
use native.Mathlib.Omega.{arith}
use Rattle.differences.specs.Rules.{up_from}

module _ {E : Type 0} where
  -- two that give the same
  pub up_same : (k n : ℕ) (f g : ℕ → List E) → ((m : ℕ) → n ≤ m → m < n + k → f m ≡ g m) → up_from k n f ≡ up_from k n g
  unfolding up_from
  up_same zero n f g h = refl
  up_same (suc k) n f g h = rw (h n (omega arith) (omega arith), up_same k (suc n) f g (λ m a b. h m (omega arith) (omega arith)))

  pub up_none : (k n : ℕ) (f : ℕ → List E) → ((m : ℕ) → n ≤ m → m < n + k → f m ≡ []) → up_from k n f ≡ []
  unfolding up_from
  up_none zero n f h = refl
  up_none (suc k) n f h = rw (h n (omega arith) (omega arith)) (up_none k (suc n) f (λ m a b. h m (omega arith) (omega arith)))

  pub up_append : (j k n : ℕ) (f : ℕ → List E) → up_from (j + k) n f ≡ up_from j n f ++ up_from k (n + j) f
  unfolding up_from
  up_append zero k n f = let z : n + 0 ≡ n = omega arith in rw (zero-add k, z)
  up_append (suc j) k n f =
      let z : suc n + j ≡ n + suc j = omega arith in
      rw (suc-add j k, up_append j k (suc n) f, z) (sym (append_assoc (f n) (up_from j (suc n) f) (up_from k (n + suc j) f)))

  -- the part of a range outside which nothing is given
  pub up_within : (total k n : ℕ) (f : ℕ → List E) → n + k ≤ total → ((m : ℕ) → m < n → f m ≡ []) → ((m : ℕ) → n + k ≤ m → m < total → f m ≡ []) → up_from total 0 f ≡ up_from k n f
  up_within total k n f h below above =
      let t : total ≡ n + (k + (total - (n + k))) = omega arith in
      let a : up_from n 0 f ≡ [] = up_none n 0 f (λ m p q. below m (omega arith)) in
      let b : up_from (total - (n + k)) (0 + n + k) f ≡ [] = up_none (total - (n + k)) (0 + n + k) f (λ m p q. above m (omega arith) (omega arith)) in
      ap (λ (x : ℕ). up_from x 0 f) t ∙ up_append n (k + (total - (n + k))) 0 f ∙ rw (a, up_append k (total - (n + k)) (0 + n) f, b, zero-add n) (append-nil (up_from k n f))

  -- the first number that gives something, and what the others give
  pub up_first : (k n i : ℕ) (f g : ℕ → List E) → n ≤ i → i < n + k → ((m : ℕ) → m < i → f m ≡ []) → ((m : ℕ) → m ≤ i → g m ≡ []) → ((m : ℕ) → i < m → f m ≡ g m)
      → up_from k n f ≡ f i ++ up_from k n g
  unfolding up_from
  up_first zero n i f g a b p q r = absurd (omega arith)
  up_first (suc k) n i f g a b p q r =
      by_cases (ℕ_discrete n i)
      (λ (e : n ≡ i). rw (q n (omega arith), up_same k (suc n) f g (λ m c d. r m (omega arith)), e))
      (λ (e : ¬ (n ≡ i)). rw (p n (omega arith), q n (omega arith)) (up_first k (suc n) i f g (omega arith) (omega arith) p q r))

  -- ranges of a range
  pub up_product : (k width n : ℕ) (f : ℕ → List E) → up_from k n (λ (t : ℕ). up_from width (t * width) f) ≡ up_from (k * width) (n * width) f
  unfolding up_from
  up_product zero width n f = let z : 0 * width ≡ 0 = omega arith in rw z
  up_product (suc k) width n f =
      let z : suc k * width ≡ width + k * width = suc-mul k width ∙ add_comm (k * width) width in
      let y : suc n * width ≡ n * width + width = suc-mul n width in
      rw (up_product k width (suc n) f, z, y) (sym (up_append width (k * width) (n * width) f))
