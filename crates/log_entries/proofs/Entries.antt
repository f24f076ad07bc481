-- Records laid into the 23 bytes of an entry, byte by byte.
-- Assumes nothing.
use Prim.Native.Nat.{ℕ, zero, suc, ◌+◌, ◌-◌, ◌≤◌}
use mathlib.Core.Path.{◌≡◌, refl, sym, ap, ◌∙◌}
use mathlib.Core.List.{[], ◌∷◌, ◌++◌, append_assoc}
use lib.ListN.{length, take, get_or, replicate}
use lib.ListN.{length-append}
use native.Mathlib.Omega.{arith}
use native.Mathlib.Numerals.{unary_clauses}
use Rattle.rules_logs.specs.Records.{Bytes}
use Rattle.log_entries.specs.Entries.{entry_with, joined_of}
use Rattle.log_entries.specs.declared.Entry.{Entry}

-- n bytes from byte i on, one by one
abbrev pub bytes_from : (i n : ℕ) → Bytes → Bytes
bytes_from i zero a = []
bytes_from i (suc n) a = get_or a i 0 ∷ bytes_from (suc i) n a

shift : (i n x : ℕ) (a : Bytes) → bytes_from (suc i) n (x ∷ a) ≡ bytes_from i n a
shift i zero x a = refl
shift i (suc n) x a = ap (λ (l : Bytes). get_or a i 0 ∷ l) (shift (suc i) n x a)

pub bytes_take : (n : ℕ) (a : Bytes) → n ≤ length a → bytes_from 0 n a ≡ take n a
bytes_take zero a h = refl
bytes_take (suc n) [] h = absurd (omega (arith, h))
bytes_take (suc n) (x ∷ a) h = ap (λ (l : Bytes). x ∷ l) (shift 0 n x a ∙ bytes_take n a (omega (arith, h)))

pub take_all : (a : Bytes) → take (length a) a ≡ a
take_all [] = refl
take_all (x ∷ a) = ap (λ (l : Bytes). x ∷ l) (take_all a)

pub take_part : (a b : Bytes) → take (length a) (a ++ b) ≡ a
take_part [] b = refl
take_part (x ∷ a) b = ap (λ (l : Bytes). x ∷ l) (take_part a b)

bytes_all : (n : ℕ) (a : Bytes) → length a ≡ n → bytes_from 0 n a ≡ a
bytes_all n a e = bytes_take n a (omega (arith, e)) ∙ ap (λ (k : ℕ). take k a) (sym e) ∙ take_all a

-- ---- one record

laid : (n : ℕ) (a : Bytes) → length a ≡ n → ◌≡◌ {A = Entry} (record { bytes = bytes_from 0 n a ++ replicate (23 - n) 0; length = n }) (entry_with a)
unfolding entry_with
laid n a e =
    ap (λ (l : Bytes). record { bytes = l ++ replicate (23 - n) 0; length = n }) (bytes_all n a e)
    ∙ ap (λ (k : ℕ). record { bytes = a ++ replicate (23 - k) 0; length = k }) (sym e)

module _ (a : Bytes) where
  pub laid_0 : ◌≡◌ {A = Entry} (record { bytes = replicate 23 0; length = 0 }) (entry_with [])
  unfolding entry_with
  laid_0 = refl

  pub laid_6 : length a ≡ 6 → ◌≡◌ {A = Entry} (record { bytes = bytes_from 0 6 a ++ replicate 17 0; length = 6 }) (entry_with a)
  laid_6 = laid 6 a

  pub laid_8 : length a ≡ 8 → ◌≡◌ {A = Entry} (record { bytes = bytes_from 0 8 a ++ replicate 15 0; length = 8 }) (entry_with a)
  laid_8 = laid 8 a

  pub laid_10 : length a ≡ 10 → ◌≡◌ {A = Entry} (record { bytes = bytes_from 0 10 a ++ replicate 13 0; length = 10 }) (entry_with a)
  laid_10 = laid 10 a

  pub laid_13 : length a ≡ 13 → ◌≡◌ {A = Entry} (record { bytes = bytes_from 0 13 a ++ replicate 10 0; length = 13 }) (entry_with a)
  laid_13 = laid 13 a

-- ---- two records

pub joined : (a b : Bytes) → length a ≡ 13 → length b ≡ 23 → bytes_from 0 13 a ++ bytes_from 0 10 b ≡ a ++ take 10 b
joined a b m n = ap (λ (l : Bytes). l ++ bytes_from 0 10 b) (bytes_all 13 a m) ∙ ap (λ (l : Bytes). a ++ l) (bytes_take 10 b (omega (arith, n)))

take_none : (k m : ℕ) → k ≤ m → take {A = ℕ} k (replicate m 0) ≡ replicate k 0
take_none zero m h = refl
take_none (suc k) zero h = absurd (omega (arith, h))
take_none (suc k) (suc m) h = ap (λ (l : Bytes). 0 ∷ l) (take_none k m (omega (arith, h)))

pad_take : (k m : ℕ) (l : Bytes) → length l ≤ k → k ≤ m → take k (l ++ replicate (m - length l) 0) ≡ l ++ replicate (k - length l) 0
pad_take k m [] h n = simp unary_clauses (take_none k m n)
pad_take zero m (x ∷ l) h n = absurd (omega (arith, h))
pad_take (suc k) zero (x ∷ l) h n = absurd (omega (arith, n))
pad_take (suc k) (suc m) (x ∷ l) h n = simp unary_clauses (ap (λ (z : Bytes). x ∷ z) (pad_take k m l (omega (arith, h)) (omega (arith, n))))

-- behind a record of 13 bytes the records of an entry follow
pub joined_entry : (a l : Bytes) → length a ≡ 13 → length l ≤ 10 → joined_of a (entry_with l) ≡ entry_with (a ++ l)
unfolding joined_of entry_with
joined_entry a l m n =
    let size : length (a ++ l) ≡ 13 + length l = length-append a l ∙ ap (λ (k : ℕ). k + length l) m in
    let left : 10 - length l ≡ 23 - length (a ++ l) = omega (arith, size) in
    let pad : take 10 (l ++ replicate (23 - length l) 0) ≡ l ++ replicate (23 - length (a ++ l)) 0 =
    pad_take 10 23 l n (omega arith) ∙ ap (λ (k : ℕ). l ++ replicate k 0) left in
    let whole : a ++ take 10 (l ++ replicate (23 - length l) 0) ≡ (a ++ l) ++ replicate (23 - length (a ++ l)) 0 =
    ap (λ (z : Bytes). a ++ z) pad ∙ sym (append_assoc a l (replicate (23 - length (a ++ l)) 0)) in
    λ i. record { bytes = whole i; length = sym size i }

-- ---- what an entry shows

pub entry_shows : (l : Bytes) → take (entry_with l).length (entry_with l).bytes ≡ l
unfolding entry_with
entry_shows l = take_part l (replicate (23 - length l) 0)
