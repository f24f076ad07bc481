-- The laws of decimals and of text after text. Assumes nothing.
use mathlib.Core.Path.{◌≡◌, refl, sym, ◌∙◌}
use mathlib.Core.Logic.{by_cases}
use mathlib.Core.List.{List, [], ◌∷◌, ◌++◌}
use Prim.Native.Nat.{ℕ, zero, suc, ◌+◌, ◌*◌, ◌/◌, ◌%◌, ◌^◌, ◌≤◌, ◌<◌}
use native.Mathlib.Nat.{pow-suc}
use native.Mathlib.Omega.{arith}
use native.Mathlib.Decide.{dec_lt}
use lib.ListN.{length, length-append}
use lib.Seq.{sets-eq, paste, take-length}
use borrow.Author.Tests.{lt-ltb, le-ltb}
use Rattle.laws.proofs.Writes.{sets_append}
use Rattle.text.specs.Text.{decimal_in, decimal, Wrote}

-- ---- decimals

-- more room than the digits take changes nothing
room : (k m v : ℕ) → v ≤ k → v ≤ m → decimal_in k v ≡ decimal_in m v
unfolding decimal_in
room zero zero v h l = refl
room zero (suc m) v h l = simp (lt-ltb v 10 (omega arith))
room (suc k) zero v h l = simp (lt-ltb v 10 (omega arith))
room (suc k) (suc m) v h l =
    by_cases (dec_lt v 10)
    (λ (z : v < 10). simp (lt-ltb v 10 z))
    (λ (z : ¬ (v < 10)). simp (le-ltb v 10 (omega arith), room k m (v / 10) (omega arith) (omega arith)))

pub dec_digit : (v : ℕ) → v < 10 → decimal v ≡ (48 + v) ∷ []
unfolding decimal decimal_in
dec_digit v h = room v (suc v) v (omega arith) (omega arith) ∙ simp (lt-ltb v 10 h)

pub dec_more : (v : ℕ) → 10 ≤ v → decimal v ≡ decimal (v / 10) ++ ((48 + v % 10) ∷ [])
unfolding decimal decimal_in
dec_more v h =
    room v (suc v) v (omega arith) (omega arith)
    ∙ simp (le-ltb v 10 h, room v (v / 10) (v / 10) (omega arith) (omega arith))

pub length_more : (v : ℕ) → 10 ≤ v → length (decimal v) ≡ length (decimal (v / 10)) + 1
length_more v h = rw (dec_more v h) (length-append (decimal (v / 10)) _)

-- a number below 10 ^ (k + 1) has at most k + 1 digits
pub length_dec : (k v : ℕ) → v < 10 ^ suc k → length (decimal v) ≤ suc k
length_dec zero v h = rw (dec_digit v (omega arith)) (omega arith)
length_dec (suc k) v h =
    by_cases (dec_lt v 10)
    (λ (z : v < 10). rw (dec_digit v z) (omega arith))
    (λ (z : ¬ (v < 10)).
    let e : 10 ^ suc (suc k) ≡ 10 ^ suc k * 10 = pow-suc 10 (suc k) in
    omega (arith, length_more v (omega arith), length_dec k (v / 10) (omega arith)))

-- a number of 64 bits has at most twenty
pub length_u64 : (v : ℕ) → v < 2 ^ 64 → length (decimal v) ≤ 20
length_u64 v h = length_dec 19 v (omega arith)

-- ---- text after text

pub wrote_then : {l a m b n : List ℕ} {i j k : ℕ} → Wrote l i a m j → Wrote m j b n k → Wrote l i (a ++ b) n k
wrote_then {l} {a} {m} {b} {n} {i} {j} {k} e f =
    record {
      next = simp length-append (omega (arith, e.next, f.next));
      bytes = f.bytes ∙ rw (e.bytes, e.next) (sym (sets_append a b l i));
    }

-- a part that was copied from another slice
pub wrote_part : (l s m : List ℕ) (at : ℕ) → at + length s ≤ length l → m ≡ paste l at s (length s) → Wrote l at s m (at + length s)
wrote_part l s m at h e = record { next = refl; bytes = e ∙ rw take-length (sym (sets-eq s l at h)) }
