-- The register is linear: zeros that go in pass through an exclusive or. Assumes nothing.
use mathlib.Core.Path.{◌≡◌, refl, sym, ap, ap₂, subst, ◌∙◌}
use Prim.Native.Nat.{ℕ, zero, suc, ◌+◌, ◌*◌, ◌/◌, ◌%◌, ◌^◌, ◌<◌}
use native.Mathlib.Nat.{mod-lt, zero-lt-suc, mul-one, mul_assoc, add-mul, suc-add, zero-add, pow-suc, pow-succ', mod-eq_of_lt, div-add-mod'}
use native.Mathlib.Omega.{arith}
use lib.Pow.{pow_pos}
use lib.Bits.{bit_xor, xor_shr, xor_mod, xor_zero_r, xor_lt, xor_shifted}
use Rattle.laws.proofs.Xor.{xor_four, xor_shl}
use Rattle.crc_zeros.specs.Zeros.{polynomial, up, zeros}

-- ---- one zero

pub top : (r : ℕ) → r < 2 ^ 32 → r / 2 ^ 31 < 2
top r h = omega arith

pub doubled : (a b : ℕ) → bit_xor a b * 2 % 2 ^ 32 ≡ bit_xor (a * 2 % 2 ^ 32) (b * 2 % 2 ^ 32)
doubled a b = ap (λ (x : ℕ). x % 2 ^ 32) (sym (xor_shl a b 1)) ∙ xor_mod (a * 2) (b * 2) 32

feedback : (t u : ℕ) → t < 2 → u < 2 → bit_xor t u * polynomial ≡ bit_xor (t * polynomial) (u * polynomial)
feedback zero u p q = refl
feedback (suc zero) zero p q = refl
feedback (suc zero) (suc zero) p q = refl
feedback (suc zero) (suc (suc u)) p q = absurd (omega arith)
feedback (suc (suc t)) u p q = absurd (omega arith)

up_xor : (a b : ℕ) → a < 2 ^ 32 → b < 2 ^ 32 → up (bit_xor a b) ≡ bit_xor (up a) (up b)
unfolding up
up_xor a b p q =
    ap₂ bit_xor (doubled a b)
    (ap (λ (x : ℕ). x * polynomial) (xor_shr a b 31) ∙ feedback (a / 2 ^ 31) (b / 2 ^ 31) (top a p) (top b q))
    ∙ xor_four (a * 2 % 2 ^ 32) (b * 2 % 2 ^ 32) (a / 2 ^ 31 * polynomial) (b / 2 ^ 31 * polynomial)

up_low : (y : ℕ) → y * 2 < 2 ^ 32 → up y ≡ y * 2
unfolding up
up_low y h =
    let z : y / 2 ^ 31 ≡ 0 = omega arith in
    ap₂ (λ (x t : ℕ). bit_xor x (t * polynomial)) (mod-eq_of_lt h) z ∙ xor_zero_r (y * 2)

-- a register is below 2 ^ 32
pub up_lt : (r : ℕ) → r < 2 ^ 32 → up r < 2 ^ 32
unfolding up
up_lt r h =
    xor_lt 32 (r * 2 % 2 ^ 32) (r / 2 ^ 31 * polynomial) (mod-lt (r * 2) (pow_pos 32)) (omega (arith, top r h))

-- ---- any number of them

pub zeros_lt : (n r : ℕ) → r < 2 ^ 32 → zeros n r < 2 ^ 32
unfolding zeros
zeros_lt zero r h = h
zeros_lt (suc n) r h = up_lt (zeros n r) (zeros_lt n r h)

pub zeros_xor : (n a b : ℕ) → a < 2 ^ 32 → b < 2 ^ 32 → zeros n (bit_xor a b) ≡ bit_xor (zeros n a) (zeros n b)
unfolding zeros
zeros_xor zero a b p q = refl
zeros_xor (suc n) a b p q = ap up (zeros_xor n a b p q) ∙ up_xor (zeros n a) (zeros n b) (zeros_lt n a p) (zeros_lt n b q)

pub zeros_zeros : (m n r : ℕ) → zeros m (zeros n r) ≡ zeros (m + n) r
unfolding zeros
zeros_zeros zero n r = ap (λ (k : ℕ). zeros k r) (sym (zero-add n))
zeros_zeros (suc m) n r = ap up (zeros_zeros m n r) ∙ ap (λ (k : ℕ). zeros k r) (sym (suc-add m n))

shl_suc : (a k : ℕ) → a * 2 ^ suc k ≡ a * 2 ^ k * 2
shl_suc a k = ap (λ (x : ℕ). a * x) (pow-suc 2 k) ∙ sym (mul_assoc a (2 ^ k) 2)

-- a number that stays below the top only moves
pub zeros_low : (n y : ℕ) → y * 2 ^ n < 2 ^ 32 → zeros n y ≡ y * 2 ^ n
unfolding zeros
zeros_low zero y h = sym (mul-one y)
zeros_low (suc n) y h =
    let e : y * 2 ^ suc n ≡ y * 2 ^ n * 2 = shl_suc y n in
    let g : y * 2 ^ n * 2 < 2 ^ 32 = subst (λ (x : ℕ). x < 2 ^ 32) e h in
    ap up (zeros_low n y (omega arith)) ∙ up_low (y * 2 ^ n) g ∙ sym e

-- ---- a number is its lowest digit and the others

shl_suc' : (a k : ℕ) → a * 2 ^ suc k ≡ a * 2 * 2 ^ k
shl_suc' a k = ap (λ (x : ℕ). a * x) (pow-succ' 2 k) ∙ sym (mul_assoc a 2 (2 ^ k))

pub joined : (v k : ℕ) → bit_xor (v / 2 * 2 ^ suc k) (v % 2 * 2 ^ k) ≡ v * 2 ^ k
joined v k =
    ap (λ (x : ℕ). bit_xor x (v % 2 * 2 ^ k)) (shl_suc' (v / 2) k)
    ∙ xor_shl (v / 2 * 2) (v % 2) k
    ∙ ap (λ (x : ℕ). x * 2 ^ k) (xor_shifted (v / 2) 1 (v % 2) (mod-lt v (zero-lt-suc 1)) ∙ div-add-mod' v 2)

pub summed : (v k : ℕ) → v / 2 * 2 ^ suc k + v % 2 * 2 ^ k ≡ v * 2 ^ k
summed v k =
    ap (λ (x : ℕ). x + v % 2 * 2 ^ k) (shl_suc' (v / 2) k)
    ∙ sym (add-mul (v / 2 * 2) (v % 2) (2 ^ k))
    ∙ ap (λ (x : ℕ). x * 2 ^ k) (div-add-mod' v 2)
