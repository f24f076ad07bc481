-- A register by its groups of w bits. Assumes nothing.
use mathlib.Core.Path.{◌≡◌, sym, ap, ap₂, ◌∙◌}
use Prim.Native.Nat.{ℕ, ◌+◌, ◌*◌, ◌/◌, ◌%◌, ◌^◌, ◌≤◌, ◌<◌}
use native.Mathlib.Nat.{mod-lt, mod-eq_of_lt, lt_of_lt_of_le, mul-one}
use native.Mathlib.Omega.{arith}
use lib.Pow.{pow_pos, pow_mono, shl_lt, mod-pow-add}
use lib.Bits.{bit_xor, xor_comm, xor_shifted}
use Rattle.crc_zeros.specs.Zeros.{zeros}
use Rattle.crc_zeros.proofs.Linear.{zeros_xor}

-- the lowest group
pub lowest : (w n x : ℕ) {y : ℕ} → y ≡ zeros n (x % 2 ^ w * 2 ^ 0) → y ≡ zeros n (x % 2 ^ w)
lowest w n x e = e ∙ ap (zeros n) (mul-one (x % 2 ^ w))

-- the groups below bit k, and that from bit k on
parted : (w x k : ℕ) → bit_xor (x % 2 ^ k) (x / 2 ^ k % 2 ^ w * 2 ^ k) ≡ x % 2 ^ (w + k)
parted w x k =
    xor_comm (x % 2 ^ k) (x / 2 ^ k % 2 ^ w * 2 ^ k)
    ∙ xor_shifted (x / 2 ^ k % 2 ^ w) k (x % 2 ^ k) (mod-lt x (pow_pos k))
    ∙ sym (mod-pow-add x w k)

pub more : (w n k x : ℕ) {a y : ℕ} → w + k ≤ 32
    → a ≡ zeros n (x % 2 ^ k) → y ≡ zeros n (x / 2 ^ k % 2 ^ w * 2 ^ k) → bit_xor a y ≡ zeros n (x % 2 ^ (w + k))
more w n k x room h e =
    let below : x % 2 ^ k < 2 ^ 32 = lt_of_lt_of_le (mod-lt x (pow_pos k)) (pow_mono {i = k} {j = 32} (omega arith)) in
    let here : x / 2 ^ k % 2 ^ w * 2 ^ k < 2 ^ 32 =
    lt_of_lt_of_le (shl_lt w k (mod-lt (x / 2 ^ k) (pow_pos w))) (pow_mono {i = w + k} {j = 32} room) in
    ap₂ bit_xor h e
    ∙ sym (zeros_xor n (x % 2 ^ k) (x / 2 ^ k % 2 ^ w * 2 ^ k) below here)
    ∙ ap (zeros n) (parted w x k)

-- all of them
pub whole : (n x : ℕ) {y : ℕ} → x < 2 ^ 32 → y ≡ zeros n (x % 2 ^ 32) → y ≡ zeros n x
whole n x h e = e ∙ ap (zeros n) (mod-eq_of_lt h)
