-- A register by its four bytes, each by its table. Assumes nothing.
use mathlib.Core.Path.{◌≡◌, ap, ◌∙◌}
use Prim.Native.Nat.{ℕ, ◌*◌, ◌/◌, ◌%◌, ◌^◌, ◌<◌}
use native.Mathlib.Omega.{arith}
use lib.Bits.{bit_xor, xor_self, xor_zero_r}
use Rattle.laws.proofs.Xor.{xor_assoc}
use Rattle.crc_zeros.specs.Zeros.{zeros}
use Rattle.crc_tables.specs.Entries.{entry}
use Rattle.crc_zeros.proofs.Groups.{lowest, more, whole}

-- the bit is turned twice
looked : (n k v : ℕ) {b y : ℕ} → b ≡ bit_xor v 128 → y ≡ entry n k b → y ≡ zeros n (v * 2 ^ k)
looked n k v {b} {y} turned e =
    e ∙ ap (λ (x : ℕ). zeros n (x * 2 ^ k))
    (ap (λ (x : ℕ). bit_xor x 128) turned ∙ xor_assoc v 128 128 ∙ ap (bit_xor v) (xor_self 128) ∙ xor_zero_r v)

pub word : (n x : ℕ) {b₀ b₁ b₂ b₃ y₀ y₁ y₂ y₃ : ℕ} → x < 2 ^ 32
    → b₀ ≡ bit_xor (x % 2 ^ 8) 128 → y₀ ≡ entry n 0 b₀ → b₁ ≡ bit_xor (x / 2 ^ 8 % 2 ^ 8) 128 → y₁ ≡ entry n 8 b₁
    → b₂ ≡ bit_xor (x / 2 ^ 16 % 2 ^ 8) 128 → y₂ ≡ entry n 16 b₂ → b₃ ≡ bit_xor (x / 2 ^ 24 % 2 ^ 8) 128 → y₃ ≡ entry n 24 b₃
    → bit_xor (bit_xor (bit_xor y₀ y₁) y₂) y₃ ≡ zeros n x
word n x h t₀ e₀ t₁ e₁ t₂ e₂ t₃ e₃ =
    whole n x h
    (more 8 n 24 x (omega arith)
    (more 8 n 16 x (omega arith)
    (more 8 n 8 x (omega arith)
    (lowest 8 n x (looked n 0 (x % 2 ^ 8) t₀ e₀))
    (looked n 8 (x / 2 ^ 8 % 2 ^ 8) t₁ e₁))
    (looked n 16 (x / 2 ^ 16 % 2 ^ 8) t₂ e₂))
    (looked n 24 (x / 2 ^ 24 % 2 ^ 8) t₃ e₃))
