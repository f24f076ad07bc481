-- An entry of a table is the sum of what its bits make, which is how antt works the tables out. Assumes nothing.
use mathlib.Core.Path.{◌≡◌, sym, ap, ap₂, subst, ◌∙◌}
use mathlib.Core.List.{List, [], ◌∷◌}
use Prim.Native.Nat.{ℕ, zero, suc, ◌+◌, ◌*◌, ◌/◌, ◌%◌, ◌^◌, ◌≤◌, ◌<◌}
use native.Mathlib.Nat.{mod-lt, zero-lt-suc, zero-mul, one-mul, pow-suc, lt_of_lt_of_le}
use native.Mathlib.Omega.{arith}
use lib.Arith.{lt-one}
use lib.Pow.{pow_mono, shl_lt}
use lib.ListN.{get_or}
use lib.Bits.{bit_xor, xor_comm, xor_lt}
use Rattle.crc_zeros.specs.Zeros.{zeros}
use Rattle.crc_tables.specs.Entries.{entry}
use Rattle.crc_zeros.proofs.Linear.{zeros_lt, zeros_xor, zeros_low, joined, summed}

-- what the m bits from bit k on make, the lowest first
unfoldable pub basis : ℕ → ℕ → ℕ → List ℕ
basis n k zero = []
basis n k (suc m) = zeros n (2 ^ k) ∷ basis n (suc k) m

-- the sum of those of the numbers whose bit in b is 1
unfoldable pub sum_of : List ℕ → ℕ → ℕ
sum_of [] b = 0
sum_of (v ∷ vs) b = bit_xor (b % 2 * v) (sum_of vs (b / 2))

nothing : (n k : ℕ) → zeros n (0 * 2 ^ k) ≡ 0
nothing n k =
    let h : 0 * 2 ^ n < 2 ^ 32 = subst (λ (x : ℕ). x < 2 ^ 32) (sym (zero-mul (2 ^ n))) (omega arith) in
    ap (zeros n) (zero-mul (2 ^ k)) ∙ zeros_low n 0 h ∙ zero-mul (2 ^ n)

digit : (n k t : ℕ) → t < 2 → t * zeros n (2 ^ k) ≡ zeros n (t * 2 ^ k)
digit n k zero h = zero-mul (zeros n (2 ^ k)) ∙ sym (nothing n k)
digit n k (suc zero) h = one-mul (zeros n (2 ^ k)) ∙ ap (zeros n) (sym (one-mul (2 ^ k)))
digit n k (suc (suc t)) h = absurd (omega arith)

sum_zeros : (m n k b : ℕ) → m + k ≤ 32 → b < 2 ^ m → sum_of (basis n k m) b ≡ zeros n (b * 2 ^ k)
unfolding basis sum_of
sum_zeros zero n k b room h = sym (ap (λ (x : ℕ). zeros n (x * 2 ^ k)) (lt-one h) ∙ nothing n k)
sum_zeros (suc m) n k b room h =
    let h2 : b < 2 ^ m * 2 = subst (λ (x : ℕ). b < x) (pow-suc 2 m) h in
    let whole : b * 2 ^ k < 2 ^ 32 = lt_of_lt_of_le (shl_lt (suc m) k h) (pow_mono {i = suc m + k} {j = 32} room) in
    let ha : b / 2 * 2 ^ suc k < 2 ^ 32 = omega (arith, summed b k) in
    let hb : b % 2 * 2 ^ k < 2 ^ 32 = omega (arith, summed b k) in
    ap₂ bit_xor (digit n k (b % 2) (mod-lt b (zero-lt-suc 1))) (sum_zeros m n (suc k) (b / 2) (omega arith) (omega arith))
    ∙ xor_comm (zeros n (b % 2 * 2 ^ k)) (zeros n (b / 2 * 2 ^ suc k))
    ∙ sym (zeros_xor n (b / 2 * 2 ^ suc k) (b % 2 * 2 ^ k) ha hb)
    ∙ ap (zeros n) (joined b k)

-- ---- the entries of a byte's table

abbrev pub made : ℕ → ℕ → ℕ → ℕ
made n k b = sum_of (basis n k 8) (bit_xor b 128)

turned_lt : (b : ℕ) → b < 256 → bit_xor b 128 < 256
turned_lt b h = xor_lt 8 b 128 h (omega arith)

pub made_entry : (n k : ℕ) → 8 + k ≤ 32 → (b : ℕ) → b < 256 → made n k b ≡ entry n k b
made_entry n k room b h = sum_zeros 8 n k (bit_xor b 128) room (turned_lt b h)

pub entry_lt : (n k : ℕ) → 8 + k ≤ 32 → (b : ℕ) → b < 256 → entry n k b < 2 ^ 32
entry_lt n k room b h = zeros_lt n (bit_xor b 128 * 2 ^ k) (lt_of_lt_of_le (shl_lt 8 k (turned_lt b h)) (pow_mono {i = 8 + k} {j = 32} room))

pub made_lt : (n k : ℕ) → 8 + k ≤ 32 → (b : ℕ) → b < 256 → made n k b < 2 ^ 32
made_lt n k room b h = subst (λ (x : ℕ). x < 2 ^ 32) (sym (made_entry n k room b h)) (entry_lt n k room b h)

-- ---- a table as a list

-- the m entries of f from i on
unfoldable pub entries : (ℕ → ℕ) → ℕ → ℕ → List ℕ
entries f i zero = []
entries f i (suc m) = f i ∷ entries f (suc i) m

entries_at : (f : ℕ → ℕ) (i m b : ℕ) → b < m → get_or (entries f i m) b 0 ≡ f (i + b)
unfolding entries
entries_at f i zero b h = absurd (omega arith)
entries_at f i (suc m) zero h = ap f (omega arith)
entries_at f i (suc m) (suc b) h = entries_at f (suc i) m b (omega arith) ∙ ap f (omega arith)

-- what a table of 256 such entries has at a byte
pub entry_in : (n k : ℕ) → 8 + k ≤ 32 → (xs : List ℕ) → xs ≡ entries (made n k) 0 256 → (b : ℕ) → b < 256 → get_or xs b 0 ≡ entry n k b
entry_in n k room xs e b h =
    ap (λ (l : List ℕ). get_or l b 0) e ∙ entries_at (made n k) 0 256 b h ∙ ap (made n k) (omega arith) ∙ made_entry n k room b h
