-- A register by its groups of four bits. Assumes nothing.
use mathlib.Core.Path.{◌≡◌, sym, ap, ◌∙◌}
use mathlib.Core.List.{List, [], ◌∷◌}
use Prim.Native.Nat.{ℕ, zero, suc, ◌+◌, ◌*◌, ◌/◌, ◌%◌, ◌^◌, ◌≤◌, ◌<◌}
use native.Mathlib.Nat.{mod-lt, add-zero, zero-add, add-suc, suc-add, le_of_suc-le-suc, not-suc-le-zero}
use lib.ListN.{get_or}
use lib.Pow.{pow_pos}
use lib.Bits.{bit_xor}
use Rattle.crc_zeros.specs.Zeros.{zeros}
use Rattle.crc_zeros.proofs.Groups as Groups

-- ---- one group

-- what the m numbers from y on make, from bit k on, when n zeros go in
unfoldable pub row : ℕ → ℕ → ℕ → ℕ → List ℕ
row n k zero y = []
row n k (suc m) y = zeros n (y * 2 ^ k) ∷ row n k m (suc y)

in_row : (n k m y i : ℕ) → i < m → get_or (row n k m y) i 0 ≡ zeros n ((y + i) * 2 ^ k)
unfolding row
in_row n k zero y i h = absurd (not-suc-le-zero h)
in_row n k (suc m) y zero h = ap (λ (x : ℕ). zeros n (x * 2 ^ k)) (sym (add-zero y))
in_row n k (suc m) y (suc i) h =
    in_row n k m (suc y) i (le_of_suc-le-suc h) ∙ ap (λ (x : ℕ). zeros n (x * 2 ^ k)) (suc-add y i ∙ sym (add-suc y i))

-- a look into sixteen numbers that are right, which antt works out
look : (n k x : ℕ) {y : ℕ} {l : List ℕ} → y ≡ get_or l (x % 16) 0 → l ≡ row n k 16 0 → y ≡ zeros n (x % 16 * 2 ^ k)
look n k x h e =
    h ∙ ap (λ (l : List ℕ). get_or l (x % 16) 0) e ∙ in_row n k 16 0 (x % 16) (mod-lt x (pow_pos 4))
    ∙ ap (λ (y : ℕ). zeros n (y * 2 ^ k)) (zero-add (x % 16))

-- ---- one group after another

pub lowest : (n x : ℕ) {y : ℕ} {l : List ℕ} → y ≡ get_or l (x % 16) 0 → l ≡ row n 0 16 0 → y ≡ zeros n (x % 2 ^ 4)
lowest n x h e = Groups.lowest 4 n x (look n 0 x h e)

pub more : (n k x : ℕ) {a y : ℕ} {l : List ℕ} → 4 + k ≤ 32
    → a ≡ zeros n (x % 2 ^ k) → y ≡ get_or l (x / 2 ^ k % 16) 0 → l ≡ row n k 16 0 → bit_xor a y ≡ zeros n (x % 2 ^ (4 + k))
more n k x room h g e = Groups.more 4 n k x room h (look n k (x / 2 ^ k) g e)
