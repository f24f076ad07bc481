-- The sums by which the code takes four bits of the register at once.
use Rattle.std.specs.Prelude.{List, [], ◌∷◌, ℕ}
use Rattle.std.specs.Int.Bits.{bit_xor}

-- the sixteen sums of four numbers: at y stands the sum of those whose bit in y is 1, a the lowest
abbrev pub sums : ℕ → ℕ → ℕ → ℕ → List ℕ
sums a b c d =
    0 ∷ a ∷ b ∷ bit_xor a b
    ∷ c ∷ bit_xor a c ∷ bit_xor b c ∷ bit_xor (bit_xor a b) c
    ∷ d ∷ bit_xor a d ∷ bit_xor b d ∷ bit_xor (bit_xor a b) d
    ∷ bit_xor c d ∷ bit_xor (bit_xor a c) d ∷ bit_xor (bit_xor b c) d ∷ bit_xor (bit_xor (bit_xor a b) c) d
    ∷ []
