-- Numbers as text in ASCII, and text in a lent buffer.
use Rattle.std.specs.Prelude.{◌≡◌, cond, List, [], ◌∷◌, ◌++◌, ℕ, zero, suc, ◌+◌, ◌-◌, ◌/◌, ◌%◌, ltb, length}
use Rattle.std.proofs.lemmas.List.Edits.{sets}

-- a digit below 16: `0` (48) to `9`, then `A` (65) to `F`
abbrev pub hex_digit : ℕ → ℕ
hex_digit d = cond (ltb d 10) (48 + d) (65 + (d - 10))

-- a byte in two digits
abbrev pub hex2 : ℕ → List ℕ
hex2 v = hex_digit (v / 16) ∷ hex_digit (v % 16) ∷ []

-- two bytes in four digits
abbrev pub hex4 : ℕ → List ℕ
hex4 v = hex2 (v / 256) ++ hex2 (v % 256)

-- the last digit of v, and before it those of v / 10 where there are any, at most k of them
unfoldable pub decimal_in : ℕ → ℕ → List ℕ
decimal_in zero v = (48 + v) ∷ []
decimal_in (suc k) v = cond (ltb v 10) ((48 + v) ∷ []) (decimal_in k (v / 10) ++ ((48 + v % 10) ∷ []))

-- v in decimal, with no zero in front: v itself is more than the number of its digits
unfoldable pub decimal : ℕ → List ℕ
decimal v = decimal_in v v

-- the text t stands in a buffer from `at` on, which was l before and is m now; r is the place after the text
pub record Wrote (l : List ℕ) (at : ℕ) (t m : List ℕ) (r : ℕ) : Type 0 where
  pub next : r ≡ at + length t
  pub bytes : m ≡ sets l at t
