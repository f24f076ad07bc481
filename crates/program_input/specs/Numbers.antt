-- The number that decimal digits write, as a program's argument gives it.
use Rattle.std.specs.Prelude.{ℕ, ◌+◌, ◌-◌, ◌*◌, List, [], ◌∷◌, Bool, cond, ◌&&◌, ltb, leb, min, Option, Some, None}

-- a decimal digit in ASCII
abbrev pub is_digit : ℕ → Bool
is_digit c = leb 48 c && leb c 57

-- one more digit; what has no room in 64 bits is the largest number that has
abbrev pub grown : (v digit : ℕ) → ℕ
grown v digit = cond (ltb 1844674407370955160 v) 18446744073709551615 (v * 10 + digit)

-- v and the digits behind it, none where one is no digit
unfoldable pub number_from : ℕ → List ℕ → Option ℕ
number_from v [] = Some v
number_from v (c ∷ cs) = cond (is_digit c) (number_from (grown v (c - 48)) cs) None

-- no digits are no number
abbrev pub number_in : List ℕ → Option ℕ
number_in [] = None
number_in (c ∷ cs) = number_from 0 (c ∷ cs)
