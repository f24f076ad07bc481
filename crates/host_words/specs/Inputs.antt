-- An input as a host in another language gives it.
use Rattle.std.specs.Prelude.{ℕ, cond, ltb}

-- a number above 255 does not wrap to a small one: 255 is no input either, and is refused as one
abbrev pub input_number : ℕ → ℕ
input_number input = cond (ltb input 255) input 255
