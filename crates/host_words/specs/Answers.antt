-- What a call hands to a host: the number that is answered, and the words of the arrays that it may write.
use Rattle.std.specs.Prelude.{ℕ, List, get_or}

-- word i of an array
abbrev pub at : List ℕ → ℕ → ℕ
at words i = get_or words i 0

-- an answer, and the words of one array
pub record Words : Type 0 where
  pub answer : ℕ
  pub now : List ℕ

abbrev pub words : ℕ → List ℕ → Words
words answer now = record { answer = answer; now = now }

-- an answer, the words of a collector, and the word of the row that goes out
pub record Pushes : Type 0 where
  pub answer : ℕ
  pub now : List ℕ
  pub row : List ℕ

abbrev pub pushes : ℕ → List ℕ → List ℕ → Pushes
pushes answer now row = record { answer = answer; now = now; row = row }
