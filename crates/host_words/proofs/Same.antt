-- An array of words, word by word.
-- Assumes nothing.
use Prim.Native.Nat.{ℕ, suc, ◌<◌, ◌≤◌}
use mathlib.Core.Path.{◌≡◌, ap, ◌∙◌}
use mathlib.Core.List.{List, [], ◌∷◌}
use native.Mathlib.Omega.{arith}
use lib.ListN.{length, drop, drop_of_length-le}
use lib.Seq.{drop-cons}
use Rattle.host_words.specs.Answers.{at}

-- a list from index i on is its element there and the list from i + 1 on
pub word : (w : List ℕ) (i : ℕ) (t : List ℕ) → i < length w → drop (suc i) w ≡ t → drop i w ≡ at w i ∷ t
word w i t h e = drop-cons w i 0 h ∙ ap (λ (l : List ℕ). at w i ∷ l) e

pub none : (w : List ℕ) (n : ℕ) → length w ≡ n → drop n w ≡ []
none w n h = let k : length w ≤ n = omega arith in drop_of_length-le w k
