-- A number is read digit by digit: what is read so far, and the rest.
-- Assumes nothing.
use mathlib.Core.Path.{◌≡◌, refl, sym, ◌∙◌}
use mathlib.Core.List.{List, [], ◌∷◌}
use mathlib.Core.Bool.{Bool, true, false, not}
use Prim.Native.Nat.{ℕ, ◌+◌, ◌-◌, ◌≤◌, ◌<◌}
use native.Mathlib.Numerals.{add-one}
use native.Mathlib.Omega.{arith}
use borrow.Author.Tests.{not-true, not-false, leb-true}
use lib.ListN.{length, drop, get_or, drop_of_length-le}
use lib.Seq.{drop-cons}
use lib.Dec.{leb}
use Rattle.std.specs.Prelude.{Some, None}
use Rattle.program_input.specs.Numbers.{is_digit, grown, number_from, number_in}

-- of no digits there is none; of some, all are read from 0 on
pub number_none : (text : List ℕ) → length text ≡ 0 → None ≡ number_in text
number_none [] h = refl
number_none (c ∷ cs) h = absurd (omega arith)

pub number_some : (text : List ℕ) → (length text ≡ 0 → ⊥) → number_in text ≡ number_from 0 text
number_some [] h = absurd (h refl)
number_some (c ∷ cs) h = refl

-- a turn of the loop: no digit, or one more
module _ (text : List ℕ) (v i c : ℕ) (h : i < length text) (ec : c ≡ get_or text i 0) (b : Bool) (eb : b ≡ is_digit c)
    (q : number_in text ≡ number_from v (drop i text)) where
  pub number_stop : not b ≡ true → None ≡ number_in text
  unfolding number_from
  number_stop k = sym (q ∙ rw (drop-cons text i 0 h, ← ec, ← eb, not-true b k))

  pub number_turn : (g : ℕ) → not b ≡ false → g ≡ grown v (c - 48) → number_in text ≡ number_from g (drop (i + 1) text)
  unfolding number_from
  number_turn g k e = q ∙ rw (drop-cons text i 0 h, ← ec, ← eb, not-false b k, e, add-one i)

pub number_end : (text : List ℕ) (v i : ℕ) → length text ≤ i → number_in text ≡ number_from v (drop i text) → Some v ≡ number_in text
unfolding number_from
number_end text v i h q = sym (q ∙ rw (drop_of_length-le text h))
