-- A promise on a number names one.
-- Assumes nothing.
use mathlib.Core.Path.{◌≡◌, sym, ◌∙◌}
use Prim.Native.Nat.{ℕ}
use Rattle.sets_settle.specs.Settle.{push_no}
use Rattle.sets_settle.specs.declared.PushAnswer.{PushAnswer}

pub unique_push_number : (a : PushAnswer) (r q : ℕ) → r ≡ push_no a → q ≡ push_no a → r ≡ q
unique_push_number a r q e f = e ∙ sym f
