-- A promise on a number names one.
-- Assumes nothing.
use mathlib.Core.Path.{◌≡◌, sym, ◌∙◌}
use Prim.Native.Nat.{ℕ}
use Rattle.eit_state.specs.declared.PushAnswer.{PushAnswer}
use Rattle.eit_state.specs.State.{push_number}

pub unique_push_number : (a : PushAnswer) (r q : ℕ) → r ≡ push_number a → q ≡ push_number a → r ≡ q
unique_push_number a r q e f = e ∙ sym f
