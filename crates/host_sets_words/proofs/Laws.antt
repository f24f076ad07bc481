-- One law for each way out of a function.
-- Assumes nothing.
use Prim.Native.Nat.{ℕ}
use mathlib.Core.Path.{◌≡◌}
use mathlib.Core.List.{List, [], ◌∷◌}
use Rattle.answers.specs.Answers.{Outcome}
use Rattle.std.specs.Prelude.{Ok}
use Rattle.store.specs.declared.Sets.{Sets}
use Rattle.sets_settle.specs.declared.PushAnswer.{PushAnswer}
use Rattle.sets_settle.specs.declared.PushAnswer.TheVariants as push_answer
use Rattle.host_sets_words.specs.Words as collectors

pub sets_written : (a : Outcome) (s : Sets) (w ws : List ℕ) → a ≡ Ok tt → ws ≡ collectors.words_of s → ws ≡ collectors.words_opened a s w
sets_written a s w ws h e = rw h e

pub row_written : (a : PushAnswer) (i : ℕ) (row : List ℕ) → a ≡ push_answer.Set i → i ∷ [] ≡ collectors.row_by a row
row_written a i row h = rw h
