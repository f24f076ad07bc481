-- What the call of many sections answers and leaves in the words that a host lends: what eit_all/specs/All.antt says of the collector that the words
-- hold, and how many bytes of the list were taken.
-- Assumes nothing.
use Rattle.std.specs.Prelude.{ℕ, List, [], ◌∷◌}
use Rattle.eit_state.specs.State.{Store, store}
use Rattle.eit_state.specs.declared.Eit.{Eit}
use Rattle.eit.specs.Store.{after}
use Rattle.eit_each.specs.Each.{AllTold, of, overlong, AllAfter}
use Rattle.eit_each.specs.declared.AllAnswer.{AllAnswer}
use Rattle.eit_each.specs.declared.AllAnswer.TheVariants as answer
use Rattle.eit_all.specs.All.{pushed_all}
use Rattle.host_words.specs.Answers.{Pushes, pushes}
use Rattle.host_eit_words.specs.Words.{eit_of, tells_pushed}
use Rattle.host_eit.specs.Calls.{EitLeft, eit_left, pushed_as}

-- what the words of the collector and the row's word are then: as one push leaves them, and 42 leaves them as they were
abbrev pub tells_all : AllAnswer → Eit → List ℕ → List ℕ → Pushes
tells_all (answer.Pushed a) s w row = tells_pushed (record { answer = a; eit = s }) w row
tells_all answer.TooLong s w row = pushes 42 w row

-- what one push leaves in all that is lent, and the word of the bytes that were taken
pub record AllLeft : Type 0 where
  pub left : EitLeft
  pub taken : List ℕ

abbrev pub all_left : EitLeft → List ℕ → AllLeft
all_left left taken = record { left = left; taken = taken }

abbrev pub left_by : List ℕ → List ℕ → AllTold → Store → EitLeft
left_by eit row (of t) s = pushed_as eit row (after t s)
left_by eit row overlong s = eit_left 42 eit s.heads s.slots s.cells s.schedule_heads s.units row

abbrev pub pushed_all_as : List ℕ → List ℕ → AllAfter → AllLeft
pushed_all_as eit row l = all_left (left_by eit row l.told l.store) (l.taken ∷ [])

unfoldable pub eit_pushed_all : (eit heads slots cells schedule_heads units list row : List ℕ) → AllLeft
eit_pushed_all eit heads slots cells schedule_heads units list row = pushed_all_as eit row (pushed_all (store (eit_of eit) heads slots cells schedule_heads units) list)
