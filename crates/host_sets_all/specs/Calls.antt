-- What the call of many sections answers and leaves in the words that a host lends: what sets_all/specs/All.antt says of the collector that the words
-- hold, and how many bytes of the list were taken.
-- Assumes nothing.
use Rattle.std.specs.Prelude.{ℕ, List, [], ◌∷◌}
use Rattle.store.specs.Store.{Store, store}
use Rattle.store.specs.declared.Sets.{Sets}
use Rattle.sets_settle.specs.Settle.{after}
use Rattle.sets_all.specs.All.{AllTold, of, overlong, AllAfter, pushed_all}
use Rattle.sets_all.specs.declared.AllAnswer.{AllAnswer}
use Rattle.sets_all.specs.declared.AllAnswer.TheVariants as answer
use Rattle.host_words.specs.Answers.{Pushes, pushes}
use Rattle.host_sets_words.specs.Words.{sets_of, tells_pushed}
use Rattle.host_sets.specs.Calls.{SetsLeft, sets_left, pushed_as}

-- what the words of the collector and the row's word are then: as one push leaves them, and 42 leaves them as they were
abbrev pub tells_all : AllAnswer → Sets → List ℕ → List ℕ → Pushes
tells_all (answer.Pushed a) s w row = tells_pushed (record { answer = a; sets = s }) w row
tells_all answer.TooLong s w row = pushes 42 w row

-- what one push leaves in all that is lent, and the word of the bytes that were taken
pub record AllLeft : Type 0 where
  pub left : SetsLeft
  pub taken : List ℕ

abbrev pub all_left : SetsLeft → List ℕ → AllLeft
all_left left taken = record { left = left; taken = taken }

abbrev pub left_by : List ℕ → List ℕ → AllTold → Store → SetsLeft
left_by sets row (of t) s = pushed_as sets row (after t s)
left_by sets row overlong s = sets_left 42 sets s.heads s.slots s.cells row

abbrev pub pushed_all_as : List ℕ → List ℕ → AllAfter → AllLeft
pushed_all_as sets row l = all_left (left_by sets row l.told l.store) (l.taken ∷ [])

unfoldable pub sets_pushed_all : (sets heads slots cells list row : List ℕ) → AllLeft
sets_pushed_all sets heads slots cells list row = pushed_all_as sets row (pushed_all (store (sets_of sets) heads slots cells) list)
