-- What the calls of the set collector answer and leave in the words that a host lends: what sets/specs/Store.antt says of the collector that the
-- words hold.
use Rattle.std.specs.Prelude.{ℕ, List, [], ◌∷◌, cond, eqb}
use Rattle.host_words.specs.Answers.{Words, words}
use Rattle.host_words.specs.Inputs.{input_number}
use Rattle.host_words.specs.Pids.{maybe_pid}
use Rattle.host_words.specs.Sections.{tells_next}
use Rattle.store.specs.Store.{store, asked}
use Rattle.sets_settle.specs.Settle.{Told, done, nothing, handed, refused, told_no, SetsAfter}
use Rattle.sets.specs.Store.{opened_of, pushed_of, cleared_of, next_of}
use Rattle.host_sets_words.specs.Words.{sets_of, words_of, words_after}

-- 7 writes all six words; a refused opening leaves them as they were
abbrev pub opened_as : List ℕ → SetsAfter → Words
opened_as sets l = words (told_no l.told) (cond (eqb (told_no l.told) 7) (words_of l.store.sets) sets)

unfoldable pub sets_opened : List ℕ → ℕ → ℕ → ℕ → List ℕ → List ℕ → List ℕ → Words
sets_opened sets limit size count heads slots cells = opened_as sets (opened_of (store (asked limit size count) heads slots cells))

-- the counts after a clearing
abbrev pub cleared_as : List ℕ → SetsAfter → Words
cleared_as sets l = words (told_no l.told) (words_after sets l.store.sets)

unfoldable pub sets_cleared : List ℕ → List ℕ → List ℕ → List ℕ → Words
sets_cleared sets heads slots cells = cleared_as sets (cleared_of (store (sets_of sets) heads slots cells))

-- an answer, the collector's six words, the words of the three lent slices, and the row that goes out
pub record SetsLeft : Type 0 where
  pub answer : ℕ
  pub sets : List ℕ
  pub heads : List ℕ
  pub slots : List ℕ
  pub cells : List ℕ
  pub row : List ℕ

abbrev pub sets_left : ℕ → List ℕ → List ℕ → List ℕ → List ℕ → List ℕ → SetsLeft
sets_left answer sets heads slots cells row = record { answer = answer; sets = sets; heads = heads; slots = slots; cells = cells; row = row }

-- the row of a set that goes out; any other answer leaves the word as it was
abbrev pub row_after : Told → List ℕ → List ℕ
row_after done row = row
row_after nothing row = row
row_after (handed h) row = h.row ∷ []
row_after (refused r) row = row

abbrev pub pushed_as : List ℕ → List ℕ → SetsAfter → SetsLeft
pushed_as sets row l =
    sets_left (told_no l.told) (words_after sets l.store.sets) l.store.heads l.store.slots l.store.cells (row_after l.told row)

unfoldable pub sets_pushed : List ℕ → List ℕ → List ℕ → List ℕ → (input pid : ℕ) → List ℕ → List ℕ → SetsLeft
sets_pushed sets heads slots cells input pid section row = pushed_as sets row (pushed_of (store (sets_of sets) heads slots cells) (input_number input) (maybe_pid pid) section)

-- 8 writes number, start and length of the section that is told of; 9, 10 and 41 leave the three words as they were
unfoldable pub sets_next : List ℕ → List ℕ → List ℕ → List ℕ → ℕ → ℕ → List ℕ → Words
sets_next sets heads slots cells row from next = tells_next (next_of (store (sets_of sets) heads slots cells) row from) next
