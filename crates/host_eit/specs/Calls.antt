-- What the calls of the EIT collector answer and leave in the words that a host lends: what eit/specs/Store.antt says of the collector that the
-- words hold.
use Rattle.std.specs.Prelude.{ℕ, List, [], ◌∷◌, cond, eqb}
use Rattle.host_words.specs.Answers.{Words, words}
use Rattle.host_words.specs.Inputs.{input_number}
use Rattle.host_words.specs.Pids.{maybe_pid}
use Rattle.host_words.specs.Sections.{tells_next}
use Rattle.eit_state.specs.State.{store, asked}
use Rattle.eit.specs.Store.{Told, done, nothing, a_set, a_schedule, refused, number, After, opened_of, pushed_of, cleared_of, dropped_of, next_of, next_in_of}
use Rattle.host_eit_words.specs.Words.{eit_of, words_of, words_after, filter_of}

-- 7 writes all eight words; a refused opening leaves them as they were
abbrev pub opened_as : List ℕ → After → Words
opened_as eit l = words (number l.told) (cond (eqb (number l.told) 7) (words_of l.store.eit) eit)

unfoldable pub eit_opened : List ℕ → ℕ → ℕ → ℕ → List ℕ → List ℕ → List ℕ → List ℕ → List ℕ → Words
eit_opened eit limit size count heads slots cells schedule_heads units = opened_as eit (opened_of (store (asked limit size count) heads slots cells schedule_heads units))

-- the counts after a clearing
abbrev pub cleared_as : List ℕ → After → Words
cleared_as eit l = words (number l.told) (words_after eit l.store.eit)

unfoldable pub eit_cleared : List ℕ → List ℕ → List ℕ → List ℕ → List ℕ → List ℕ → Words
eit_cleared eit heads slots cells schedule_heads units = cleared_as eit (cleared_of (store (eit_of eit) heads slots cells schedule_heads units))

-- an answer, the collector's eight words, the words of the five lent slices, and the row that goes out
pub record EitLeft : Type 0 where
  pub answer : ℕ
  pub eit : List ℕ
  pub heads : List ℕ
  pub slots : List ℕ
  pub cells : List ℕ
  pub schedule_heads : List ℕ
  pub units : List ℕ
  pub row : List ℕ

abbrev pub eit_left : ℕ → List ℕ → List ℕ → List ℕ → List ℕ → List ℕ → List ℕ → List ℕ → EitLeft
eit_left answer eit heads slots cells schedule_heads units row =
    record { answer = answer; eit = eit; heads = heads; slots = slots; cells = cells; schedule_heads = schedule_heads; units = units; row = row }

-- the row of a set or a schedule that goes out; any other answer leaves the word as it was
abbrev pub row_after : Told → List ℕ → List ℕ
row_after done row = row
row_after nothing row = row
row_after (a_set o) row = o.row ∷ []
row_after (a_schedule o) row = o.row ∷ []
row_after (refused r) row = row

abbrev pub pushed_as : List ℕ → List ℕ → After → EitLeft
pushed_as eit row l =
    eit_left (number l.told)
    (words_after eit l.store.eit)
    l.store.heads
    l.store.slots
    l.store.cells
    l.store.schedule_heads
    l.store.units
    (row_after l.told row)

unfoldable pub eit_pushed : List ℕ → List ℕ → List ℕ → List ℕ → List ℕ → List ℕ → (input pid : ℕ) → List ℕ → List ℕ → EitLeft
eit_pushed eit heads slots cells schedule_heads units input pid section row =
    pushed_as eit row (pushed_of (store (eit_of eit) heads slots cells schedule_heads units) (input_number input) (maybe_pid pid) section)

-- an answer, the collector's eight words, and the words of the four slices that a drop may write
pub record EitDropped : Type 0 where
  pub answer : ℕ
  pub eit : List ℕ
  pub heads : List ℕ
  pub slots : List ℕ
  pub schedule_heads : List ℕ
  pub units : List ℕ

abbrev pub eit_dropped_to : ℕ → List ℕ → List ℕ → List ℕ → List ℕ → List ℕ → EitDropped
eit_dropped_to answer eit heads slots schedule_heads units =
    record { answer = answer; eit = eit; heads = heads; slots = slots; schedule_heads = schedule_heads; units = units }

abbrev pub dropped_as : List ℕ → After → EitDropped
dropped_as eit l =
    eit_dropped_to (number l.told)
    (words_after eit l.store.eit)
    l.store.heads
    l.store.slots
    l.store.schedule_heads
    l.store.units

unfoldable pub eit_dropped : List ℕ → List ℕ → List ℕ → List ℕ → List ℕ → List ℕ → List ℕ → EitDropped
eit_dropped eit heads slots cells schedule_heads units filter = dropped_as eit (dropped_of (store (eit_of eit) heads slots cells schedule_heads units) (filter_of filter))

-- 8 writes number, start and length of the section that is told of; 9 and 10 leave the three words as they were
unfoldable pub eit_next : List ℕ → List ℕ → List ℕ → List ℕ → List ℕ → List ℕ → ℕ → ℕ → List ℕ → Words
eit_next eit heads slots cells schedule_heads units row from next = tells_next (next_of (store (eit_of eit) heads slots cells schedule_heads units) row from) next

unfoldable pub eit_next_in : List ℕ → List ℕ → List ℕ → List ℕ → List ℕ → List ℕ → ℕ → ℕ → ℕ → List ℕ → Words
eit_next_in eit heads slots cells schedule_heads units row table from next =
    tells_next (next_in_of (store (eit_of eit) heads slots cells schedule_heads units) row table from) next
