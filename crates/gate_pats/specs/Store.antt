-- What opening and offering answer and leave where a watch record is lent (docs/RULES.md, "Gate" and "Watched PIDs"), for every gate, every record of
-- counters and every content of the lent slices: the gate of sections (crate gate), and, where complete PATs are followed, the PAT store (crate pats)
-- behind it. `cond test a b` is a where the test is true, else b.
use Rattle.std.specs.Prelude.{ℕ, ◌≤◌, ◌≡◌, List, Bool, true, false, cond, ◌&&◌, ◌||◌, length, eqb}
use Rattle.answers.specs.Answers.{outcome_no, Outcome}
use Rattle.counters.specs.Counters.{zeroes}
use Rattle.counters.specs.declared.Counters.{Counters}
use Rattle.watched.specs.Store.{all_pids}
use Rattle.watched.specs.Store as watched
use Rattle.pats.specs.Store.{Record, record_of, room_for, pats_whole, pats_full, begun_words, entered_in, PatsReady}
use Rattle.gate_state.specs.State.{Said, plain, short, mismatch, said_of, by_tables, empty_gate}
use Rattle.gate_state.specs.declared.Follow.{Follow}
use Rattle.gate_state.specs.declared.Settings.{Settings}
use Rattle.gate_state.specs.declared.Gate.{Gate}
use Rattle.gate_state.specs.declared.Offered.{Offered}
use Rattle.gate_state.specs.declared.Opened.{Opened}
use Rattle.gate.specs.Store.{Store, store_of, is_whole, offered, opened}
use Rattle.gate.specs.Store as sections
use Rattle.gate_pats.specs.declared.inner.State.{State}
use Rattle.gate_pats.specs.declared.inner.State.TheVariants.{NotWhole, Full, Ready}

-- ---- the record

-- 13: a PAT store is needed only where complete PATs are followed
abbrev pub room_with : Follow → ℕ → ℕ → ℕ → Bool
room_with f words slots cells = cond (by_tables f) (room_for words slots cells) true

-- whether the record is whole (10) and can count (11): asked only where complete PATs are followed
unfoldable pub state_of : Follow → Record → State
state_of f r = cond (by_tables f) (cond (pats_whole r) (cond (pats_full r.words) Full Ready) NotWhole) Ready

-- what the PAT store asks for, where it is used
pub record RecordReady (f : Follow) (r : Record) : Type 0 where
  pub pats : by_tables f ≡ true → PatsReady r

abbrev pub StateOk : Follow → Record → State → Type 0
StateOk f r NotWhole = Unit {0}
StateOk f r Full = Unit {0}
StateOk f r Ready = RecordReady f r

-- ---- opening

-- there is room for the counts of a PAT store, where one is used
pub record BeginOk (f : Follow) (words : ℕ) : Type 0 where
  pub room : by_tables f ≡ true → 398 ≤ words

-- the words after an opening that answered: where it is 7 and complete PATs are followed, with a PAT store that has no row and no eviction
abbrev pub words_with : Follow → ℕ → List ℕ → List ℕ
words_with f answer words = cond (by_tables f && eqb answer 7) (begun_words words) words

-- 12, then 13
abbrev pub refused_with : List ℕ → ℕ
refused_with extra = cond (all_pids extra) 13 12

abbrev pub begun_with : Follow → sections.Begun → sections.Begun
begun_with f b = record { answer = b.answer; gate = b.gate; counters = b.counters; words = words_with f b.answer b.words }

-- opening a gate and a record: 12, then 13, each with the words as before; else 7. Slots and cells are not written
unfoldable pub opened_with : Settings → List ℕ → (keys changes slots cells : ℕ) → List ℕ → sections.Begun
opened_with s extra keys changes slots cells words =
    cond (room_with s.follow (length words) slots cells)
    (begun_with s.follow (opened s extra keys changes words))
    (sections.begins (refused_with extra) s words)

abbrev pub opening_with : Follow → watched.Opening → watched.Opening
opening_with f o = record { answer = o.answer; words = words_with f o.answer o.words }

-- opening a record alone: 12, then 13, each with the words as before; else 7
unfoldable pub record_opened : Settings → List ℕ → (slots cells : ℕ) → List ℕ → watched.Opening
record_opened s extra slots cells words =
    cond (room_with s.follow (length words) slots cells)
    (opening_with s.follow (watched.opened words s.well_known extra))
    (record { answer = refused_with extra; words = words })

-- ---- offering

-- a gate, its counters, the words of its rows, and a watch record
pub record Kept : Type 0 where
  pub gate : Gate
  pub counters : Counters
  pub keys : List ℕ
  pub changes : List ℕ
  pub watch : Record

abbrev pub kept_of : Gate → Counters → List ℕ → List ℕ → Record → Kept
kept_of g c keys changes r = record { gate = g; counters = c; keys = keys; changes = changes; watch = r }

-- the gate of sections in it
abbrev pub sections_in : Kept → Store
sections_in s = store_of s.gate s.counters s.keys s.changes s.watch.words

-- an answer as it is said, with its values, and what is left
pub record Offering : Type 0 where
  pub answer : Said
  pub left : Kept

-- what a call handed back, with the slices as it left them
abbrev pub left_with : Offered → List ℕ → List ℕ → Record → Offering
left_with o keys changes r = record { answer = said_of o.answer; left = kept_of o.gate o.counters keys changes r }

-- 1 or 2: the section is sound
abbrev pub sound_by : Said → Bool
sound_by (plain n) = eqb n 1 || eqb n 2
sound_by (short n) = false
sound_by (mismatch stored worked) = false

-- where complete PATs are followed, a sound section of PID 0 enters the PAT store, emitted or suppressed
unfoldable pub record_after : Follow → Said → (input pid : ℕ) → List ℕ → Record → Record
record_after f answer input pid section r = cond (by_tables f && sound_by answer && eqb pid 0) (entered_in r input section) r

-- the gate of sections answers first; the PAT store, last, can change neither answer nor counter
abbrev pub then_entered : Kept → (input pid : ℕ) → List ℕ → sections.Offering → Offering
then_entered s input pid section o =
    record {
      answer = o.answer;
      left = kept_of o.store.gate o.store.counters o.store.keys o.store.changes
          (record_after s.gate.follow o.answer input pid section (record_of o.store.words s.watch.slots s.watch.cells));
    }

unfoldable pub taken_with : Kept → (input pid : ℕ) → List ℕ → Offering
taken_with s input pid section = then_entered s input pid section (offered (sections_in s) input pid section)

-- 11 for a PAT store that cannot count comes after the gate's 10
abbrev pub full_no : Bool → ℕ
full_no whole = cond whole 11 10

unfoldable pub offered_by : Kept → (input pid : ℕ) → List ℕ → State → Offering
offered_by s input pid section NotWhole = record { answer = plain 10; left = s }
offered_by s input pid section Full = record { answer = plain (full_no (is_whole (sections_in s))); left = s }
offered_by s input pid section Ready = taken_with s input pid section

-- every gate, record, input, PID and section: 10, 11, 12, 37, then 31 or 3, then 1 or 2
unfoldable pub offered_with : Kept → (input pid : ℕ) → List ℕ → Offering
offered_with s input pid section = offered_by s input pid section (state_of s.gate.follow s.watch)
