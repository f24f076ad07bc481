-- The record of a watch that follows complete PATs: what it holds, and exactly what each call leaves, for every content of the three lent slices
-- (docs/RULES.md, "Watched PIDs" and "Collectors"; ISO/IEC 13818-1, 2.4.4.3). `cond test a b` is a where the test is true, else b.
use Rattle.std.specs.Prelude.{ℕ, ◌≤◌, ◌<◌, max, ◌≡◌, List, [], ◌∷◌, Bool, true, cond, ◌&&◌, length, get_or, take, drop, set, leb, eqb, Some, Result, Ok, Err}
use Rattle.std.proofs.Math.Seq.{paste}
use Rattle.section.specs.Header.{current_next_of}
use Rattle.answers.specs.declared.Refusal.{Refusal}
use Rattle.pat.specs.Pat.{readable, with_programs}
use Rattle.watched.specs.Store.{no_pids, following}
use Rattle.cells.specs.Cells.{all_whole}
use Rattle.rows.specs.Rows.{row_slots}
use Rattle.rows.specs.declared.Entry.{Entry}
use Rattle.store.specs.Store.{Store, store, whole_of, counters_full, WholeStore}
use Rattle.store.specs.declared.Sets.{Sets}
use Rattle.arrivals.specs.Arrivals.{set_arrival, Taken}
use Rattle.sets_plan.specs.Plan.{Ready}
use Rattle.sets_settle.specs.Settle.{Told, done, nothing, handed, refused, SetsAfter, set_in, answer_of}
use Rattle.sets_settle.specs.declared.PushAnswer.{PushAnswer}
use Rattle.sets_settle.specs.declared.PushAnswer.TheVariants as push_answer
use Rattle.sets_push.specs.Pushing.{whole_pushed}

-- ---- the record

-- words 0 to 383 are the three sets of PIDs (crate watched), 384 the rows of the PAT store in use, 385 its evictions, 386 to 397 the head of its
-- row; the slots of its row; its 256 cells of 1,024 bytes
pub record Record : Type 0 where
  pub words : List ℕ
  pub slots : List ℕ
  pub cells : List ℕ

abbrev pub record_of : List ℕ → List ℕ → List ℕ → Record
record_of words slots cells = record { words = words; slots = slots; cells = cells }

-- the clock of a store of one row is the tick of that row
abbrev pub pat_clock : List ℕ → ℕ
pat_clock words = cond (eqb (get_or words 384 0) 0) 0 (get_or words 395 0)

abbrev pub pat_sets : List ℕ → Sets
pat_sets words = record { limit = 1; size = 1024; count = 256; used = get_or words 384 0; evictions = get_or words 385 0; clock = pat_clock words }

abbrev pub pat_head : List ℕ → List ℕ
pat_head words = take 12 (drop 386 words)

-- the PAT store: a set collector of one key
abbrev pub pat_store : Record → Store
pat_store r = store (pat_sets r.words) (pat_head r.words) r.slots r.cells

-- slices of these lengths are long enough
abbrev pub room_for : ℕ → ℕ → ℕ → Bool
room_for words slots cells = leb 398 words && leb 288 slots && leb 262144 cells

-- not 10: long enough, and the PAT store is whole
unfoldable pub pats_whole : Record → Bool
pats_whole r = room_for (length r.words) (length r.slots) (length r.cells) && whole_of (pat_store r)

-- 11: the evictions or the clock are at their end
unfoldable pub pats_full : List ℕ → Bool
pats_full words = counters_full (pat_sets words)

-- the larger of the two: what is left to it is left to both
abbrev pub pat_most : List ℕ → ℕ
pat_most words = max (get_or words 385 0) (pat_clock words)

-- a PAT store that is opened has no row and has evicted none
unfoldable pub begun_words : List ℕ → List ℕ
begun_words words = set (set words 384 0) 385 0

-- ---- a section enters

-- readable as a PAT, marked current, and no longer than a PAT section may be
unfoldable pub enters : List ℕ → Bool
enters section = readable section && current_next_of section && leb (length section) 1024

-- the set n with the PIDs of the programs of each section
unfoldable pub with_all : List (List ℕ) → List ℕ → List ℕ
with_all [] n = n
with_all (s ∷ ss) n = with_all ss (with_programs s n)

-- the set N of a PAT in several sections: the PIDs of their programs other than 0
abbrev pub programs_of : List (List ℕ) → List ℕ
programs_of sections = with_all sections no_pids

-- of the sections that are kept in row 0, in section order
abbrev pub programs_of_row : Store → List ℕ
programs_of_row s = programs_of (set_in s 0).sections

-- the words with the counts and the head that the PAT store has now
abbrev pub with_store : List ℕ → Store → List ℕ
with_store words s = set (set (paste words 386 s.heads 12) 384 s.sets.used) 385 s.sets.evictions

-- what the PAT store told of a section, and the record with what it left
pub record Entering : Type 0 where
  pub told : Told
  pub then : Record

abbrev pub pushed_in : Record → SetsAfter → Entering
pushed_in r a = record { told = a.told; then = record_of (with_store r.words a.store) a.store.slots a.store.cells }

-- a PAT that goes out, 5, replaces N; every other answer changes no set of PIDs
abbrev pub watch_after : Told → List ℕ → List ℕ
watch_after done words = words
watch_after nothing words = words
watch_after (handed pat) words = following words (programs_of pat.sections)
watch_after (refused r) words = words

abbrev pub followed_in : Entering → Record
followed_in x = record_of (watch_after x.told x.then.words) x.then.slots x.then.cells

-- as what the section says: a refusal leaves all as it was
abbrev pub entered_as : Record → List ℕ → Result Entry Refusal → Record
entered_as r section (Err x) = r
entered_as r section (Ok e) = followed_in (pushed_in r (whole_pushed (pat_store r) e section))

-- a section of PID 0 on an input
unfoldable pub entered_in : Record → (input : ℕ) → List ℕ → Record
entered_in r input section = cond (enters section) (entered_as r section (set_arrival input (Some 0) section)) r

-- ---- what the functions ask of each other

-- there is room, the PAT store is whole, and its count can go up
pub record PatsReady (r : Record) : Type 0 where
  pub words : 398 ≤ length r.words
  pub ready : Ready (pat_store r)

-- a section arrived as e, on some input
pub record Arrives (section : List ℕ) (e : Entry) : Type 0 where
  pub input : ℕ
  pub read : set_arrival input (Some 0) section ≡ Ok e
  pub taken : Taken section e

-- a set that goes out is in row 0, and that is in use
abbrev pub RowThere : PushAnswer → Store → Type 0
RowThere push_answer.Nothing s = Unit {0}
RowThere (push_answer.Set i) s = (i ≡ 0) × (0 < s.sets.used)
RowThere (push_answer.Refused r) s = Unit {0}

-- after a push the store is whole
pub record Pushed (answer : PushAnswer) (r : Record) : Type 0 where
  pub words : 398 ≤ length r.words
  pub whole : WholeStore (pat_store r)
  pub row : RowThere answer (pat_store r)

-- there is a row, and its slots are whole
pub record HasRow (r : Record) : Type 0 where
  pub words : 398 ≤ length r.words
  pub slots : 288 ≤ length r.slots
  pub cells : 262144 ≤ length r.cells
  pub row : all_whole 256 1024 (row_slots (pat_head r.words) r.slots 0) ≡ true

-- what a push handed back, with the slices as it left them
abbrev pub pushed_by : PushAnswer → List ℕ → List ℕ → List ℕ → Entering
pushed_by a words slots cells = record { told = answer_of a (pat_store (record_of words slots cells)); then = record_of words slots cells }
