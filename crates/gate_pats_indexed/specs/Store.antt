-- What opening and offering answer and leave where the gate's rows have an index and a watch record is lent (docs/RULES.md, "Gate" and "Watched
-- PIDs"), for every gate, every record of counters and every content of the lent slices: the gate of sections with an index (crate gate_indexed), and,
-- where complete PATs are followed, the PAT store behind it, as without an index (crate gate_pats).
use Rattle.std.specs.Prelude.{ℕ, List, cond, length}
use Rattle.counters.specs.declared.Counters.{Counters}
use Rattle.pats.specs.Store.{Record, record_of}
use Rattle.ring_index.specs.Store.{Index}
use Rattle.gate_state.specs.State.{Said, plain, said_of}
use Rattle.gate_state.specs.declared.Follow.{Follow}
use Rattle.gate_state.specs.declared.Settings.{Settings}
use Rattle.gate_state.specs.declared.Gate.{Gate}
use Rattle.gate_state.specs.declared.Offered.{Offered}
use Rattle.gate_indexed.specs.Store.{Indexed, indexed_of, is_whole_by, opened_by, offered_by}
use Rattle.gate_indexed.specs.Store as sections
use Rattle.gate_pats.specs.Store.{room_with, state_of, words_with, refused_with, Kept, kept_of, record_after, full_no}
use Rattle.gate_pats.specs.declared.inner.State.{State}
use Rattle.gate_pats.specs.declared.inner.State.TheVariants.{NotWhole, Full, Ready}

-- ---- opening

abbrev pub begun_with : Follow → sections.Begun → sections.Begun
begun_with f b = record { answer = b.answer; gate = b.gate; counters = b.counters; buckets = b.buckets; words = words_with f b.answer b.words }

-- 12, then 13, each with all as before; else 7
unfoldable pub opened_with : Settings → List ℕ → (keys changes links slots cells : ℕ) → List ℕ → List ℕ → sections.Begun
opened_with s extra keys changes links slots cells buckets words =
    cond (room_with s.follow (length words) slots cells)
    (begun_with s.follow (opened_by s extra keys changes links buckets words))
    (sections.begins (refused_with extra) s buckets words)

-- ---- offering

-- a gate with a watch record, and the index of its rows
pub record KeptBy : Type 0 where
  pub kept : Kept
  pub index : Index

abbrev pub kept_by : Gate → Counters → List ℕ → List ℕ → Index → Record → KeptBy
kept_by g c keys changes x r = record { kept = kept_of g c keys changes r; index = x }

-- the gate of sections in it
abbrev pub sections_by : KeptBy → Indexed
sections_by s = indexed_of s.kept.gate s.kept.counters s.kept.keys s.kept.changes s.index s.kept.watch.words

-- an answer as it is said, with its values, and what is left
pub record Offering : Type 0 where
  pub answer : Said
  pub left : KeptBy

-- what a call handed back, with the slices as it left them
abbrev pub left_with : Offered → List ℕ → List ℕ → Index → Record → Offering
left_with o keys changes x r = record { answer = said_of o.answer; left = kept_by o.gate o.counters keys changes x r }

-- the gate of sections answers first; the PAT store, last, can change neither answer nor counter
abbrev pub then_entered : KeptBy → (input pid : ℕ) → List ℕ → sections.Offering → Offering
then_entered s input pid section o =
    record {
      answer = o.answer;
      left = kept_by o.left.store.gate o.left.store.counters o.left.store.keys o.left.store.changes o.left.index
          (record_after s.kept.gate.follow o.answer input pid section (record_of o.left.store.words s.kept.watch.slots s.kept.watch.cells));
    }

unfoldable pub taken_by : KeptBy → (input pid : ℕ) → List ℕ → Offering
taken_by s input pid section = then_entered s input pid section (offered_by (sections_by s) input pid section)

unfoldable pub offered_as : KeptBy → (input pid : ℕ) → List ℕ → State → Offering
offered_as s input pid section NotWhole = record { answer = plain 10; left = s }
offered_as s input pid section Full = record { answer = plain (full_no (is_whole_by (sections_by s))); left = s }
offered_as s input pid section Ready = taken_by s input pid section

-- every gate, index, record, input, PID and section: 10, 11, 12, 37, then 31 or 3, then 1 or 2
unfoldable pub offered_with : KeptBy → (input pid : ℕ) → List ℕ → Offering
offered_with s input pid section = offered_as s input pid section (state_of s.kept.gate.follow s.kept.watch)
