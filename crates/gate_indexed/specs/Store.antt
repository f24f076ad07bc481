-- What opening and offering answer and leave where the gate's rows have an index (docs/RULES.md, "Gate" and "Watched PIDs"), for every gate, every
-- record of counters and every content of the lent slices. As without an index, but that a key is held where the walk from its bucket finds it.
use Rattle.std.specs.Prelude.{ℕ, List, Bool, cond, ◌&&◌, length, leb}
use Rattle.ring.specs.Store.{room_of, stamp_of}
use Rattle.ring.specs.declared.Seen.{Seen}
use Rattle.ring_index.specs.Store.{Covers, Index, cleared_by, seen_by, keys_by, changes_by, index_by}
use Rattle.offers.specs.Offers.{verdict_of}
use Rattle.offers.specs.declared.Arrival.{Arrival}
use Rattle.offers.specs.declared.Verdict.{Verdict}
use Rattle.offers.specs.declared.Verdict.TheVariants.{Refused, Failed, Arrived}
use Rattle.watched.specs.Store.{all_pids, filled}
use Rattle.answers.specs.Answers.{refusal_no, outcome_no}
use Rattle.counters.specs.Counters.{zeroes}
use Rattle.counters.specs.declared.Counters.{Counters}
use Rattle.offers.specs.declared.Failure.{Failure}
use Rattle.gate_state.specs.State.{Said, plain, said_of, by_sections, empty_gate}
use Rattle.gate_state.specs.State.{failed_by as failure}
use Rattle.gate.specs.Store.{can_open, whole_of, Fits, Store, store_of, watch_after}
use Rattle.gate_state.specs.State.{seen_by as answered_by}
use Rattle.gate_state.specs.declared.Settings.{Settings}
use Rattle.gate_state.specs.declared.Gate.{Gate}
use Rattle.gate_state.specs.declared.Offered.{Offered}
use Rattle.gate_state.specs.declared.Opened.{Opened}

-- ---- opening

-- not 13: what the gate needs, and a bucket and a link for each row
abbrev pub can_open_by : Settings → ℕ → ℕ → ℕ → ℕ → ℕ → Bool
can_open_by s keys changes buckets links words =
    can_open s keys changes words && leb (room_of s.capacity) buckets && leb (room_of s.capacity) links

-- the number of opening's answer, the gate and the counters, the buckets, and the words of the watch
pub record Begun : Type 0 where
  pub answer : ℕ
  pub gate : Gate
  pub counters : Counters
  pub buckets : List ℕ
  pub words : List ℕ

-- what opening handed back, with the slices as it left them
abbrev pub begun_by : Opened → List ℕ → List ℕ → Begun
begun_by o buckets words =
    record { answer = outcome_no o.answer; gate = o.gate; counters = o.counters; buckets = buckets; words = words }

abbrev pub begins : ℕ → Settings → List ℕ → List ℕ → Begun
begins answer s buckets words = record { answer = answer; gate = empty_gate s; counters = zeroes; buckets = buckets; words = words }

-- 12, then 13, each with all as before; else 7 with no row in a chain and the watch as set
unfoldable pub opened_by : Settings → List ℕ → ℕ → ℕ → ℕ → List ℕ → List ℕ → Begun
opened_by s extra keys changes links buckets words =
    cond (all_pids extra)
    (cond (can_open_by s keys changes (length buckets) links (length words))
    (begins 7 s (cleared_by (room_of s.capacity) buckets) (filled words s.well_known extra))
    (begins 13 s buckets words))
    (begins 12 s buckets words)

-- ---- offering

-- not 10: as without an index, and a bucket and a link for each row
abbrev pub whole_by : Gate → ℕ → ℕ → ℕ → ℕ → ℕ → Bool
whole_by g keys changes buckets links words =
    whole_of g keys changes words && leb (room_of g.ring.capacity) buckets && leb (room_of g.ring.capacity) links

-- the same as orders of numbers
pub record FitsBy (g : Gate) (keys changes buckets links words : ℕ) : Type 0 where
  pub rows : Fits g keys changes words
  pub covers : Covers g.ring buckets links

-- a gate's store with the index of its rows
pub record Indexed : Type 0 where
  pub store : Store
  pub index : Index

abbrev pub indexed_of : Gate → Counters → List ℕ → List ℕ → Index → List ℕ → Indexed
indexed_of g c keys changes x words = record { store = store_of g c keys changes words; index = x }

-- an answer as it is said, with its values, and the store that is left
pub record Offering : Type 0 where
  pub answer : Said
  pub left : Indexed

-- what a call handed back, with the slices as it left them
abbrev pub left_by : Offered → List ℕ → List ℕ → Index → List ℕ → Offering
left_by o keys changes x words = record { answer = said_of o.answer; left = indexed_of o.gate o.counters keys changes x words }

-- a section that arrived
unfoldable pub admitted_by : Indexed → List ℕ → Arrival → Offering
admitted_by s section a =
    let number : ℕ = stamp_of a.version a.change in
    let seen : Seen = seen_by s.store.gate.ring s.store.keys s.store.changes s.index a.key number in
    left_by (answered_by s.store.gate s.store.counters seen)
    (keys_by s.store.gate.ring s.store.keys s.index a.key)
    (changes_by s.store.gate.ring s.store.keys s.store.changes s.index a.key number)
    (index_by s.store.gate.ring s.store.keys s.index a.key)
    (watch_after (seen.changed && by_sections s.store.gate.follow) s.store.words section)

-- 31 and 3 change neither rows nor index nor watch
abbrev pub failed_by : Indexed → Failure → Offering
failed_by s f = left_by (failure f s.store.gate s.store.counters) s.store.keys s.store.changes s.index s.store.words

-- a verdict carried out: a refusal leaves all as it was
unfoldable pub carried_by : Indexed → List ℕ → Verdict → Offering
carried_by s section (Refused r) = record { answer = plain (refusal_no r); left = s }
carried_by s section (Failed f) = failed_by s f
carried_by s section (Arrived a) = admitted_by s section a

-- whether the store is whole
abbrev pub is_whole_by : Indexed → Bool
is_whole_by s = whole_by s.store.gate (length s.store.keys) (length s.store.changes) (length s.index.buckets) (length s.index.links) (length s.store.words)

-- every store, input, PID and section: 10, 11, 12, 37, then 31 or 3, then 1 or 2
unfoldable pub offered_by : Indexed → (input pid : ℕ) → List ℕ → Offering
offered_by s input pid section = carried_by s section (verdict_of (is_whole_by s) s.store.counters s.store.gate.change_rule input pid section)
