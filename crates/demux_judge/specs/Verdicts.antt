-- What a packet comes to before anything is written, for every content of what is lent (docs/RULES.md, "Packets"). `cond test a b` is a where the test is true,
-- else b.
use Rattle.std.specs.Prelude.{◌≡◌, Bool, true, cond, ◌&&◌, List, ℕ, ◌*◌, ◌≤◌, leb, ltb, length}
use Rattle.answers.specs.declared.Refusal.TheVariants.{NotWhole, CounterFull, BadInput}
use Rattle.counters.specs.declared.Counters.{Counters}
use Rattle.gate_state.specs.State.{by_tables}
use Rattle.gate_state.specs.declared.Follow.{Follow}
use Rattle.gate_state.specs.declared.Gate.{Gate}
use Rattle.gate.specs.Store.{whole_of}
use Rattle.pats.specs.Store.{Record, pat_most, pats_whole}
use Rattle.streams.specs.Store.{are_enough}
use Rattle.streams.specs.declared.Streams.{Streams}
use Rattle.demux_state.specs.State.{near_end}
use Rattle.demux_packets.specs.Plans.{plan_of}
use Rattle.std.specs.Prelude.{Result, Ok, Err}
use Rattle.answers.specs.declared.Refusal.{Refusal}
use Rattle.demux_packets.specs.declared.Plan.{Plan}

-- where complete PATs are followed the record has a whole PAT store
abbrev pub record_whole : Follow → Record → Bool
record_whole f r = cond (by_tables f) (pats_whole r) true

-- 1 to 8,192 buffers with the words and the bytes that they ask for, and 64 places of 6 words
abbrev pub lent_whole : Streams → (pids buffers places : ℕ) → Bool
lent_whole s pids buffers places = are_enough s.count pids buffers && leb 384 places

-- not 10: the gate is whole, and its record, and what is lent for the streams
abbrev pub whole_with : Gate → Streams → (keys changes : ℕ) → Record → (pids buffers places : ℕ) → Bool
whole_with g s keys changes r pids buffers places = whole_of g keys changes (length r.words) && record_whole g.follow r && lent_whole s pids buffers places

-- the larger of the PAT store's evictions and its clock, which 11 looks at only where complete PATs are followed
abbrev pub pat_count : Follow → List ℕ → ℕ
pat_count f words = cond (by_tables f) (pat_most words) 0

-- a refusal that changes nothing, or what a packet that is counted comes to
abbrev pub Verdict : Type 0
Verdict = Result Plan Refusal

-- 10, 11, 37, then what the packet comes to
unfoldable pub verdict_of : Gate → Counters → Streams → (keys changes : ℕ) → Record → (pids : List ℕ) → (buffers input : ℕ) → (packet : List ℕ) → (places : ℕ) → Verdict
verdict_of g c s keys changes r pids buffers input packet places =
    cond (whole_with g s keys changes r (length pids) buffers places)
    (cond (near_end c s (pat_count g.follow r.words)) (Err CounterFull)
    (cond (ltb input 16) (Ok (plan_of r.words s.count pids packet)) (Err BadInput)))
    (Err NotWhole)

-- ---- the same as orders of numbers

-- what is lent is enough
pub record Enough (count pids buffers : ℕ) : Type 0 where
  pub some : 1 ≤ count
  pub few : count ≤ 8192
  pub words : 32768 ≤ pids
  pub bytes : count * 4288 ≤ buffers

-- not 10
pub record Wholes (g : Gate) (s : Streams) (keys changes : ℕ) (r : Record) (pids buffers places : ℕ) : Type 0 where
  pub gate : whole_of g keys changes (length r.words) ≡ true
  pub pats : by_tables g.follow ≡ true → pats_whole r ≡ true
  pub lent : Enough s.count pids buffers
  pub listed : 384 ≤ places

-- ---- what the functions ask

pub record HasCount (f : Follow) (words : List ℕ) : Type 0 where
  pub there : by_tables f ≡ true → 398 ≤ length words
