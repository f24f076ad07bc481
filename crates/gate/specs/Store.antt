-- What opening and offering answer and leave (docs/RULES.md, "Gate" and "Watched PIDs"), for every gate, every record of counters and every content
-- of the lent slices. `cond test a b` is a where the test is true, else b.
use Rattle.std.specs.Prelude.{ℕ, ◌≤◌, ◌≡◌, List, Bool, true, cond, ◌&&◌, length, replicate, leb}
use Rattle.ring.specs.Store.{room_of, Whole, stamp_of, seen_of, keys_after, changes_after}
use Rattle.ring.specs.Store.{whole_of as ring_whole}
use Rattle.ring.specs.declared.Seen.{Seen}
use Rattle.offers.specs.Offers.{verdict_of}
use Rattle.offers.specs.declared.Arrival.{Arrival}
use Rattle.offers.specs.declared.Verdict.{Verdict}
use Rattle.offers.specs.declared.Verdict.TheVariants as verdict
use Rattle.section.specs.Judged.{rule_known}
use Rattle.pat.specs.Pat.{readable, with_programs}
use Rattle.watched.specs.Store.{all_pids, filled, following}
use Rattle.answers.specs.Answers.{refusal_no, outcome_no}
use Rattle.counters.specs.Counters.{zeroes}
use Rattle.counters.specs.declared.Counters.{Counters}
use Rattle.gate_state.specs.State.{Said, plain, said_of, by_sections, empty_gate, failed_by, seen_by}
use Rattle.gate_state.specs.declared.Settings.{Settings}
use Rattle.gate_state.specs.declared.Gate.{Gate}
use Rattle.gate_state.specs.declared.Offered.{Offered}
use Rattle.gate_state.specs.declared.Opened.{Opened}

-- ---- opening

-- not 13: max(1, capacity) rows of each slice, the watch's 384 words, and a change rule that there is
abbrev pub can_open : Settings → ℕ → ℕ → ℕ → Bool
can_open s keys changes words =
    leb (room_of s.capacity) keys && leb (room_of s.capacity) changes && leb 384 words && rule_known s.change_rule

-- the number of opening's answer, the gate and the counters, and the words of the watch
pub record Begun : Type 0 where
  pub answer : ℕ
  pub gate : Gate
  pub counters : Counters
  pub words : List ℕ

-- what opening handed back, with the watch as it left it
abbrev pub begun_by : Opened → List ℕ → Begun
begun_by o words = record { answer = outcome_no o.answer; gate = o.gate; counters = o.counters; words = words }

abbrev pub begins : ℕ → Settings → List ℕ → Begun
begins answer s words = record { answer = answer; gate = empty_gate s; counters = zeroes; words = words }

-- 12, then 13, each with the watch as before; else 7 with the watch as set
unfoldable pub opened : Settings → List ℕ → ℕ → ℕ → List ℕ → Begun
opened s extra keys changes words =
    cond (all_pids extra)
    (cond (can_open s keys changes (length words)) (begins 7 s (filled words s.well_known extra)) (begins 13 s words))
    (begins 12 s words)

-- ---- offering

-- not 10: the ring fits slices of these lengths, there are the watch's 384 words, and there is such a change rule
abbrev pub whole_of : Gate → ℕ → ℕ → ℕ → Bool
whole_of g keys changes words = ring_whole g.ring keys changes && leb 384 words && rule_known g.change_rule

-- the same as orders of numbers, and of the rule
pub record Fits (g : Gate) (keys changes words : ℕ) : Type 0 where
  pub rows : Whole g.ring keys changes
  pub watch : 384 ≤ words
  pub rule : rule_known g.change_rule ≡ true

-- a gate, its counters and the words of the three lent slices
pub record Store : Type 0 where
  pub gate : Gate
  pub counters : Counters
  pub keys : List ℕ
  pub changes : List ℕ
  pub words : List ℕ

abbrev pub store_of : Gate → Counters → List ℕ → List ℕ → List ℕ → Store
store_of g c keys changes words = record { gate = g; counters = c; keys = keys; changes = changes; words = words }

-- an answer as it is said, with its values, and the store that is left
pub record Offering : Type 0 where
  pub answer : Said
  pub store : Store

-- what a call handed back, with the slices as it left them
abbrev pub left_by : Offered → List ℕ → List ℕ → List ℕ → Offering
left_by o keys changes words = record { answer = said_of o.answer; store = store_of o.gate o.counters keys changes words }

-- the set N of a PAT: the PIDs of its programs, as the 128 words of a set that was empty
abbrev pub programs_of : List ℕ → List ℕ
programs_of section = with_programs section (replicate 128 0)

-- a readable PAT is followed; an unreadable one changes no watch
unfoldable pub followed_pat : List ℕ → List ℕ → List ℕ
followed_pat words section = cond (readable section) (following words (programs_of section)) words

-- the watch after a section that is followed or not
abbrev pub watch_after : Bool → List ℕ → List ℕ → List ℕ
watch_after follows words section = cond follows (followed_pat words section) words

-- a section that arrived
unfoldable pub admitted_to : Store → List ℕ → Arrival → Offering
admitted_to s section a =
    let number : ℕ = stamp_of a.version a.change in
    let seen : Seen = seen_of s.gate.ring s.keys s.changes a.key number in
    left_by (seen_by s.gate s.counters seen)
    (keys_after s.gate.ring s.keys a.key)
    (changes_after s.gate.ring s.keys s.changes a.key number)
    (watch_after (seen.changed && by_sections s.gate.follow) s.words section)

-- a verdict carried out: a refusal leaves all as it was
unfoldable pub carried : Store → List ℕ → Verdict → Offering
carried s section (verdict.Refused r) = record { answer = plain (refusal_no r); store = s }
carried s section (verdict.Failed f) = left_by (failed_by f s.gate s.counters) s.keys s.changes s.words
carried s section (verdict.Arrived a) = admitted_to s section a

-- whether the store is whole
abbrev pub is_whole : Store → Bool
is_whole s = whole_of s.gate (length s.keys) (length s.changes) (length s.words)

-- every store, input, PID and section: 10, 11, 12, 37, then 31 or 3, then 1 or 2
unfoldable pub offered : Store → (input pid : ℕ) → List ℕ → Offering
offered s input pid section = carried s section (verdict_of (is_whole s) s.counters s.gate.change_rule input pid section)
