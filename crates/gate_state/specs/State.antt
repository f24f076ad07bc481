-- What the gate has and answers without its slices (docs/RULES.md, "Gate" and "Answers"). `cond test a b` is a where the test is true, else b.
use Rattle.std.specs.Prelude.{ℕ, Bool, true, false, cond, ◌||◌, eqb}
use Rattle.ring.specs.Store.{empty_ring}
use Rattle.ring.specs.declared.Ring.{Ring}
use Rattle.ring.specs.declared.Seen.{Seen}
use Rattle.answers.specs.Answers.{refusal_no, Outcome}
use Rattle.answers.specs.declared.Refusal.{Refusal}
use Rattle.offers.specs.Offers.{is_short}
use Rattle.offers.specs.declared.Failure.{Failure}
use Rattle.offers.specs.declared.Failure.TheVariants.{TooShort, Mismatch}
use Rattle.counters.specs.Counters.{zeroes, counted_of, failed_of}
use Rattle.counters.specs.declared.Counters.{Counters}
use Rattle.gate_state.specs.declared.Follow.{Follow}
use Rattle.gate_state.specs.declared.Follow.TheVariants.{Off, Sections, Tables}
use Rattle.gate_state.specs.declared.Settings.{Settings}
use Rattle.gate_state.specs.declared.Gate.{Gate}
use Rattle.gate_state.specs.declared.Offered.{Offered}
use Rattle.gate_state.specs.declared.Opened.{Opened}
use Rattle.gate_state.specs.declared.Answer.{Answer}
use Rattle.gate_state.specs.declared.Answer.TheVariants.{Emitted, Suppressed, Failed, Refused}

-- each changed PAT section replaces the PIDs of the one before
abbrev pub by_sections : Follow → Bool
by_sections Off = false
by_sections Sections = true
by_sections Tables = false

-- PATs are collected, and a complete one replaces the PIDs of the one before
abbrev pub by_tables : Follow → Bool
by_tables Off = false
by_tables Sections = false
by_tables Tables = true

-- capacity 65,536, repeats off, complete PATs followed, the well-known PIDs watched, change rule 2
abbrev pub defaults : Settings
defaults = record { capacity = 65536; repeats = false; follow = Tables; well_known = true; change_rule = 2 }

-- an answer as the table has it (docs/RULES.md, "Answers"): its number, and the values that it comes with
pub data Said : Type 0 where
  plain : (number : ℕ) → Said
  -- 31
  short : (length : ℕ) → Said
  -- 3
  mismatch : (stored worked : ℕ) → Said

abbrev pub number_of : Said → ℕ
number_of (plain n) = n
number_of (short n) = 31
number_of (mismatch stored worked) = 3

-- the numbers of an offer that is judged; every other is of a refusal
abbrev pub is_judged : ℕ → Bool
is_judged n = eqb n 1 || eqb n 2 || eqb n 31 || eqb n 3

abbrev pub failure_said : Failure → Said
failure_said (TooShort n) = short n
failure_said (Mismatch stored worked) = mismatch stored worked

abbrev pub failure_no : Failure → ℕ
failure_no f = number_of (failure_said f)

abbrev pub said_of : Answer → Said
said_of Emitted = plain 1
said_of Suppressed = plain 2
said_of (Failed f) = failure_said f
said_of (Refused r) = plain (refusal_no r)

-- 1 or 2: the section is sound
abbrev pub is_sound : Answer → Bool
is_sound Emitted = true
is_sound Suppressed = true
is_sound (Failed f) = false
is_sound (Refused r) = false

-- a gate with no rows
abbrev pub empty_gate : Settings → Gate
empty_gate s = record { ring = empty_ring s.capacity; repeats = s.repeats; follow = s.follow; change_rule = s.change_rule }

abbrev pub begun : Outcome → Settings → Opened
begun a s = record { answer = a; gate = empty_gate s; counters = zeroes }

-- a refusal leaves the gate and its counters as they were
abbrev pub refused : Refusal → Gate → Counters → Offered
refused r g c = record { answer = Refused r; gate = g; counters = c }

-- 31 and 3 touch only completed, CRC failures and, of these, the counter of their kind
abbrev pub failed_by : Failure → Gate → Counters → Offered
failed_by f g c = record { answer = Failed f; gate = g; counters = failed_of c (is_short f) }

abbrev pub answer_of : Bool → Answer
answer_of emits = cond emits Emitted Suppressed

abbrev pub gate_with : Gate → Ring → Gate
gate_with g ring = record { ring = ring; repeats = g.repeats; follow = g.follow; change_rule = g.change_rule }

-- changed, or repeats on: emitted; else suppressed
abbrev pub emits_of : Gate → Seen → Bool
emits_of g seen = seen.changed || g.repeats

unfoldable pub seen_by : Gate → Counters → Seen → Offered
seen_by g c seen =
    record {
      answer = answer_of (emits_of g seen);
      gate = gate_with g seen.ring;
      counters = counted_of c (emits_of g seen) seen.evicted;
    }
