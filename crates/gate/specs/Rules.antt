-- The gate (docs/RULES.md, "Gate" and "Watched PIDs"): keys in order of first arrival with their last version and change number, seven counters, and
-- the watched PIDs. No memory.
use Rattle.std.specs.Prelude.{ℕ, List, [], ◌∷◌, Bool, cond, ◌&&◌, ◌||◌}
use Rattle.ring.specs.Rules.{Row, changed, evicts, offered_to}
use Rattle.section.specs.Facts.{Bytes}
use Rattle.answers.specs.Answers.{refusal_no}
use Rattle.answers.specs.declared.Refusal.TheVariants.{CounterFull}
use Rattle.offers.specs.Offers.{is_short, read_of}
use Rattle.offers.specs.declared.Failure.{Failure}
use Rattle.gate_state.specs.State.{Said, plain, number_of, failure_said}
use Rattle.offers.specs.declared.Arrival.{Arrival}
use Rattle.offers.specs.declared.Verdict.{Verdict}
use Rattle.offers.specs.declared.Verdict.TheVariants.{Refused, Failed, Arrived}
use Rattle.pat.specs.Pat.{readable, set_n}
use Rattle.watched.specs.Rules.{Watch, followed_by}
use Rattle.counters.specs.Counters.{any_full, counted_of, failed_of}
use Rattle.counters.specs.declared.Counters.{Counters}

-- a section on an input and a PID
pub record Offer : Type 0 where
  pub input : ℕ
  pub pid : ℕ
  pub section : List ℕ

-- the settings that an offer looks at
pub record Manner : Type 0 where
  pub capacity : ℕ
  pub repeats : Bool
  pub follow : Bool
  pub rule : ℕ

-- what the gate holds
pub record Held : Type 0 where
  pub rows : List Row
  pub counters : Counters
  pub watch : Watch

pub record Told : Type 0 where
  pub answer : Said
  pub held : Held

-- the row of a section that arrived: its key, version and change number
abbrev pub row_from : Arrival → Row
row_from a = record { key = a.key; version = a.version; change = a.change }

-- 31 or 3 with its values: completed, CRC failures and, of these, the counter of its kind, and nothing else
abbrev pub failed_in : Held → Failure → Told
failed_in h f = record { answer = failure_said f; held = record { rows = h.rows; counters = failed_of h.counters (is_short f); watch = h.watch } }

-- a PAT that is followed replaces N; what is no readable PAT changes no watch
abbrev pub watch_after : Bool → Watch → List ℕ → Watch
watch_after follows w section = cond follows (cond (readable section) (followed_by (set_n section) w) w) w

-- changed, or repeats on: 1, else 2; a changed section is followed where following is on, one that is emitted only because repeats are on is not
unfoldable pub admitted : Manner → Held → Row → List ℕ → Told
admitted m h n section =
    let emits : Bool = changed n h.rows || m.repeats in
    record {
      answer = plain (cond emits 1 2);
      held = record {
        rows = offered_to m.capacity n h.rows;
        counters = counted_of h.counters emits (evicts m.capacity n h.rows);
        watch = watch_after (changed n h.rows && m.follow) h.watch section;
      };
    }

-- what a section and its PID say, carried out: a refusal leaves all as it was
unfoldable pub carried_in : Manner → Held → List ℕ → Verdict → Told
carried_in m h section (Refused r) = record { answer = plain (refusal_no r); held = h }
carried_in m h section (Failed f) = failed_in h f
carried_in m h section (Arrived a) = admitted m h (row_from a) section

-- an offer: 11, then as the section and its PID say
unfoldable pub told : Manner → Held → Offer → Told
told m h o = carried_in m h o.section (cond (any_full h.counters) (Refused CounterFull) (read_of m.rule o.input o.pid o.section))

unfoldable pub tells : Manner → Held → Offer → Said
tells m h o = (told m h o).answer

-- its number alone
abbrev pub tells_no : Manner → Held → Offer → ℕ
tells_no m h o = number_of (tells m h o)

unfoldable pub acts : Manner → Held → Offer → Held
acts m h o = (told m h o).held

-- sections are bytes
abbrev pub OfBytes : List Offer → Type 0
OfBytes [] = Unit {0}
OfBytes (o ∷ os) = Bytes o.section × OfBytes os
