-- What an offer to the gate comes to before a row is looked at (docs/RULES.md, "Gate" and "Answers"): 10, 11, 12, 37, then a CRC failure, else what arrived.
use Rattle.std.specs.Prelude.{ℕ, ◌≡◌, List, Bool, true, false, cond, length, ltb}
use Rattle.answers.specs.declared.Refusal.TheVariants.{NotWhole, CounterFull, BadPid, BadInput}
use Rattle.counters.specs.Counters.{any_full, CanCount}
use Rattle.counters.specs.declared.Counters.{Counters}
use Rattle.section.specs.Ids.{origin_of}
use Rattle.section.specs.Key.{key_of}
use Rattle.section.specs.Header.{table_id_of}
use Rattle.section.specs.Judged.{rule_of, judged_of}
use Rattle.section.specs.declared.ids.Origin.{Origin}
use Rattle.section.specs.declared.header.Parts.{Parts}
use Rattle.section.specs.declared.header.Judged.{Judged}
use Rattle.section.specs.declared.header.Judged.TheVariants.{Short, Mismatch, Sound}
use Rattle.offers.specs.declared.Arrival.{Arrival}
use Rattle.offers.specs.declared.Failure.{Failure}
use Rattle.offers.specs.declared.Failure.TheVariants as failure
use Rattle.offers.specs.declared.Failure.TheVariants.{TooShort}
use Rattle.offers.specs.declared.Verdict.{Verdict}
use Rattle.offers.specs.declared.Verdict.TheVariants.{Refused, Failed, Arrived}

-- a sound section as it arrives: its key, its version and change number, and its table_id
abbrev pub arrival_of : Origin → Parts → Arrival
arrival_of from p =
    record { key = key_of from p.table_id p.extension p.number; version = p.version; change = p.change; table_id = p.table_id }

abbrev pub is_short : Failure → Bool
is_short (TooShort n) = true
is_short (failure.Mismatch stored worked) = false

-- of a section of n bytes: too short to hold its CRC, with its length (31); a CRC that does not fit, with the number stored and the number worked out (3)
abbrev pub read_as : Origin → (n : ℕ) → Judged → Verdict
read_as from n Short = Failed (TooShort n)
read_as from n (Mismatch stored worked) = Failed (failure.Mismatch stored worked)
read_as from n (Sound p) = Arrived (arrival_of from p)

-- what a section, its input and its PID say by the change rule of this number: 12 where the PID is none, then 37 where the input is none
unfoldable pub read_of : (rule input pid : ℕ) → List ℕ → Verdict
read_of rule input pid section =
    cond (ltb pid 8192) (cond (ltb input 16) (read_as (origin_of input pid) (length section) (judged_of (rule_of rule) section)) (Refused BadInput)) (Refused BadPid)

-- 10 where the store is not whole, then 11, then what the section and its PID say
unfoldable pub verdict_of : Bool → Counters → (rule input pid : ℕ) → List ℕ → Verdict
verdict_of whole c rule input pid section = cond whole (cond (any_full c) (Refused CounterFull) (read_of rule input pid section)) (Refused NotWhole)

-- ---- what is so of a section that arrived

-- its table_id is the section's
abbrev pub Taken : List ℕ → Verdict → Type 0
Taken section (Refused r) = Unit {0}
Taken section (Failed f) = Unit {0}
Taken section (Arrived a) = a.table_id ≡ table_id_of section

-- and the store is whole, and its counters can count
pub record Admissible (w : Bool) (c : Counters) (section : List ℕ) (a : Arrival) : Type 0 where
  pub whole : w ≡ true
  pub counts : CanCount c
  pub table : a.table_id ≡ table_id_of section

abbrev pub VerdictOk : Bool → Counters → List ℕ → Verdict → Type 0
VerdictOk w c section (Refused r) = Unit {0}
VerdictOk w c section (Failed f) = CanCount c
VerdictOk w c section (Arrived a) = Admissible w c section a
