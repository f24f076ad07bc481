-- The gate's rule without an input, as dvb-si 12.0.1 has it: a section comes on a PID, and its key is of four fields (docs/RULES.md, "Gate").
use Rattle.std.specs.Prelude.{ℕ, ◌+◌, ◌*◌, ◌^◌, List, cond, length, ltb}
use Rattle.answers.specs.declared.Refusal.TheVariants.{CounterFull, BadPid}
use Rattle.section.specs.Judged.{rule_of, judged_of}
use Rattle.section.specs.declared.header.Judged.{Judged}
use Rattle.section.specs.declared.header.Judged.TheVariants.{Short, Mismatch, Sound}
use Rattle.offers.specs.declared.Failure.TheVariants as failure
use Rattle.offers.specs.declared.Failure.TheVariants.{TooShort}
use Rattle.offers.specs.declared.Verdict.{Verdict}
use Rattle.offers.specs.declared.Verdict.TheVariants.{Refused, Failed, Arrived}
use Rattle.counters.specs.Counters.{any_full}
use Rattle.gate_state.specs.State.{Said}
use Rattle.gate.specs.Rules.{Offer, Manner, Held, Told, carried_in}

-- a section on a PID
pub record OnPid : Type 0 where
  pub pid : ℕ
  pub section : List ℕ

-- PID + table_id·2^13 + extension·2^21 + section_number·2^37
abbrev pub four_fields : (pid table extension number : ℕ) → ℕ
four_fields pid table extension number = pid + table * 2 ^ 13 + extension * 2 ^ 21 + number * 2 ^ 37

abbrev pub judged_as : (pid n : ℕ) → Judged → Verdict
judged_as pid n Short = Failed (TooShort n)
judged_as pid n (Mismatch stored worked) = Failed (failure.Mismatch stored worked)
judged_as pid n (Sound p) =
    Arrived (record { key = four_fields pid p.table_id p.extension p.number; version = p.version; change = p.change; table_id = p.table_id })

-- an offer: 11, then 12, then as the section says
unfoldable pub told_on0 : Manner → Held → OnPid → Told
told_on0 m h o =
    carried_in m h o.section (
    cond (any_full h.counters) (Refused CounterFull)
    (cond (ltb o.pid 8192) (judged_as o.pid (length o.section) (judged_of (rule_of m.rule) o.section)) (Refused BadPid))
    )

unfoldable pub tells_on0 : Manner → Held → OnPid → Said
tells_on0 m h o = (told_on0 m h o).answer

unfoldable pub acts_on0 : Manner → Held → OnPid → Held
acts_on0 m h o = (told_on0 m h o).held

-- the same section on input 0
abbrev pub on_input0 : OnPid → Offer
on_input0 o = record { input = 0; pid = o.pid; section = o.section }
