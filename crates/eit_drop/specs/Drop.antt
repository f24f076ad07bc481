-- A drop by filter (docs/RULES.md, "Collectors"), for every content of the lent memory.
use Rattle.std.specs.Prelude.{ℕ, ◌*◌, ◌≤◌, List, cond, ltb, Result, Ok, Err, Option, Some, None}
use Rattle.answers.specs.declared.Refusal.TheVariants as refusal
use Rattle.section.specs.Ids.{pid_made}
use Rattle.section.specs.declared.ids.Pid.{Pid}
use Rattle.answers.specs.declared.Refusal.{Refusal}
use Rattle.filter.specs.declared.WantedOrigin.{WantedOrigin}
use Rattle.filter.specs.declared.Fields.{Fields}
use Rattle.filter.specs.declared.Of.TheVariants as of
use Rattle.filter.specs.Drops.{Rest, rest, dropped_rows}
use Rattle.eit_state.specs.State.{Rows, rows, with_sets, with_schedules}
use Rattle.eit_drop.specs.declared.WantedPid.{WantedPid}
use Rattle.eit_drop.specs.declared.WantedPid.TheVariants as wanted_pid
use Rattle.eit_drop.specs.declared.Filter.{Filter}

-- an exact input of 16 or more is refused (37)
abbrev pub input_wanted : (input pid : Option ℕ) → Result WantedOrigin Refusal
input_wanted None pid = Ok (record { input = None; pid = pid })
input_wanted (Some v) pid = cond (ltb v 16) (Ok (record { input = Some v; pid = pid })) (Err refusal.BadInput)

-- "an exact PID of 8192 or more" is refused (12)
abbrev pub made_wanted : (input : Option ℕ) → Result Pid Refusal → Result WantedOrigin Refusal
made_wanted input (Ok p) = input_wanted input (Some p.0)
made_wanted input (Err r) = Err r

-- the PID is free or exactly p; exactly none is refused (41)
abbrev pub wanted_origin : (input : Option ℕ) → WantedPid → Result WantedOrigin Refusal
wanted_origin input wanted_pid.Any = input_wanted input None
wanted_origin input wanted_pid.Without = Err refusal.NoPid
wanted_origin input (wanted_pid.Exactly v) = made_wanted input (pid_made v)

-- the filter in the words of a head
abbrev pub fields_of : WantedOrigin → Filter → Fields
fields_of from f = record {
  from = from;
  kind = f.kind;
  service_id = f.service_id;
  transport_stream_id = f.transport_stream_id;
  original_network_id = f.original_network_id;
  current_next = f.current_next;
}

-- 41, then 12, then 37
abbrev pub drop_from : Filter → Result WantedOrigin Refusal → Result Fields Refusal
drop_from f (Err r) = Err r
drop_from f (Ok w) = Ok (fields_of w f)

abbrev pub drop_wanted : Filter → Result Fields Refusal
drop_wanted f = drop_from f (wanted_origin f.input f.pid)

-- "sets and schedules that match go"; no eviction is counted
unfoldable pub matching_gone : Rows → Fields → Rows
matching_gone r f =
    let a : Rest = dropped_rows of.Sets f r.eit.sets.used (rest r.heads r.slots r.eit.sets.used) in
    let b : Rest = dropped_rows of.Schedules f r.eit.schedules (rest r.schedule_heads r.units r.eit.schedules) in
    rows (with_schedules (with_sets r.eit a.used r.eit.sets.evictions) b.used r.eit.schedule_evictions) a.heads a.words b.heads b.words
