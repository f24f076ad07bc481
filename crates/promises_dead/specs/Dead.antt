-- Two branches of the EIT collector of dvb-si 12.0.1 (`push_section_with_pid`) that no section takes: what they ask, and which sections come to them.
use Rattle.std.specs.Prelude.{ℕ, ◌≤◌, ◌<◌, ◌≡◌, List, Option, Ok}
use Rattle.arrivals.specs.Arrivals.{eit_arrival}
use Rattle.arrivals.specs.declared.Arrival.{Arrival}
use Rattle.units.specs.Units.{first_table}
use Rattle.eit_state.specs.State.{Store}
use Rattle.eit_plan.specs.declared.Plan.{Plan}
use Rattle.eit_plan.specs.declared.Plan.TheVariants as plan
use Rattle.eit_plan.specs.Plan.{plan_of}

-- the plan goes on with this arrival: a repeat, or a section that is kept. A conflict reaches no schedule
abbrev pub GoesOnWith : Arrival → Plan → Type 0
GoesOnWith a (plan.Leave r) = ⊥
GoesOnWith a (plan.Conflict i) = ⊥
GoesOnWith a (plan.Repeat x) = x.arrival ≡ a
GoesOnWith a (plan.Keep k) = k.arrival ≡ a

-- the section is not refused, and a is what it says
pub record Reaches (s : Store) (input : ℕ) (pid : Option ℕ) (bytes : List ℕ) (a : Arrival) : Type 0 where
  pub says : eit_arrival input pid bytes ≡ Ok a
  pub goes_on_lem : GoesOnWith a (plan_of s bytes a)

-- the first branch: a table_id of a schedule below the first of its kind
abbrev pub BelowItsKind : Arrival → Type 0
BelowItsKind a = (2 ≤ a.kind) × (a.entry.key.table_id < first_table a.kind)

-- the second: the schedules are at their limit, and there is none
abbrev pub FullAndEmpty : Store → Type 0
FullAndEmpty s = (s.eit.sets.limit ≤ s.eit.schedules) × (s.eit.schedules ≡ 0)
