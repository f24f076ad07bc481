-- What a section does to a store that is whole, decided before anything is written (docs/RULES.md, "Collectors", "Cells" and "Answers").
-- `cond test a b` is a where the test is true, else b.
use Rattle.std.specs.Prelude.{ℕ, ◌≤◌, ◌<◌, List, Bool, cond, length, ltb, eqb}
use Rattle.answers.specs.declared.Refusal.TheVariants as refusal
use Rattle.cells.specs.Cells.{lowest_free}
use Rattle.rows.specs.Rows.{gone_row}
use Rattle.arrivals.specs.Arrivals.{Numbered}
use Rattle.arrivals.specs.declared.Arrival.{Arrival}
use Rattle.placing.specs.Places.{place_of, RoomOk}
use Rattle.placing.specs.declared.Place.{Place}
use Rattle.placing.specs.declared.Place.TheVariants as place
use Rattle.schedules.specs.Schedules.{taken_anywhere}
use Rattle.eit_state.specs.State.{Store, Rows, rows_of, set_store, Whole, CanCount}
use Rattle.eit_state.specs.declared.PushAnswer.TheVariants as answer
use Rattle.eit_plan.specs.declared.Keeping.{Keeping}
use Rattle.eit_plan.specs.declared.Plan.{Plan}
use Rattle.eit_plan.specs.declared.Plan.TheVariants as plan

-- the cell of a section that is kept: the lowest that is free "after the set eviction or row emptying it would cause"; count where there is none
abbrev pub free_cell : Rows → Place → ℕ
free_cell r (place.Conflict i) = r.eit.sets.count
free_cell r (place.Repeat i) = r.eit.sets.count
free_cell r (place.Goes room) =
    lowest_free (taken_anywhere r.heads r.slots r.schedule_heads r.units (gone_row room r.eit.sets.used) r.eit.sets.used r.eit.schedules) r.eit.sets.count

-- 21 where a section would be kept and there is no cell
abbrev pub plan_at : (count : ℕ) → Arrival → Place → (cell : ℕ) → Plan
plan_at count a (place.Conflict i) cell = plan.Conflict i
plan_at count a (place.Repeat i) cell = plan.Repeat (record { arrival = a; row = i })
plan_at count a (place.Goes room) cell =
    cond (ltb cell count) (plan.Keep (record { arrival = a; room = room; cell = cell })) (plan.Leave (answer.Refused refusal.NoCell))

abbrev pub plan_placed : Store → Arrival → Place → Plan
plan_placed s a p = plan_at s.eit.sets.count a p (free_cell (rows_of s) p)

-- 20, then limit 0 ("an otherwise good section answers 4 and changes nothing"), then where the section goes
unfoldable pub plan_of : Store → (bytes : List ℕ) → Arrival → Plan
plan_of s bytes a =
    cond (ltb s.eit.sets.size (length bytes)) (plan.Leave (answer.Refused refusal.TooLong))
    (cond (eqb s.eit.sets.limit 0) (plan.Leave answer.Nothing)
    (plan_placed s a (place_of (set_store s) a.entry bytes)))

-- ---- what carrying out a plan asks

-- of a section that is kept
pub record KeepOk (s : Store) (bytes : List ℕ) (k : Keeping) : Type 0 where
  pub whole : Whole s
  pub numbered : Numbered k.arrival.entry
  pub room : RoomOk s.eit.sets k.room
  pub cell : k.cell < s.eit.sets.count
  pub fits : length bytes ≤ s.eit.sets.size
  pub counts : CanCount s.eit

-- of a row in use
pub record RowOk (s : Store) (i : ℕ) : Type 0 where
  pub whole : Whole s
  pub row : i < s.eit.sets.used
  pub counts : CanCount s.eit

abbrev pub PlanOk : Store → (bytes : List ℕ) → Plan → Type 0
PlanOk s bytes (plan.Leave a) = Unit {0}
PlanOk s bytes (plan.Conflict i) = RowOk s i
PlanOk s bytes (plan.Repeat x) = RowOk s x.row
PlanOk s bytes (plan.Keep k) = KeepOk s bytes k
