-- What a section that arrived does to the rows of the set collector, decided before anything is written, for every content of the lent memory
-- (docs/RULES.md, "Collectors" and "Cells"). `cond test a b` is a where the test is true, else b.
use Rattle.std.specs.Prelude.{ℕ, ◌≤◌, ◌<◌, ◌≡◌, ◌≢◌, List, cond, length, ltb, eqb}
use Rattle.answers.specs.declared.Refusal.TheVariants.{TooLong, NoCell}
use Rattle.cells.specs.Cells.{lowest_free}
use Rattle.rows.specs.Rows.{gone_row, taken_in}
use Rattle.rows.specs.declared.Entry.{Entry}
use Rattle.rows.specs.declared.Room.{Room}
use Rattle.store.specs.Store.{Store, Whole}
use Rattle.arrivals.specs.Arrivals.{Numbered}
use Rattle.placing.specs.Places.{place_of, RoomOk}
use Rattle.placing.specs.declared.Place.{Place}
use Rattle.placing.specs.declared.Place.TheVariants as place
use Rattle.sets_plan.specs.declared.Keeping.{Keeping}
use Rattle.sets_plan.specs.declared.Plan.{Plan}
use Rattle.sets_plan.specs.declared.Plan.TheVariants as plan

-- a section that is kept needs a cell: the lowest that is free after the eviction or the emptying (21 where there is none)
unfoldable pub plan_keep : Store → Entry → Room → Plan
plan_keep s e r =
    let c : ℕ = lowest_free (taken_in s.heads s.slots (gone_row r s.sets.used) s.sets.used) s.sets.count in
    cond (ltb c s.sets.count) (plan.Keep (record { entry = e; room = r; cell = c })) (plan.Refuse NoCell)

abbrev pub plan_placed : Store → Entry → Place → Plan
plan_placed s e (place.Conflict i) = plan.Conflict i
plan_placed s e (place.Repeat i) = plan.Repeat i
plan_placed s e (place.Goes r) = plan_keep s e r

-- 20, then limit 0 ("an otherwise good section answers 4 and changes nothing"), then where the section goes
unfoldable pub plan_of : Store → Entry → List ℕ → Plan
plan_of s e bytes =
    cond (ltb s.sets.size (length bytes)) (plan.Refuse TooLong)
    (cond (eqb s.sets.limit 0) plan.Silent (plan_placed s e (place_of s e bytes)))

-- ---- what the functions ask of each other

-- what a push into a store asks: it is whole, and no count is at its end
pub record Ready (s : Store) : Type 0 where
  pub whole : Whole s.sets s.heads s.slots s.cells
  pub counts : s.sets.evictions ≡ 18446744073709551615 → ⊥
  pub runs : s.sets.clock ≢ 18446744073709551615

pub record KeepOk (s : Store) (bytes : List ℕ) (k : Keeping) : Type 0 where
  pub whole : Whole s.sets s.heads s.slots s.cells
  pub numbered : Numbered k.entry
  pub room : RoomOk s.sets k.room
  pub cell : k.cell < s.sets.count
  pub long : 12 ≤ length bytes
  pub fits : length bytes ≤ s.sets.size
  pub runs : s.sets.clock ≢ 18446744073709551615

pub record RowOk (s : Store) (i : ℕ) : Type 0 where
  pub whole : Whole s.sets s.heads s.slots s.cells
  pub row : i < s.sets.used
  pub runs : s.sets.clock ≢ 18446744073709551615

-- what a plan may say
abbrev pub PlanOk : Store → List ℕ → Plan → Type 0
PlanOk s bytes (plan.Refuse r) = Unit {0}
PlanOk s bytes plan.Silent = Unit {0}
PlanOk s bytes (plan.Conflict i) = RowOk s i
PlanOk s bytes (plan.Repeat i) = RowOk s i
PlanOk s bytes (plan.Keep k) = KeepOk s bytes k
