-- One schedule: copies of its tables' sets as they were when they went in (docs/RULES.md, "Collectors").
-- Assumes nothing.
use Rattle.std.specs.Prelude.{Bool, cond, List, [], ◌∷◌, ℕ, zero, suc, ◌-◌, leb, eqb, set, take, replicate}
use Rattle.std.proofs.Math.Option.{Option, none, some}
use Rattle.rules_shared.specs.Slots.{present}
use Rattle.rules_shared.specs.Touch.{Rows, find}
use Rattle.rules_eit.specs.Keys.{ScheduleKey, SetKey, same_set}
use Rattle.rules_eit.specs.Segments.{SetOf, held_from, complete}

-- a set as it was when it went into a schedule
pub record CopyOf (A : Type 0) : Type 0 where
  pub version : ℕ
  pub last : ℕ
  pub slots : List (Option A)

-- a schedule's row: last_table_id, and 16 places, place n for the first table_id of the kind plus n
pub record ScheduleOf (A : Type 0) : Type 0 where
  pub last_table : ℕ
  pub copies : List (Option (CopyOf A))

-- a set that is handed out: "All filled slots are handed out", in section order
pub record WholeOf (A : Type 0) : Type 0 where
  pub key : SetKey
  pub version : ℕ
  pub last : ℕ
  pub sections : List A

-- a schedule that is handed out: its tables in table order
pub record GuideOf (A : Type 0) : Type 0 where
  pub key : ScheduleKey
  pub last_table : ℕ
  pub tables : List (WholeOf A)

abbrev pub table_of : ScheduleKey → (table_id_of : ℕ) → SetKey
table_of l t = record { schedule = l; table_id_of = t }

module _ {A : Type 0} where
  unfoldable pub copy_of : SetOf A → CopyOf A
  copy_of r = record { version = r.version; last = r.last; slots = r.slots }

  unfoldable pub whole : SetKey → CopyOf A → WholeOf A
  whole k c = record { key = k; version = c.version; last = c.last; sections = present c.slots }

  -- "each other table's set that is complete at that moment, marked or not"
  unfoldable pub copied : Option (SetOf A) → Option (CopyOf A)
  copied none = none
  copied (some r) = cond (complete r) (some (copy_of r)) none

  -- n places from table_id t on, "inside the new range". `others` are the sets beside the one that arrived
  unfoldable pub refill : (others : Rows SetKey (SetOf A)) → ScheduleKey → (last_table t n : ℕ) → List (Option (CopyOf A))
  refill others l last t zero = []
  refill others l last t (suc n) = cond (leb t last) (copied (find same_set (table_of l t) others)) none ∷ refill others l last (suc t) n

  -- the schedule that a set goes into: a new one is empty; "If last_table_id differs from an existing schedule's, that row is emptied first and refilled"
  unfoldable pub begin : (others : Rows SetKey (SetOf A)) → ScheduleKey → (first last_table : ℕ) → Option (ScheduleOf A) → ScheduleOf A
  begin others l first last none = record { last_table = last; copies = replicate 16 none }
  begin others l first last (some s) = cond (eqb s.last_table last) s (record { last_table = last; copies = refill others l last first 16 })

  -- the set is put in as a copy
  unfoldable pub enter : (place : ℕ) → CopyOf A → ScheduleOf A → ScheduleOf A
  enter n c s = record { last_table = s.last_table; copies = set s.copies n (some c) }

  -- "all tables from 0x50 or 0x60 to last_table_id" are there. Past the kind there are no places, so a last_table_id there is never reached
  unfoldable pub all_tables : (first : ℕ) → ScheduleOf A → Bool
  all_tables first s = held_from s.copies 0 (suc (s.last_table - first))

  -- the copies that are there, from table_id t on
  unfoldable pub wholes : ScheduleKey → (t : ℕ) → List (Option (CopyOf A)) → List (WholeOf A)
  wholes l t [] = []
  wholes l t (none ∷ cs) = wholes l (suc t) cs
  wholes l t (some c ∷ cs) = whole (table_of l t) c ∷ wholes l (suc t) cs

  unfoldable pub guide : ScheduleKey → (first : ℕ) → ScheduleOf A → GuideOf A
  guide l first s = record { key = l; last_table = s.last_table; tables = wholes l first (take (suc (s.last_table - first)) s.copies) }
