-- The EIT collector's settings and counts with the content of the five lent slices, and when they are whole (docs/RULES.md, "Layouts" and "Answers").
-- `cond test a b` is a where the test is true, else b.
use Rattle.std.specs.Prelude.{ℕ, ◌*◌, ◌≤◌, ◌<◌, ◌≡◌, ◌≢◌, List, Bool, true, cond, ◌&&◌, ◌||◌, length, leb, eqb, Ok, Err}
use Rattle.answers.specs.Answers.{refusal_no}
use Rattle.answers.specs.declared.Refusal.TheVariants as refusal
use Rattle.store.specs.Store as sets
use Rattle.store.specs.declared.Sets.{Sets}
use Rattle.schedules.specs.Schedules.{schedules_whole}
use Rattle.eit_state.specs.declared.Eit.{Eit}
use Rattle.eit_state.specs.declared.PushAnswer.{PushAnswer}
use Rattle.eit_state.specs.declared.PushAnswer.TheVariants.{Nothing, Set, Schedule, Refused}
use Rattle.eit_state.specs.declared.Turned.{Turned}

-- ---- a collector, with the content of the lent slices

pub record Store : Type 0 where
  pub eit : Eit
  pub heads : List ℕ
  pub slots : List ℕ
  pub cells : List ℕ
  pub schedule_heads : List ℕ
  pub units : List ℕ

abbrev pub store : Eit → (heads slots cells schedule_heads units : List ℕ) → Store
store eit heads slots cells schedule_heads units =
    record { eit = eit; heads = heads; slots = slots; cells = cells; schedule_heads = schedule_heads; units = units }

-- the sets alone
abbrev pub set_store : Store → sets.Store
set_store s = sets.store s.eit.sets s.heads s.slots s.cells

-- all but the cells
pub record Rows : Type 0 where
  pub eit : Eit
  pub heads : List ℕ
  pub slots : List ℕ
  pub schedule_heads : List ℕ
  pub units : List ℕ

abbrev pub rows : Eit → (heads slots schedule_heads units : List ℕ) → Rows
rows eit heads slots schedule_heads units = record { eit = eit; heads = heads; slots = slots; schedule_heads = schedule_heads; units = units }

abbrev pub rows_of : Store → Rows
rows_of s = rows s.eit s.heads s.slots s.schedule_heads s.units

abbrev pub store_with : Rows → (cells : List ℕ) → Store
store_with r cells = store r.eit r.heads r.slots cells r.schedule_heads r.units

-- the number of an answer to a section
abbrev pub push_number : PushAnswer → ℕ
push_number Nothing = 4
push_number (Set i) = 5
push_number (Schedule k) = 6
push_number (Refused r) = refusal_no r

-- ---- settings and counts

-- a collector as it is asked for at opening: no rows, counts 0
abbrev pub asked : (limit size count : ℕ) → Eit
asked limit size count = record { sets = sets.asked limit size count; schedules = 0; schedule_evictions = 0 }

-- the sets in use and their evictions become those
abbrev pub with_sets : Eit → (used evictions : ℕ) → Eit
with_sets e used evictions = record {
  sets = record { limit = e.sets.limit; size = e.sets.size; count = e.sets.count; used = used; evictions = evictions; clock = e.sets.clock };
  schedules = e.schedules;
  schedule_evictions = e.schedule_evictions;
}

-- so the schedules
abbrev pub with_schedules : Eit → (schedules evictions : ℕ) → Eit
with_schedules e schedules evictions = record { sets = e.sets; schedules = schedules; schedule_evictions = evictions }

-- one touch more: the clock is that of the sets and of the schedules
abbrev pub risen_eit : Eit → Eit
risen_eit e = record { sets = sets.risen_sets e.sets; schedules = e.schedules; schedule_evictions = e.schedule_evictions }

abbrev pub risen_rows : Rows → Rows
risen_rows r = rows (risen_eit r.eit) r.heads r.slots r.schedule_heads r.units

-- no rows; "not the eviction counts", nor the clock
abbrev pub empty_eit : Eit → Eit
empty_eit e = with_schedules (with_sets e 0 e.sets.evictions) 0 e.schedule_evictions

-- what opening hands back, 7 or 13, and what clearing does, 7 or 10
abbrev pub opened_as : (fits : Bool) → Eit → Turned
opened_as fits e = record { answer = cond fits (Ok tt) (Err refusal.TooLittle); eit = e }

abbrev pub cleared_as : (whole : Bool) → Eit → Turned
cleared_as whole e = cond whole (record { answer = Ok tt; eit = empty_eit e }) (record { answer = Err refusal.NotWhole; eit = e })

-- 11 looks at both eviction counts and at the clock
abbrev pub counters_full : Eit → Bool
counters_full e = sets.counters_full e.sets || eqb e.schedule_evictions 18446744073709551615

-- ---- 13 and 10

-- the lent slices have the limit's schedules, of 12 words and of 16 * 288 words, and no more are in use
abbrev pub schedules_fit : Eit → (schedule_heads units : ℕ) → Bool
schedules_fit e schedule_heads units =
    leb (e.sets.limit * 12) schedule_heads && leb (e.sets.limit * 4608) units && leb e.schedules e.sets.limit

-- the settings are in range, and the lent slices are long enough for them
abbrev pub settings_fit : Eit → (heads slots cells schedule_heads units : ℕ) → Bool
settings_fit e heads slots cells schedule_heads units = sets.settings_fit e.sets heads slots cells && schedules_fit e schedule_heads units

-- the sets are whole, the schedules fit, and every slot of a table that a schedule in use has is whole
unfoldable pub whole_of : Store → Bool
whole_of s =
    sets.whole_of (set_store s)
    && (schedules_fit s.eit (length s.schedule_heads) (length s.units)
    && schedules_whole s.schedule_heads s.units s.eit.sets.count s.eit.sets.size s.eit.schedules)

-- ---- what the parts ask of a store

-- a store that is whole, as orders of numbers
pub record Whole (s : Store) : Type 0 where
  pub sets : sets.Whole s.eit.sets s.heads s.slots s.cells
  pub schedule_heads_long : s.eit.sets.limit * 12 ≤ length s.schedule_heads
  pub units_long : s.eit.sets.limit * 4608 ≤ length s.units
  pub schedules : s.eit.schedules ≤ s.eit.sets.limit

-- rows for the limit's sets and schedules, and no more in use
pub record RowsFit (r : Rows) : Type 0 where
  pub used : r.eit.sets.used ≤ r.eit.sets.limit
  pub heads_long : r.eit.sets.limit * 12 ≤ length r.heads
  pub slots_long : r.eit.sets.limit * 288 ≤ length r.slots
  pub schedule_heads_long : r.eit.sets.limit * 12 ≤ length r.schedule_heads
  pub units_long : r.eit.sets.limit * 4608 ≤ length r.units
  pub schedules : r.eit.schedules ≤ r.eit.sets.limit

-- neither eviction count is at its end, nor the clock
pub record CanCount (e : Eit) : Type 0 where
  pub sets : e.sets.evictions < 18446744073709551615
  pub runs : e.sets.clock ≢ 18446744073709551615
  pub schedules : e.schedule_evictions < 18446744073709551615
