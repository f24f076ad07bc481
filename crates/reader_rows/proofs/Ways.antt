-- One law for each way out of the questions for the slots that a reader is given.
-- Assumes nothing.
use mathlib.Core.Path.{◌≡◌}
use mathlib.Core.List.{List, []}
use mathlib.Core.Bool.{Bool, true, false}
use Prim.Native.Nat.{ℕ, ◌+◌, ◌*◌, ◌≤◌, ◌<◌}
use native.Mathlib.Omega.{arith}
use borrow.Author.Tests.{lt-ltb, le-ltb}
use lib.ListN.{length}
use Rattle.rows.specs.Rows.{row_slots}
use Rattle.store.specs.Store as sets
use Rattle.store.specs.declared.Sets.{Sets}
use Rattle.store.proofs.Whole as sets_whole
use Rattle.units.specs.Units.{is_present, unit_slots}
use Rattle.schedules.specs.Schedules.{tables_of}
use Rattle.without_pid.specs.Pids.{without_pid}
use Rattle.eit_state.specs.State as eit
use Rattle.eit_pids.specs.Rows.{any_without}
use Rattle.eit_state.specs.declared.Eit.{Eit}
use Rattle.eit_state.proofs.Whole.{is_whole_means}
use Rattle.reader_rows.specs.Rows.{set_slots, eit_slots, unit_taken, table_slots}

-- ---- a set

module _ (s : sets.Store) (row : ℕ) (b : Bool) (q : List ℕ) (e : b ≡ sets.whole_of s) where
  module _ (t : b ≡ true) (w : Bool) (o : w ≡ without_pid s.heads s.sets.used) where
    pub set_without : w ≡ true → q ≡ [] → q ≡ set_slots s row
    unfolding set_slots
    set_without v f = rw (← e, t, ← o, v) f

    pub set_there : w ≡ false → row < s.sets.used → q ≡ row_slots s.heads s.slots row → q ≡ set_slots s row
    unfolding set_slots
    set_there v h f = rw (← e, t, ← o, v, lt-ltb row s.sets.used h) f

    pub set_none : w ≡ false → s.sets.used ≤ row → q ≡ [] → q ≡ set_slots s row
    unfolding set_slots
    set_none v h f = rw (← e, t, ← o, v, le-ltb row s.sets.used h) f

  pub set_broken : b ≡ false → q ≡ [] → q ≡ set_slots s row
  unfolding set_slots
  set_broken t f = rw (← e, t) f

pub set_row : (s : Sets) (heads slots cells : List ℕ) (b : Bool) (row : ℕ) → b ≡ sets.whole_of (sets.store s heads slots cells) → b ≡ true → row < s.used
    → (row * 12 + 12 ≤ length heads) × (row * 288 + 288 ≤ length slots)
set_row s heads slots cells b row e t h = let w = sets_whole.is_whole_means s heads slots cells b e t in (omega arith, omega arith)

pub set_heads : (s : Sets) (heads slots cells : List ℕ) (b : Bool) → b ≡ sets.whole_of (sets.store s heads slots cells) → b ≡ true → s.used * 12 ≤ length heads
set_heads s heads slots cells b e t = let w = sets_whole.is_whole_means s heads slots cells b e t in omega arith

-- ---- an EIT set, and a table of a schedule

module _ (s : eit.Store) (row : ℕ) (b : Bool) (q : List ℕ) (e : b ≡ eit.whole_of s) where
  module _ (t : b ≡ true) (w : Bool) (o : w ≡ any_without s.eit s.heads s.schedule_heads) where
    pub eit_without : w ≡ true → q ≡ [] → q ≡ eit_slots s row
    unfolding eit_slots
    eit_without v f = rw (← e, t, ← o, v) f

    pub eit_there : w ≡ false → row < s.eit.sets.used → q ≡ row_slots s.heads s.slots row → q ≡ eit_slots s row
    unfolding eit_slots
    eit_there v h f = rw (← e, t, ← o, v, lt-ltb row s.eit.sets.used h) f

    pub eit_none : w ≡ false → s.eit.sets.used ≤ row → q ≡ [] → q ≡ eit_slots s row
    unfolding eit_slots
    eit_none v h f = rw (← e, t, ← o, v, le-ltb row s.eit.sets.used h) f

  pub eit_broken : b ≡ false → q ≡ [] → q ≡ eit_slots s row
  unfolding eit_slots
  eit_broken t f = rw (← e, t) f

  module _ (table : ℕ) where
    pub table_broken : b ≡ false → q ≡ [] → q ≡ table_slots s row table
    unfolding table_slots
    table_broken t f = rw (← e, t) f

    module _ (t : b ≡ true) (w : Bool) (o : w ≡ any_without s.eit s.heads s.schedule_heads) where
      pub table_without : w ≡ true → q ≡ [] → q ≡ table_slots s row table
      unfolding table_slots
      table_without v f = rw (← e, t, ← o, v) f

      pub table_no_row : w ≡ false → s.eit.schedules ≤ row → q ≡ [] → q ≡ table_slots s row table
      unfolding table_slots
      table_no_row v h f = rw (← e, t, ← o, v, le-ltb row s.eit.schedules h) f

      pub table_past : (n : ℕ) → w ≡ false → row < s.eit.schedules → n ≡ tables_of s.schedule_heads row → n ≤ table → q ≡ [] → q ≡ table_slots s row table
      unfolding table_slots
      table_past n v h g k f = rw (← e, t, ← o, v, lt-ltb row s.eit.schedules h, ← g, le-ltb table n k) f

      pub table_there : (n : ℕ) → w ≡ false → row < s.eit.schedules → n ≡ tables_of s.schedule_heads row → table < n → q ≡ unit_taken s.units (row * 16 + table) → q ≡ table_slots s row table
      unfolding table_slots
      table_there n v h g k f = rw (← e, t, ← o, v, lt-ltb row s.eit.schedules h, ← g, lt-ltb table n k) f

module _ (units : List ℕ) (u : ℕ) (b : Bool) (q : List ℕ) (e : b ≡ is_present units u) where
  pub unit_there : b ≡ true → q ≡ unit_slots units u → q ≡ unit_taken units u
  unfolding unit_taken
  unit_there t f = rw (← e, t) f

  pub unit_absent : b ≡ false → q ≡ [] → q ≡ unit_taken units u
  unfolding unit_taken
  unit_absent t f = rw (← e, t) f

-- what the questions ask of their parts
module _ (e : Eit) (heads slots cells schedule_heads units : List ℕ) (b : Bool) (q : b ≡ eit.whole_of (eit.store e heads slots cells schedule_heads units)) (t : b ≡ true) where
  pub eit_row : (row : ℕ) → row < e.sets.used → (row * 12 + 12 ≤ length heads) × (row * 288 + 288 ≤ length slots)
  eit_row row h = let w = (is_whole_means e heads slots cells schedule_heads units b q t).sets in (omega arith, omega arith)

  pub head_there : (row : ℕ) → row < e.schedules → row * 12 + 12 ≤ length schedule_heads
  head_there row h = let w = is_whole_means e heads slots cells schedule_heads units b q t in omega arith

  pub unit_long : (row table n : ℕ) → row < e.schedules → n ≤ 16 → table < n → (row * 16 + table) * 288 + 288 ≤ length units
  unit_long row table n h l k = let w = is_whole_means e heads slots cells schedule_heads units b q t in omega arith
