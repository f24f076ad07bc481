-- One law for each way out.
-- Assumes nothing.
use mathlib.Core.Path.{◌≡◌}
use mathlib.Core.List.{List}
use mathlib.Core.Bool.{Bool, true, false}
use Prim.Native.Nat.{ℕ, ◌+◌, ◌*◌, ◌≤◌, ◌<◌}
use borrow.Author.Tests.{lt-ltb, le-ltb}
use Rattle.cells.specs.Cells.{next_filled}
use Rattle.rows.specs.Rows.{row_slots}
use Rattle.std.specs.Prelude.{Ok}
use Rattle.readers.specs.Next.{no_section, slot_told}
use Rattle.readers.specs.declared.Next.{Next}
use Rattle.units.specs.Units.{is_present, unit_slots}
use Rattle.schedules.specs.Schedules.{tables_of}
use Rattle.eit_next.specs.Following.{row_next, unit_next, schedule_next}

module _ (heads slots : List ℕ) (used size row from : ℕ) (q : Next) where
  pub row_none : used ≤ row → q ≡ no_section (Ok false) → q ≡ row_next heads slots used size row from
  row_none h f = rw (le-ltb row used h) f

  pub row_in : (part : List ℕ) → row < used → part ≡ row_slots heads slots row → q ≡ slot_told size part (next_filled part from) → q ≡ row_next heads slots used size row from
  row_in part h p f = rw (lt-ltb row used h, ← p) f

module _ (schedule_heads units : List ℕ) (schedules size row table from : ℕ) (q : Next) where
  pub in_no_row : schedules ≤ row → q ≡ no_section (Ok false) → q ≡ schedule_next schedule_heads units schedules size row table from
  in_no_row h f = rw (le-ltb row schedules h) f

  pub in_no_table : (n : ℕ) → row < schedules → n ≡ tables_of schedule_heads row → n ≤ table → q ≡ no_section (Ok false) → q ≡ schedule_next schedule_heads units schedules size row table from
  in_no_table n h g k f = rw (lt-ltb row schedules h, ← g, le-ltb table n k) f

  pub in_table : (n : ℕ) → row < schedules → n ≡ tables_of schedule_heads row → table < n → q ≡ unit_next size units (row * 16 + table) from → q ≡ schedule_next schedule_heads units schedules size row table from
  in_table n h g k f = rw (lt-ltb row schedules h, ← g, lt-ltb table n k) f

module _ (size : ℕ) (units : List ℕ) (u from : ℕ) (b : Bool) (q : Next) (e : b ≡ is_present units u) where
  pub unit_there : (part : List ℕ) → b ≡ true → part ≡ unit_slots units u → q ≡ slot_told size part (next_filled part from) → q ≡ unit_next size units u from
  unfolding unit_next
  unit_there part t p f = rw (← e, t, ← p) f

  pub unit_absent : b ≡ false → q ≡ no_section (Ok false) → q ≡ unit_next size units u from
  unfolding unit_next
  unit_absent t f = rw (← e, t) f
