-- In a store that is whole the cells have every section that a slot of a row in use names, or of a table that is there.
-- Assumes nothing.
use mathlib.Core.Path.{◌≡◌, refl, sym, ap, ◌∙◌}
use mathlib.Core.Bool.{Bool, true, false, cond, not, ◌&&◌, true≢false}
use Prim.Native.Nat.{ℕ, zero, suc, ◌+◌, ◌*◌, ◌-◌, ◌≤◌, ◌<◌, min}
use native.Mathlib.Nat.{mul-le-mul_right, not-suc-le-zero}
use native.Mathlib.Decide.{ℕ_discrete}
use native.Mathlib.Omega.{arith}
use mathlib.Core.List.{List}
use lib.ListN.{length, get_or, drop, length-take}
use lib.Dec.{eqb, ltb}
use borrow.Author.Tests.{eqb-false, ltb-true, not-true}
use Rattle.laws.proofs.Tests.{and_true}
use Rattle.laws.proofs.Search.{every_get}
use Rattle.cells.specs.Cells.{slot_whole, all_whole, kept_length, cell_number, filled}
use Rattle.rows.specs.Rows.{key_at, table_word, row_slots, slots_at, slot_count, last_of}
use Rattle.handed.specs.Handed.{set_out_lem}
use Rattle.handed.proofs.Ways.{in_use}
use Rattle.rows.proofs.Whole.{rows_get}
use Rattle.rows.proofs.Words.{length_slots}
use Rattle.placing.proofs.Fits.{slot_bounds}
use Rattle.segments.specs.Segments.{word_of}
use Rattle.units.specs.Units.{first_table, is_present, unit_slots, unit_whole, units_whole, all_present}
use Rattle.schedules.specs.Schedules.{table_count, tables_of, schedules_whole, tables_there}
use Rattle.eit_state.specs.State.{Store, store, whole_of, Whole}
use Rattle.eit_state.specs.declared.Eit.{Eit}
use Rattle.eit_state.proofs.Whole.{whole_store, units_whole_lem}
use Rattle.shown_sections.specs.Shown.{HeldSlot, HeldSlots}
use Rattle.showing.specs.Store.{head_entry, schedule_whole, table_out}

slot_held : (long count size w : ℕ) → count * size ≤ long → slot_whole count size w ≡ true → HeldSlot long size w
slot_held long count size w l e = record {
  held = λ (f : filled w ≡ true).
      let b = slot_bounds count size w e (eqb-false (kept_length w) 0 (not-true (eqb (kept_length w) 0) f)) in
      let h : (cell_number w + 1) * size ≤ count * size = mul-le-mul_right size (omega arith) in
      omega arith;
}

pub slots_held : (long count size : ℕ) (slots : List ℕ) → count * size ≤ long → all_whole count size slots ≡ true → HeldSlots long size slots
slots_held long count size slots l e = record {
  each = λ (j : ℕ) (h : j < length slots). slot_held long count size (get_or slots j 0) l (every_get (slot_whole count size) slots 0 j e h);
}

-- ---- units

units_get : (units : List ℕ) (count size base n j : ℕ) → units_whole units count size base n ≡ true → j < n → unit_whole units count size (base + j) ≡ true
unfolding units_whole
units_get units count size base zero j e h = absurd (not-suc-le-zero h)
units_get units count size base (suc n) j e h =
    let a = and_true (unit_whole units count size (base + n)) (units_whole units count size base n) e in
    go (ℕ_discrete j n) a.0 (λ q. units_get units count size base n j a.1 q)
  where
    go : Dec (j ≡ n) → unit_whole units count size (base + n) ≡ true → (j < n → unit_whole units count size (base + j) ≡ true) → unit_whole units count size (base + j) ≡ true
    go (yes q) p ih = rw q p
    go (no d) p ih = ih (omega arith)

schedules_get : (schedule_heads units : List ℕ) (count size n k : ℕ) → schedules_whole schedule_heads units count size n ≡ true → k < n → units_whole units count size (k * 16) (tables_of schedule_heads k) ≡ true
unfolding schedules_whole
schedules_get schedule_heads units count size zero k e h = absurd (not-suc-le-zero h)
schedules_get schedule_heads units count size (suc n) k e h =
    let a = and_true (units_whole units count size (n * 16) (tables_of schedule_heads n)) (schedules_whole schedule_heads units count size n) e in
    go (ℕ_discrete k n) a.0 (λ q. schedules_get schedule_heads units count size n k a.1 q)
  where
    go : Dec (k ≡ n) → units_whole units count size (n * 16) (tables_of schedule_heads n) ≡ true → (k < n → units_whole units count size (k * 16) (tables_of schedule_heads k) ≡ true) → units_whole units count size (k * 16) (tables_of schedule_heads k) ≡ true
    go (yes q) p ih = rw q p
    go (no d) p ih = ih (omega arith)

present_get : (units : List ℕ) (base n j : ℕ) → all_present units base n ≡ true → j < n → is_present units (base + j) ≡ true
unfolding all_present
present_get units base zero j e h = absurd (not-suc-le-zero h)
present_get units base (suc n) j e h =
    let a = and_true (is_present units (base + n)) (all_present units base n) e in
    go (ℕ_discrete j n) a.0 (λ q. present_get units base n j a.1 q)
  where
    go : Dec (j ≡ n) → is_present units (base + n) ≡ true → (j < n → is_present units (base + j) ≡ true) → is_present units (base + j) ≡ true
    go (yes q) p ih = rw q p
    go (no d) p ih = ih (omega arith)

unit_there : (units : List ℕ) (count size u : ℕ) → unit_whole units count size u ≡ true → is_present units u ≡ true → all_whole count size (unit_slots units u) ≡ true
unfolding unit_whole
unit_there units count size u e p = rw p at e

pub length_unit : (units : List ℕ) (u : ℕ) (part : List ℕ) → part ≡ unit_slots units u → length part ≤ 256
unfolding unit_slots
length_unit units u part f = rw f (let e = length-take (slot_count (word_of units u 2)) (drop (slots_at u) units) in omega arith)

pub length_row : (heads slots : List ℕ) (i : ℕ) (part : List ℕ) → part ≡ row_slots heads slots i → length part ≤ 256
unfolding row_slots
length_row heads slots i part f = rw f (let e = length-take (slot_count (last_of heads i)) (drop (slots_at i) slots) in omega arith)

-- ---- a store that is whole

module _ (e : Eit) (heads slots cells schedule_heads units : List ℕ) (b : Bool) (q : b ≡ whole_of (store e heads slots cells schedule_heads units)) (t : b ≡ true) where
  abbrev all : Store
  all = store e heads slots cells schedule_heads units

  whole : Whole all
  whole = whole_store all (sym q ∙ t)

  pub heads_there : e.sets.used * 12 ≤ length heads
  heads_there = let w = whole.sets in omega arith

  pub schedules_there : (e.schedules * 12 ≤ length schedule_heads) × (e.schedules * 4608 ≤ length units)
  schedules_there = let w = whole in (omega arith, omega arith)

  pub size_small : e.sets.size ≤ 4096
  size_small = whole.sets.size_high

  module _ (row : ℕ) (o : Bool) where
    pub set_row : o ≡ set_out_lem heads e.sets.used row → o ≡ true → (row * 12 + 12 ≤ length heads) × (row * 288 + 288 ≤ length slots)
    set_row p y = let w = whole.sets in let h = in_use heads e.sets.used row o p y in (omega arith, omega arith)

    pub set_held : (part : List ℕ) → o ≡ set_out_lem heads e.sets.used row → o ≡ true → part ≡ row_slots heads slots row → HeldSlots (length cells) e.sets.size part
    set_held part p y f =
        let w = whole.sets in
        rw f (slots_held (length cells) e.sets.count e.sets.size (row_slots heads slots row) w.cells_long
        (rows_get heads slots e.sets.count e.sets.size e.sets.used row w.rows (in_use heads e.sets.used row o p y)))

    module _ (table : ℕ) where
      pub record There : Type 0 where
        pub row_in : row < e.schedules
        pub table_in_lem : table < tables_of schedule_heads row
        pub all_in : schedule_whole schedule_heads units row ≡ true

      pub there : o ≡ table_out schedule_heads units e.schedules row table → o ≡ true → There
      unfolding table_out
      there p y = go (ltb row e.schedules) (ltb table (tables_of schedule_heads row)) refl refl (sym p ∙ y)
        where
          go : (c d : Bool) → ltb row e.schedules ≡ c → ltb table (tables_of schedule_heads row) ≡ d → cond c (cond d (schedule_whole schedule_heads units row) false) false ≡ true → There
          go true true z x k = record { row_in = ltb-true row e.schedules z; table_in_lem = ltb-true table (tables_of schedule_heads row) x; all_in = k }
          go true false z x k = absurd (true≢false (sym k))
          go false d z x k = absurd (true≢false (sym k))

      pub tables_few : tables_of schedule_heads row ≤ 16
      unfolding tables_of
      tables_few = omega arith

      pub unit_long : o ≡ table_out schedule_heads units e.schedules row table → o ≡ true → (row * 16 + table) * 288 + 288 ≤ length units
      unit_long p y = let w = whole in let h = there p y in let f = tables_few in omega arith

      pub table_present : o ≡ table_out schedule_heads units e.schedules row table → o ≡ true → is_present units (row * 16 + table) ≡ true
      unfolding schedule_whole tables_there tables_of
      table_present p y =
          let h = there p y in
          let a = and_true (ltb (last_of schedule_heads row - first_table (table_word schedule_heads row)) 16) (all_present units (row * 16) (table_count (key_at schedule_heads row).table_id (last_of schedule_heads row))) h.all_in in
          present_get units (row * 16) (tables_of schedule_heads row) table a.1 h.table_in_lem

      pub table_whole : o ≡ table_out schedule_heads units e.schedules row table → o ≡ true → all_whole e.sets.count e.sets.size (unit_slots units (row * 16 + table)) ≡ true
      table_whole p y =
          let h = there p y in
          let count = e.sets.count in
          let size = e.sets.size in
          let v = units_get units count size (row * 16) (tables_of schedule_heads row) table (schedules_get schedule_heads units count size e.schedules row (units_whole_lem all (sym q ∙ t)) h.row_in) h.table_in_lem in
          unit_there units count size (row * 16 + table) v (table_present p y)

      pub table_held : (part : List ℕ) → o ≡ table_out schedule_heads units e.schedules row table → o ≡ true → part ≡ unit_slots units (row * 16 + table) → HeldSlots (length cells) e.sets.size part
      table_held part p y f =
          let w = whole.sets in
          rw f (slots_held (length cells) e.sets.count e.sets.size (unit_slots units (row * 16 + table)) w.cells_long (table_whole p y))
