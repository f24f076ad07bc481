-- One law for each way out of the three calls and their parts.
-- Assumes nothing.
use mathlib.Core.Path.{◌≡◌, refl, sym, ap, ◌∙◌}
use mathlib.Core.Bool.{Bool, true, false, cond, not, ◌&&◌, ◌||◌}
use Prim.Native.Nat.{ℕ, ◌+◌, ◌*◌, ◌≤◌, ◌<◌}
use native.Mathlib.Nat.{zero-add}
use native.Mathlib.Omega.{arith}
use mathlib.Core.List.{List}
use lib.ListN.{length, get_or-eq_default}
use lib.Dec.{ltb, eqb}
use borrow.Author.Tests.{lt-ltb, le-ltb, eqb-true}
use Rattle.answers.specs.declared.Refusal.TheVariants as refusal
use Rattle.section.specs.Header.{byte_at}
use Rattle.section.specs.Judged.{malformed, AtMost4098}
use Rattle.rows.specs.Rows.{key_at, row_slots, last_of}
use Rattle.rows.specs.declared.Key.{Key}
use Rattle.handed.specs.Handed.{set_out_lem}
use Rattle.units.specs.Units.{unit_slots}
use Rattle.schedules.specs.Schedules.{tables_of, tables_there}
use Rattle.eit_state.specs.State.{Store, store, whole_of}
use Rattle.eit_pids.specs.Rows.{any_without}
use Rattle.shown_sections.specs.Shown.{Show, nothing_shown, section_show, slots_show, reached_as, shown_from, told_by, laid, Kept}
use Rattle.shown_sections.specs.declared.Shown.{Shown}
use Rattle.shown_sections.specs.declared.ShowAnswer.TheVariants.{No, Refused}
use Rattle.showing.specs.Store.{shown_section, shown_set, head_entry, schedule_whole, table_out, shown_table}

-- section_number, and 0 past the end
pub number_none : (s : List ℕ) → length s ≤ 6 → (0 ≡ byte_at s 6) × (0 < 256)
number_none s h = (sym (get_or-eq_default s 0 h), omega arith)

-- ---- a section

-- what the listing of a section asks: it is all that is lent
pub section_kept : (s : List ℕ) (number : ℕ) (m : Bool) → m ≡ false → AtMost4098 m (length s) → number < 256 → Kept (length s) 0 (length s) number 0
section_kept s number m t f h = let l = f t in record { within = omega arith; short = omega arith; numbered = h; few = omega arith }

module _ (section : List ℕ) (skip : ℕ) (list : List ℕ) (m : Bool) (e : m ≡ malformed section) where
  pub section_refused : m ≡ true → (r : Shown) → r ≡ nothing_shown (Refused refusal.Malformed) → (r, list) ≡ shown_section section skip list
  unfolding shown_section
  section_refused t r f = rw (← e, t, f)

  pub section_told : m ≡ false → (number : ℕ) → number ≡ byte_at section 6 → (last r : Shown) (l : List ℕ)
      → (last, l) ≡ shown_from skip 0 (section_show section 0 (length section) number) list → r ≡ told_by skip last → (r, l) ≡ shown_section section skip list
  unfolding shown_section laid shown_from
  section_told t number g last r l f h =
      let s : Show = section_show section 0 (length section) number in
      let a : last ≡ reached_as (0 + length s.entries) s.end = ap (λ (x : Shown × List ℕ). x.0) f in
      rw (← e, t, ← g, h, a, zero-add, ap (λ (x : Shown × List ℕ). x.1) f)

-- ---- a set

module _ (s : Store) (row skip : ℕ) (list : List ℕ) (b : Bool) (e : b ≡ whole_of s) where
  pub set_refused : b ≡ false → (r : Shown) → r ≡ nothing_shown (Refused refusal.NotWhole) → (r, list) ≡ shown_set s row skip list
  unfolding shown_set
  set_refused t r f = rw (← e, t, f)

  pub set_without : b ≡ true → (w : Bool) → w ≡ any_without s.eit s.heads s.schedule_heads → w ≡ true → (r : Shown) → r ≡ nothing_shown (Refused refusal.NoPid)
      → (r, list) ≡ shown_set s row skip list
  unfolding shown_set
  set_without t w o v r f = rw (← e, t, ← o, v, f)

  module _ (t : b ≡ true) (w : Bool) (p : w ≡ any_without s.eit s.heads s.schedule_heads) (v : w ≡ false) (o : Bool) (g : o ≡ set_out_lem s.heads s.eit.sets.used row) where
    pub set_none : o ≡ false → (r : Shown) → r ≡ nothing_shown No → (r, list) ≡ shown_set s row skip list
    unfolding shown_set
    set_none y r f = rw (← e, t, ← p, v, ← g, y, f)

    pub set_listed_lem : o ≡ true → (part : List ℕ) → part ≡ row_slots s.heads s.slots row → (r : Shown) (l : List ℕ)
        → (r, l) ≡ laid skip (slots_show s.cells s.eit.sets.size part 0) list → (r, l) ≡ shown_set s row skip list
    unfolding shown_set
    set_listed_lem y part q r l f = rw (← e, t, ← p, v, ← g, y, ← q) f

-- ---- a table of a schedule

pub schedule_whole_lem : (schedule_heads units : List ℕ) (row : ℕ) (key : Key) (last : ℕ) (r : Bool) → key ≡ key_at schedule_heads row → last ≡ last_of schedule_heads row
    → r ≡ tables_there units row (record { key = key; version = 0; last = last; number = 0 }) → r ≡ schedule_whole schedule_heads units row
unfolding schedule_whole
schedule_whole_lem schedule_heads units row key last r k l e = e ∙ rw (k, l)

module _ (schedule_heads units : List ℕ) (schedules row table : ℕ) where
  pub table_no_row : schedules ≤ row → false ≡ table_out schedule_heads units schedules row table
  unfolding table_out
  table_no_row h = rw (le-ltb row schedules h)

  pub table_past : (n : ℕ) → row < schedules → n ≡ tables_of schedule_heads row → n ≤ table → false ≡ table_out schedule_heads units schedules row table
  unfolding table_out
  table_past n h e l = rw (lt-ltb row schedules h, ← e, le-ltb table n l)

  pub table_in_lem : (n : ℕ) (r : Bool) → row < schedules → n ≡ tables_of schedule_heads row → table < n → r ≡ schedule_whole schedule_heads units row → r ≡ table_out schedule_heads units schedules row table
  unfolding table_out
  table_in_lem n r h e l f = rw (lt-ltb row schedules h, ← e, lt-ltb table n l) f

module _ (s : Store) (row table skip : ℕ) (list : List ℕ) (b : Bool) (e : b ≡ whole_of s) where
  pub table_refused : b ≡ false → (r : Shown) → r ≡ nothing_shown (Refused refusal.NotWhole) → (r, list) ≡ shown_table s row table skip list
  unfolding shown_table
  table_refused t r f = rw (← e, t, f)

  pub table_without : b ≡ true → (w : Bool) → w ≡ any_without s.eit s.heads s.schedule_heads → w ≡ true → (r : Shown) → r ≡ nothing_shown (Refused refusal.NoPid)
      → (r, list) ≡ shown_table s row table skip list
  unfolding shown_table
  table_without t w o v r f = rw (← e, t, ← o, v, f)

  module _ (t : b ≡ true) (w : Bool) (p : w ≡ any_without s.eit s.heads s.schedule_heads) (v : w ≡ false) (o : Bool) (g : o ≡ table_out s.schedule_heads s.units s.eit.schedules row table) where
    pub table_none : o ≡ false → (r : Shown) → r ≡ nothing_shown No → (r, list) ≡ shown_table s row table skip list
    unfolding shown_table
    table_none y r f = rw (← e, t, ← p, v, ← g, y, f)

    pub table_listed_lem : o ≡ true → (part : List ℕ) → part ≡ unit_slots s.units (row * 16 + table) → (r : Shown) (l : List ℕ)
        → (r, l) ≡ laid skip (slots_show s.cells s.eit.sets.size part 0) list → (r, l) ≡ shown_table s row table skip list
    unfolding shown_table
    table_listed_lem y part q r l f = rw (← e, t, ← p, v, ← g, y, ← q) f
