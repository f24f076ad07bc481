-- The EIT collector's schedules: what a host reads out of a table of a schedule in use is what the filled slots of its copy keep; after an answer 6 these
-- are, table by table, the sections that were handed out.
-- Assumes nothing.
use Prim.Native.Nat.{ℕ, zero, suc, ◌+◌, ◌*◌, ◌≤◌, ◌<◌}
use native.Mathlib.Nat.{not-suc-le-zero, add-zero}
use native.Mathlib.Omega.{arith}
use mathlib.Core.Path.{◌≡◌, refl, sym, ap, ◌∙◌, subst}
use mathlib.Core.Option.{some-injective}
use mathlib.Core.List.{List, [], ◌∷◌, map}
use mathlib.Core.Bool.{Bool, true, false, cond}
use lib.ListN.{length, get_or, get_elem?}
use borrow.Author.Tests.{lt-ltb, le-ltb}
use Rattle.laws.specs.Runs.{At, store_after}
use Rattle.rules_shared.specs.Same.{Bytes}
use Rattle.rules_eit.specs.Keys.{ScheduleKey}
use Rattle.rules_eit.specs.Schedules.{WholeOf, GuideOf, table_of}
use Rattle.rules_eit.specs.Rules as rules
use Rattle.rules_eit.specs.Rules.{Answer, schedule}
use Rattle.rules_eit.specs.Cells.{call_tells}
use Rattle.std.specs.Prelude.{Option, Result, Ok, Err}
use Rattle.arrivals.specs.declared.Arrival.{Arrival}
use Rattle.answers.specs.declared.Refusal.{Refusal}
use Rattle.cells.specs.Cells.{all_whole, kept}
use Rattle.units.specs.Units.{is_present, unit_slots, unit_whole, all_present, first_table}
use Rattle.schedules.specs.Schedules.{tables_of}
use Rattle.readers.specs.Next.{filled_slots}
use Rattle.readers.specs.declared.Next.{Next}
use Rattle.reading.specs.Reading.{asks, Reads}
use Rattle.reading.proofs.Reading.{reads_none, reads_all}
use Rattle.eit_state.specs.declared.PushAnswer.{PushAnswer}
use Rattle.eit_state.specs.declared.PushAnswer.TheVariants as answer
use Rattle.eit_state.specs.State.{Store, rows_of, whole_of}
use Rattle.eit_state.proofs.Whole.{whole_store, units_whole_lem}
use Rattle.eit.specs.Store.{set_out_lem, TableOut, table_out, tables_out, ScheduleOut, schedule_out, Told, done, nothing, a_set, a_schedule, refused, answer_of, pushed_as, pushed_of, next_in_of}
use Rattle.eit_admit.specs.Admitting.{admitted}
use Rattle.eit_carry.specs.Carried.{pushed_whole}
use Rattle.eit_pids.specs.Rows.{any_without}
use Rattle.eit_next.specs.Following.{unit_next}
use Rattle.ties_eit.specs.View.{Given, section, schedule_shown, seen, reads, tables_shown, answer_told, tells, acts, Opened, Reached}
use Rattle.ties_eit.proofs.Places.{units_get, schedules_get, present_get}
use Rattle.ties_eit.proofs.History.{EachFitting, opened_reached, tells_seen, opened_whole, always_whole}
use Rattle.ties_reading.proofs.Rows.{ToldRow, told_row}
use Rattle.ties_reading.proofs.Eit.{kind_of_lem, schedule_in, apart, push_whole, push_pids}

-- ---- a table of a schedule in use

module _ (s : Store) (w : whole_of s ≡ true) (row table : ℕ) (r : row < s.eit.schedules) (j : table < tables_of s.schedule_heads row) (p : is_present s.units (row * 16 + table) ≡ true) where
  -- where every set and every schedule has a PID, every question about it is one about its copy's slots
  asked_of_table : any_without s.eit s.heads s.schedule_heads ≡ false → (from : ℕ) → next_in_of s row table from ≡ asks s.eit.sets.size (unit_slots s.units (row * 16 + table)) from
  unfolding next_in_of unit_next
  asked_of_table n from = rw (w, n, lt-ltb row s.eit.schedules r, lt-ltb table (tables_of s.schedule_heads row) j, p) refl

  pub table_whole : all_whole s.eit.sets.count s.eit.sets.size (unit_slots s.units (row * 16 + table)) ≡ true
  unfolding unit_whole
  table_whole =
      let u : unit_whole s.units s.eit.sets.count s.eit.sets.size (row * 16 + table) ≡ true =
      units_get s.units s.eit.sets.count s.eit.sets.size (row * 16) (tables_of s.schedule_heads row) table
      (schedules_get s.schedule_heads s.units s.eit.sets.count s.eit.sets.size s.eit.schedules row (units_whole_lem s w) r) j in
      rw p at u

  -- so what is read are its filled slots' bytes in order, each once, and then no: 10 and 41 never occur in the reading
  pub reads_table : any_without s.eit s.heads s.schedule_heads ≡ false
      → Reads (next_in_of s row table) s.cells 0 (map (kept s.cells s.eit.sets.size) (filled_slots (unit_slots s.units (row * 16 + table)))) (Ok false)
  reads_table n =
      let f = whole_store s w in
      subst (λ (f : ℕ → Next). Reads f s.cells 0 (map (kept s.cells s.eit.sets.size) (filled_slots (unit_slots s.units (row * 16 + table)))) (Ok false))
      (λ i from. sym (asked_of_table n from) i)
      (reads_all s.eit.sets.count s.eit.sets.size s.cells (unit_slots s.units (row * 16 + table)) table_whole f.sets.cells_long)

-- past its last table there is nothing
pub reads_past : (s : Store) → whole_of s ≡ true → any_without s.eit s.heads s.schedule_heads ≡ false → (row table : ℕ) → row < s.eit.schedules → tables_of s.schedule_heads row ≤ table → Reads (next_in_of s row table) s.cells 0 [] (Ok false)
unfolding next_in_of
reads_past s w n row table r j =
    reads_none (next_in_of s row table) s.cells 0 (rw (w, n, lt-ltb row s.eit.schedules r, le-ltb table (tables_of s.schedule_heads row) j) refl)

-- ---- what was told

-- a schedule that is told is in its row, which is in use, and all its tables are there
pub record ScheduleTold (g : ScheduleOut) (t : Store) : Type 0 where
  pub schedule : g ≡ schedule_out t g.row
  pub used : g.row < t.eit.schedules
  pub there : all_present t.units (g.row * 16) (tables_of t.schedule_heads g.row) ≡ true

step_schedule : (a : PushAnswer) (t : Store) (g : ScheduleOut) → ToldRow a (rows_of t) → answer_of a t ≡ a_schedule g → ScheduleTold g t
unfolding kind_of_lem schedule_out
step_schedule answer.Nothing t g o e = absurd (apart nothing (a_schedule g) refl refl (λ z. absurd (omega (arith, z))) e)
step_schedule (answer.Set i) t g o e = absurd (apart (a_set (set_out_lem t i)) (a_schedule g) refl refl (λ z. absurd (omega (arith, z))) e)
step_schedule (answer.Schedule k) t g o e =
    let p : schedule_out t k ≡ g = ap (λ (x : Told). schedule_in x g) e in
    let r : k ≡ g.row = ap (λ (x : ScheduleOut). x.row) p in
    record {
      schedule = sym p ∙ ap (schedule_out t) r;
      used = subst (λ (n : ℕ). n < t.eit.schedules) r o.0;
      there = subst (λ (n : ℕ). all_present t.units (n * 16) (tables_of t.schedule_heads n) ≡ true) r o.1;
    }
step_schedule (answer.Refused r) t g o e = absurd (apart (refused r) (a_schedule g) refl refl (λ z. absurd (omega (arith, z))) e)

pub told_schedule : (s : Store) → whole_of s ≡ true → (input : ℕ) (pid : Option ℕ) (bytes : Bytes) (g : ScheduleOut) → (pushed_of s input pid bytes).told ≡ a_schedule g → ScheduleTold g (pushed_of s input pid bytes).store
unfolding pushed_of kind_of_lem
told_schedule s w input pid bytes g e = go (admitted s input pid bytes) e
  where
    go : (v : Result Arrival Refusal) → (pushed_as s bytes v).told ≡ a_schedule g → ScheduleTold g (pushed_as s bytes v).store
    go (Err r) e = absurd (apart (refused r) (a_schedule g) refl refl (λ z. absurd (omega (arith, z))) e)
    go (Ok a) e = step_schedule (pushed_whole s bytes a).answer (pushed_whole s bytes a).store g (told_row s (whole_store s w) bytes a) e

-- the tables of a schedule, by their number
table_at : (s : Store) (u n j : ℕ) (x : TableOut) → At (tables_out s u n) j x → (j < n) × (x ≡ table_out s (u + j))
unfolding tables_out
table_at s u zero j x e = let z : ◌≡◌ {A = ℕ} 0 1 = cc in absurd (omega arith)
table_at s u (suc n) zero x e = (omega arith, sym (some-injective (table_out s u) x e) ∙ ap (table_out s) (sym (add-zero u)))
table_at s u (suc n) (suc j) x e =
    let q = table_at s (suc u) n j x e in
    let z : suc u + j ≡ u + suc j = omega arith in
    (omega (arith, q.0), q.1 ∙ ap (table_out s) z)

tables_count : (s : Store) (u n : ℕ) → length (tables_out s u n) ≡ n
unfolding tables_out
tables_count s u zero = refl
tables_count s u (suc n) = ap suc (tables_count s (suc u) n)

-- ---- after an answer 6

-- What a host reads out of a schedule that is told of, asking each of its tables from 0 on: of table j the sections of the j-th table that was handed
-- out, byte for byte; past the last one nothing. Then the answer is no
pub record ReadsSchedule (t : Store) (g : ScheduleOut) : Type 0 where
  pub tables : (j : ℕ) (x : TableOut) → At g.tables j x → Reads (next_in_of t g.row j) t.cells 0 x.sections (Ok false)
  pub past : (j : ℕ) → length g.tables ≤ j → Reads (next_in_of t g.row j) t.cells 0 [] (Ok false)

pub read_handed : (s : Store) → Reached s → whole_of s ≡ true → (input : ℕ) (pid : Option ℕ) (bytes : Bytes) → ((i : ℕ) → get_or bytes i 0 < 256) → (g : ScheduleOut) → (pushed_of s input pid bytes).told ≡ a_schedule g
    → ReadsSchedule (pushed_of s input pid bytes).store g
unfolding schedule_out table_out
read_handed s z w input pid bytes o g e = record { tables = one; past = none }
  where
    t : Store
    t = (pushed_of s input pid bytes).store

    told : ScheduleTold g (pushed_of s input pid bytes).store
    told = told_schedule s w input pid bytes g e

    whole : whole_of (pushed_of s input pid bytes).store ≡ true
    whole = push_whole s z w input pid bytes o

    pids : any_without (pushed_of s input pid bytes).store.eit (pushed_of s input pid bytes).store.heads (pushed_of s input pid bytes).store.schedule_heads ≡ false
    pids = push_pids s z input pid bytes o

    n : ℕ
    n = tables_of (pushed_of s input pid bytes).store.schedule_heads g.row

    are : g.tables ≡ tables_out (pushed_of s input pid bytes).store (g.row * 16) n
    are = ap (λ (x : ScheduleOut). x.tables) told.schedule

    one : (j : ℕ) (x : TableOut) → At g.tables j x → Reads (next_in_of t g.row j) t.cells 0 x.sections (Ok false)
    one j x h =
        let q = table_at t (g.row * 16) n j x (subst (λ (l : List TableOut). At l j x) are h) in
        let d : x.sections ≡ map (kept t.cells t.eit.sets.size) (filled_slots (unit_slots t.units (g.row * 16 + j))) = ap (λ (y : TableOut). y.sections) q.1 in
        subst (λ (l : List Bytes). Reads (next_in_of t g.row j) t.cells 0 l (Ok false)) (sym d)
        (reads_table t whole g.row j told.used q.0 (present_get t.units (g.row * 16) n j told.there q.0) pids)

    none : (j : ℕ) → length g.tables ≤ j → Reads (next_in_of t g.row j) t.cells 0 [] (Ok false)
    none j h =
        let c : length g.tables ≡ n = ap length are ∙ tables_count t (g.row * 16) n in
        reads_past t whole pids g.row j told.used (omega (arith, c, h))

-- .. in every history from an opening on
pub read_in_every_history : (s : Store) → Opened s → (calls : List Given) → EachFitting calls → (input : ℕ) (pid : Option ℕ) (bytes : Bytes) → ((i : ℕ) → get_or bytes i 0 < 256) → (g : ScheduleOut)
    → (pushed_of (store_after acts s calls) input pid bytes).told ≡ a_schedule g → ReadsSchedule (pushed_of (store_after acts s calls) input pid bytes).store g
read_in_every_history s o calls f =
    let w = always_whole calls f s (opened_reached s o) (opened_whole s o) in
    read_handed (store_after acts s calls) w.0 w.1

-- ---- the rules' answer

-- the rules' tables are those that are told, by their number
table_shown : (l : ScheduleKey) (t : ℕ) (xs : List TableOut) (j : ℕ) (y : WholeOf Bytes) → At (tables_shown l t xs) j y → (x : TableOut) × At xs j x × (x.sections ≡ y.sections)
unfolding tables_shown
table_shown l t [] j y e = let z : ◌≡◌ {A = ℕ} 0 1 = cc in absurd (omega arith)
table_shown l t (x ∷ xs) zero y e =
    (x, refl, ap (λ (w : WholeOf Bytes). w.sections) (some-injective (record { key = table_of l t; version = x.version; last = x.last; sections = x.sections }) y e))
table_shown l t (x ∷ xs) (suc j) y e = table_shown l (suc t) xs j y e

tables_shown_lem : (l : ScheduleKey) (t : ℕ) (xs : List TableOut) → length (tables_shown l t xs) ≡ length xs
unfolding tables_shown
tables_shown_lem l t [] = refl
tables_shown_lem l t (x ∷ xs) = ap suc (tables_shown_lem l (suc t) xs)

abbrev tables_in : Answer → List (WholeOf Bytes) → List (WholeOf Bytes)
tables_in rules.done l = l
tables_in rules.nothing l = l
tables_in (rules.handout w) l = l
tables_in (schedule g) l = g.tables
tables_in (rules.refused r) l = l

-- what a host reads out of the schedule in a row, table by table, are the sections of the rules' tables
pub record ReadsGuide (t : Store) (row : ℕ) (w : GuideOf Bytes) : Type 0 where
  pub tables : (j : ℕ) (y : WholeOf Bytes) → At w.tables j y → Reads (next_in_of t row j) t.cells 0 y.sections (Ok false)
  pub past : (j : ℕ) → length w.tables ≤ j → Reads (next_in_of t row j) t.cells 0 [] (Ok false)

-- where the rules hand out a schedule, a schedule is told, and what a host reads out of its row are the sections of the rules' tables
pub read_as_ruled : (s : Store) → Opened s → (calls : List Given) → EachFitting calls → (input : ℕ) (pid : Option ℕ) (bytes : Bytes) → ((i : ℕ) → get_or bytes i 0 < 256) → (w : GuideOf Bytes)
    → call_tells (seen (store_after acts s calls)) (reads (section input pid bytes)) ≡ schedule w
    → (g : ScheduleOut) × ((pushed_of (store_after acts s calls) input pid bytes).told ≡ a_schedule g) × ReadsGuide (pushed_of (store_after acts s calls) input pid bytes).store g.row w
unfolding tells answer_told
read_as_ruled s o calls f input pid bytes b w e =
    let q = always_whole calls f s (opened_reached s o) (opened_whole s o) in
    let t : Store = store_after acts s calls in
    go (pushed_of t input pid bytes).told refl (tells_seen t q.0 (section input pid bytes) b ∙ e)
  where
    then : Store
    then = (pushed_of (store_after acts s calls) input pid bytes).store

    go : (x : Told) → (pushed_of (store_after acts s calls) input pid bytes).told ≡ x → answer_told x ≡ schedule w
        → (g : ScheduleOut) × ((pushed_of (store_after acts s calls) input pid bytes).told ≡ a_schedule g) × ReadsGuide then g.row w
    go done p k = let z : ◌≡◌ {A = ℕ} 0 1 = cc in absurd (omega arith)
    go nothing p k = let z : ◌≡◌ {A = ℕ} 0 1 = cc in absurd (omega arith)
    go (a_set h) p k = let z : ◌≡◌ {A = ℕ} 0 1 = cc in absurd (omega arith)
    go (a_schedule g) p k = (g, p, record { tables = one; past = none })
      where
        l : ScheduleKey
        l = schedule_shown g.key

        first : ℕ
        first = first_table g.key.table_id

        are : tables_shown l first g.tables ≡ w.tables
        are = ap (λ (a : Answer). tables_in a w.tables) k

        r : ReadsSchedule then g
        r = read_in_every_history s o calls f input pid bytes b g p

        one : (j : ℕ) (y : WholeOf Bytes) → At w.tables j y → Reads (next_in_of then g.row j) then.cells 0 y.sections (Ok false)
        one j y h =
            let x = table_shown l first g.tables j y (subst (λ (m : List (WholeOf Bytes)). At m j y) (sym are) h) in
            subst (λ (m : List Bytes). Reads (next_in_of then g.row j) then.cells 0 m (Ok false)) x.2 (r.tables j x.0 x.1)

        none : (j : ℕ) → length w.tables ≤ j → Reads (next_in_of then g.row j) then.cells 0 [] (Ok false)
        none j h =
            let c : length g.tables ≡ length w.tables = sym (tables_shown_lem l first g.tables) ∙ ap length are in
            r.past j (omega (arith, c, h))
    go (refused r) p k = let z : ◌≡◌ {A = ℕ} 0 1 = cc in absurd (omega arith)
