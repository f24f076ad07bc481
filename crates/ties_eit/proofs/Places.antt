-- Places: the tests of all schedules that the code makes by units, as the rules have them; and what a schedule that goes out shows.
-- Assumes nothing.
use mathlib.Core.Path.{◌≡◌, refl, sym, ap, ◌∙◌}
use mathlib.Core.Bool.{Bool, true, false, cond, ◌&&◌, ◌||◌}
use mathlib.Core.Option.{Option, none, some}
use mathlib.Core.List.{List, [], ◌∷◌, map}
use Prim.Native.Nat.{ℕ, zero, suc, ◌+◌, ◌-◌, ◌*◌, ◌≤◌, ◌<◌, min}
use native.Mathlib.Nat.{add-zero, not-suc-le-zero}
use native.Mathlib.Decide.{ℕ_discrete, dec_lt}
use native.Mathlib.Omega.{arith}
use borrow.Author.Tests.{lt-ltb, le-ltb}
use lib.Dec.{ltb}
use lib.ListN.{length, get_or, take}
use Rattle.laws.proofs.Tests.{and_true, or_false, same_test}
use Rattle.rules_shared.specs.Slots.{is_held, some_held, every_held}
use Rattle.rules_shared.specs.Touch.{some_row, every_row}
use Rattle.rules_shared.specs.Cells.{Settings, Held, Cells, bytes_of, held_whole}
use Rattle.rules_eit.specs.Keys.{ScheduleKey}
use Rattle.rules_eit.specs.Segments.{held_from}
use Rattle.rules_eit.specs.Schedules.{CopyOf, ScheduleOf, table_of, whole, wholes, all_tables}
use Rattle.rules_eit.specs.Cells.{copy_takes, schedule_takes, on_whole}
use Rattle.cells.specs.Cells.{all_whole, some_names}
use Rattle.rows.specs.declared.Entry.{Entry}
use Rattle.rows.specs.Rows.{table_word, last_of, tick_of}
use Rattle.ticks.specs.Order.{rows_seen, Ticked}
use Rattle.ticks.specs.Slots.{held_slots, up_from, cells_seen}
use Rattle.ticks.proofs.Ticks.{order_every, every_order, order_none, none_order}
use Rattle.ticks.proofs.Slots.{held_whole_lem, held_names_lem}
use Rattle.ticks.proofs.Cells.{length_up, up_get}
use Rattle.segments.specs.Segments.{word_of}
use Rattle.units.specs.Units.{first_table, is_present, unit_slots, unit_whole, units_whole, taken_in_units, all_present}
use Rattle.schedules.specs.Schedules.{tables_of, schedules_whole, taken_in_schedules, tables_there}
use Rattle.eit_state.specs.State.{Store}
use Rattle.eit.specs.Store.{table_out, tables_out}
use Rattle.ties_eit.specs.View.{schedule_shown, copy_seen, place_seen, schedule_seen, tables_shown}
use Rattle.ties_eit.proofs.Rows.{sections_kept}

-- ---- lists of places

module _ {A : Type 0} (test : A → Bool) where
  -- one place passes
  abbrev pub held_passes : Option A → Bool
  held_passes none = true
  held_passes (some a) = test a

  abbrev pub held_names : Option A → Bool
  held_names none = false
  held_names (some a) = test a

  every_step : (o : Option A) (os : List (Option A)) → every_held test (o ∷ os) ≡ (held_passes o && every_held test os)
  unfolding every_held
  every_step none os = refl
  every_step (some a) os = refl

  some_step : (o : Option A) (os : List (Option A)) → some_held test (o ∷ os) ≡ (held_names o || some_held test os)
  unfolding some_held
  some_step none os = refl
  some_step (some a) os = refl

  every_places : (f : ℕ → Option A) (n at : ℕ) → ((k : ℕ) → at ≤ k → k < at + n → held_passes (f k) ≡ true) → every_held test (up_from f n at) ≡ true
  unfolding up_from every_held
  every_places f zero at e = refl
  every_places f (suc n) at e =
      every_step (f at) (up_from f n (suc at)) ∙ rw (e at (omega arith) (omega arith)) (every_places f n (suc at) (λ k a b. e k (omega arith) (omega arith)))

  places_every : (f : ℕ → Option A) (n at : ℕ) → every_held test (up_from f n at) ≡ true → (k : ℕ) → at ≤ k → k < at + n → held_passes (f k) ≡ true
  unfolding up_from
  places_every f zero at e k a b = absurd (omega arith)
  places_every f (suc n) at e k a b =
      let p = and_true (held_passes (f at)) (every_held test (up_from f n (suc at))) (sym (every_step (f at) (up_from f n (suc at))) ∙ e) in
      go (ℕ_discrete k at) p.0 (λ h. places_every f n (suc at) p.1 k h (omega arith))
    where
      go : Dec (k ≡ at) → held_passes (f at) ≡ true → (suc at ≤ k → held_passes (f k) ≡ true) → held_passes (f k) ≡ true
      go (yes q) p ih = rw q p
      go (no ne) p ih = ih (omega arith)

  none_places : (f : ℕ → Option A) (n at : ℕ) → ((k : ℕ) → at ≤ k → k < at + n → held_names (f k) ≡ false) → some_held test (up_from f n at) ≡ false
  unfolding up_from some_held
  none_places f zero at e = refl
  none_places f (suc n) at e =
      some_step (f at) (up_from f n (suc at)) ∙ rw (e at (omega arith) (omega arith)) (none_places f n (suc at) (λ k a b. e k (omega arith) (omega arith)))

  places_none : (f : ℕ → Option A) (n at : ℕ) → some_held test (up_from f n at) ≡ false → (k : ℕ) → at ≤ k → k < at + n → held_names (f k) ≡ false
  unfolding up_from
  places_none f zero at e k a b = absurd (omega arith)
  places_none f (suc n) at e k a b =
      let p = or_false (held_names (f at)) (some_held test (up_from f n (suc at))) (sym (some_step (f at) (up_from f n (suc at))) ∙ e) in
      go (ℕ_discrete k at) p.0 (λ h. places_none f n (suc at) p.1 k h (omega arith))
    where
      go : Dec (k ≡ at) → held_names (f at) ≡ false → (suc at ≤ k → held_names (f k) ≡ false) → held_names (f k) ≡ false
      go (yes q) p ih = rw q p
      go (no ne) p ih = ih (omega arith)

-- ---- one place

tables_few : (schedule_heads : List ℕ) (k : ℕ) → tables_of schedule_heads k ≤ 16
unfolding tables_of
tables_few schedule_heads k = omega arith

pub place_in : (schedule_heads units : List ℕ) (k j : ℕ) → j < tables_of schedule_heads k → place_seen schedule_heads units k j ≡ copy_seen units (k * 16 + j)
unfolding place_seen
place_in schedule_heads units k j h = rw (lt-ltb j (tables_of schedule_heads k) h)

pub place_past : (schedule_heads units : List ℕ) (k j : ℕ) → tables_of schedule_heads k ≤ j → place_seen schedule_heads units k j ≡ none
unfolding place_seen
place_past schedule_heads units k j h = rw (le-ltb j (tables_of schedule_heads k) h)

-- ---- 10: every slot of every table

module _ (units : List ℕ) (count size base : ℕ) where
  pub units_get : (n j : ℕ) → units_whole units count size base n ≡ true → j < n → unit_whole units count size (base + j) ≡ true
  unfolding units_whole
  units_get zero j e h = absurd (not-suc-le-zero h)
  units_get (suc n) j e h =
      let a = and_true (unit_whole units count size (base + n)) (units_whole units count size base n) e in
      go (ℕ_discrete j n) a.0 (λ q. units_get n j a.1 q)
    where
      go : Dec (j ≡ n) → unit_whole units count size (base + n) ≡ true → (j < n → unit_whole units count size (base + j) ≡ true) → unit_whole units count size (base + j) ≡ true
      go (yes q) p ih = rw q p
      go (no d) p ih = ih (omega arith)

  pub units_all : (n : ℕ) → ((j : ℕ) → j < n → unit_whole units count size (base + j) ≡ true) → units_whole units count size base n ≡ true
  unfolding units_whole
  units_all zero f = refl
  units_all (suc n) f = rw (f n (omega arith)) (units_all n (λ i h. f i (omega arith)))

module _ (schedule_heads units : List ℕ) (count size : ℕ) where
  pub schedules_get : (n k : ℕ) → schedules_whole schedule_heads units count size n ≡ true → k < n → units_whole units count size (k * 16) (tables_of schedule_heads k) ≡ true
  unfolding schedules_whole
  schedules_get zero k e h = absurd (not-suc-le-zero h)
  schedules_get (suc n) k e h =
      let a = and_true (units_whole units count size (n * 16) (tables_of schedule_heads n)) (schedules_whole schedule_heads units count size n) e in
      go (ℕ_discrete k n) a.0 (λ q. schedules_get n k a.1 q)
    where
      go : Dec (k ≡ n) → units_whole units count size (n * 16) (tables_of schedule_heads n) ≡ true → (k < n → units_whole units count size (k * 16) (tables_of schedule_heads k) ≡ true)
          → units_whole units count size (k * 16) (tables_of schedule_heads k) ≡ true
      go (yes q) p ih = rw q p
      go (no d) p ih = ih (omega arith)

  schedules_all : (n : ℕ) → ((k : ℕ) → k < n → units_whole units count size (k * 16) (tables_of schedule_heads k) ≡ true) → schedules_whole schedule_heads units count size n ≡ true
  unfolding schedules_whole
  schedules_all zero f = refl
  schedules_all (suc n) f = rw (f n (omega arith)) (schedules_all n (λ i h. f i (omega arith)))

module _ (o : Settings) (cells : Cells) where
  abbrev pub copy_whole : CopyOf Held → Bool
  copy_whole c = every_held (held_whole o cells) c.slots

  pub copy_whole_lem : (units : List ℕ) (u : ℕ) → held_passes copy_whole (copy_seen units u) ≡ unit_whole units (length cells) o.cell_size u
  unfolding copy_seen unit_whole
  copy_whole_lem units u = go (is_present units u)
    where
      go : (b : Bool) → held_passes copy_whole (cond b (some (record { version = word_of units u 1; last = word_of units u 2; slots = held_slots (unit_slots units u) })) none)
          ≡ cond b (all_whole (length cells) o.cell_size (unit_slots units u)) true
      go true = held_whole_lem o cells (unit_slots units u)
      go false = refl

  -- every place of a schedule whose tables are whole
  pub place_whole : (schedule_heads units : List ℕ) (k : ℕ) → units_whole units (length cells) o.cell_size (k * 16) (tables_of schedule_heads k) ≡ true → (j : ℕ) → held_passes copy_whole (place_seen schedule_heads units k j) ≡ true
  place_whole schedule_heads units k e j = go (dec_lt j (tables_of schedule_heads k))
    where
      go : Dec (j < tables_of schedule_heads k) → held_passes copy_whole (place_seen schedule_heads units k j) ≡ true
      go (yes h) = rw (place_in schedule_heads units k j h) (copy_whole_lem units (k * 16 + j) ∙ units_get units (length cells) o.cell_size (k * 16) (tables_of schedule_heads k) j e h)
      go (no h) = rw (place_past schedule_heads units k j (omega arith))

  -- the rules' test of every schedule is the code's test of every table that a schedule in use may have
  pub schedules_whole_lem : (schedule_heads units : List ℕ) (used clock : ℕ) → Ticked (tick_of schedule_heads) used clock
      → every_row (λ (g : ScheduleOf Held). every_held copy_whole g.copies) (rows_seen schedule_shown schedule_heads used clock (schedule_seen schedule_heads units)) ≡ schedules_whole schedule_heads units (length cells) o.cell_size used
  unfolding rows_seen schedule_seen
  schedules_whole_lem schedule_heads units used clock w =
      same_test _ (schedules_whole schedule_heads units (length cells) o.cell_size used)
      (λ t. schedules_all schedule_heads units (length cells) o.cell_size used (λ k h. units_all units (length cells) o.cell_size (k * 16) (tables_of schedule_heads k) (λ j m.
      let few = tables_few schedule_heads k in
      sym (copy_whole_lem units (k * 16 + j)) ∙ ap (held_passes copy_whole) (sym (place_in schedule_heads units k j m))
      ∙ places_every copy_whole (place_seen schedule_heads units k) 16 0 (every_order (tick_of schedule_heads) used clock w _ (λ (g : ScheduleOf Held). every_held copy_whole g.copies) k t h) j (omega arith) (omega arith))))
      (λ t. order_every (tick_of schedule_heads) used clock w _ (λ (g : ScheduleOf Held). every_held copy_whole g.copies) (λ k h.
      every_places copy_whole (place_seen schedule_heads units k) 16 0 (λ j a b. place_whole schedule_heads units k (schedules_get schedule_heads units (length cells) o.cell_size used k t h) j)))

-- ---- the cells that schedules name

module _ (units : List ℕ) (c : ℕ) where
  unit_names_lem : (u : ℕ) → held_names (copy_takes c) (copy_seen units u) ≡ (is_present units u && some_names c (unit_slots units u))
  unfolding copy_seen copy_takes
  unit_names_lem u = go (is_present units u)
    where
      go : (b : Bool) → held_names (copy_takes c) (cond b (some (record { version = word_of units u 1; last = word_of units u 2; slots = held_slots (unit_slots units u) })) none)
          ≡ (b && some_names c (unit_slots units u))
      go true = held_names_lem c (unit_slots units u)
      go false = refl

  abbrev unit_names : ℕ → Bool
  unit_names u = is_present units u && some_names c (unit_slots units u)

  taken_get : (base n j : ℕ) → taken_in_units units base n c ≡ false → j < n → unit_names (base + j) ≡ false
  unfolding taken_in_units
  taken_get base zero j e h = absurd (not-suc-le-zero h)
  taken_get base (suc n) j e h =
      let a = or_false (unit_names (base + n)) (taken_in_units units base n c) e in
      go (ℕ_discrete j n) a.0 (λ q. taken_get base n j a.1 q)
    where
      go : Dec (j ≡ n) → unit_names (base + n) ≡ false → (j < n → unit_names (base + j) ≡ false) → unit_names (base + j) ≡ false
      go (yes q) p ih = rw q p
      go (no d) p ih = ih (omega arith)

  taken_all : (base n : ℕ) → ((j : ℕ) → j < n → unit_names (base + j) ≡ false) → taken_in_units units base n c ≡ false
  unfolding taken_in_units
  taken_all base zero f = refl
  taken_all base (suc n) f = rw (f n (omega arith)) (taken_all base n (λ i h. f i (omega arith)))

  module _ (schedule_heads : List ℕ) where
    named_get : (n k : ℕ) → taken_in_schedules schedule_heads units n c ≡ false → k < n → taken_in_units units (k * 16) (tables_of schedule_heads k) c ≡ false
    unfolding taken_in_schedules
    named_get zero k e h = absurd (not-suc-le-zero h)
    named_get (suc n) k e h =
        let a = or_false (taken_in_units units (n * 16) (tables_of schedule_heads n) c) (taken_in_schedules schedule_heads units n c) e in
        go (ℕ_discrete k n) a.0 (λ q. named_get n k a.1 q)
      where
        go : Dec (k ≡ n) → taken_in_units units (n * 16) (tables_of schedule_heads n) c ≡ false → (k < n → taken_in_units units (k * 16) (tables_of schedule_heads k) c ≡ false)
            → taken_in_units units (k * 16) (tables_of schedule_heads k) c ≡ false
        go (yes q) p ih = rw q p
        go (no d) p ih = ih (omega arith)

    named_all : (n : ℕ) → ((k : ℕ) → k < n → taken_in_units units (k * 16) (tables_of schedule_heads k) c ≡ false) → taken_in_schedules schedule_heads units n c ≡ false
    unfolding taken_in_schedules
    named_all zero f = refl
    named_all (suc n) f = rw (f n (omega arith)) (named_all n (λ i h. f i (omega arith)))

    place_free : (k : ℕ) → taken_in_units units (k * 16) (tables_of schedule_heads k) c ≡ false → (j : ℕ) → held_names (copy_takes c) (place_seen schedule_heads units k j) ≡ false
    place_free k e j = go (dec_lt j (tables_of schedule_heads k))
      where
        go : Dec (j < tables_of schedule_heads k) → held_names (copy_takes c) (place_seen schedule_heads units k j) ≡ false
        go (yes h) = rw (place_in schedule_heads units k j h) (unit_names_lem (k * 16 + j) ∙ taken_get (k * 16) (tables_of schedule_heads k) j e h)
        go (no h) = rw (place_past schedule_heads units k j (omega arith))

same_fails : (p q : Bool) → (p ≡ false → q ≡ false) → (q ≡ false → p ≡ false) → p ≡ q
same_fails false q f g = sym (f refl)
same_fails true false f g = g refl
same_fails true true f g = refl

-- "no slot or schedule copy of a row in use names it"
pub schedules_taken : (schedule_heads units : List ℕ) (used clock c : ℕ) → Ticked (tick_of schedule_heads) used clock
    → some_row (schedule_takes c) (rows_seen schedule_shown schedule_heads used clock (schedule_seen schedule_heads units)) ≡ taken_in_schedules schedule_heads units used c
unfolding rows_seen schedule_seen schedule_takes
schedules_taken schedule_heads units used clock c w =
    same_fails _ (taken_in_schedules schedule_heads units used c)
    (λ t. named_all units c schedule_heads used (λ k h. taken_all units c (k * 16) (tables_of schedule_heads k) (λ j m.
    let few = tables_few schedule_heads k in
    sym (unit_names_lem units c (k * 16 + j)) ∙ ap (held_names (copy_takes c)) (sym (place_in schedule_heads units k j m))
    ∙ places_none (copy_takes c) (place_seen schedule_heads units k) 16 0 (none_order (tick_of schedule_heads) used clock w _ (schedule_takes c) k t h) j (omega arith) (omega arith))))
    (λ t. order_none (tick_of schedule_heads) used clock w _ (schedule_takes c) (λ k h.
    none_places (copy_takes c) (place_seen schedule_heads units k) 16 0 (λ j a b. place_free units c schedule_heads k (named_get units c schedule_heads used k t h) j)))

-- table by table
pub named_units : (schedule_heads units : List ℕ) (used c : ℕ) → taken_in_schedules schedule_heads units used c ≡ false
    → (k j : ℕ) → k < used → j < tables_of schedule_heads k → is_present units (k * 16 + j) ≡ true → some_names c (unit_slots units (k * 16 + j)) ≡ false
named_units schedule_heads units used c h k j l m p = rw p at (taken_get units c (k * 16) (tables_of schedule_heads k) j (named_get units c schedule_heads used k h l) m)

pub units_named : (schedule_heads units : List ℕ) (used c : ℕ)
    → ((k j : ℕ) → k < used → j < tables_of schedule_heads k → is_present units (k * 16 + j) ≡ true → some_names c (unit_slots units (k * 16 + j)) ≡ false) → taken_in_schedules schedule_heads units used c ≡ false
units_named schedule_heads units used c f =
    named_all units c schedule_heads used (λ k l. taken_all units c (k * 16) (tables_of schedule_heads k) (λ j m. go (is_present units (k * 16 + j)) (some_names c (unit_slots units (k * 16 + j))) (f k j l m)))
  where
    go : (a b : Bool) → (a ≡ true → b ≡ false) → (a && b) ≡ false
    go true b f = f refl
    go false b f = refl

-- ---- all tables there

held_last : {A : Type 0} (slots : List (Option A)) (a n : ℕ) → held_from slots a (suc n) ≡ (is_held (get_or slots (a + n) none) && held_from slots a n)
unfolding held_from
held_last slots a zero = let z : a + 0 ≡ a = add-zero a in rw z
held_last slots a (suc n) =
    let z : suc a + n ≡ a + suc n = omega arith in
    ap (λ (b : Bool). is_held (get_or slots a none) && b) (held_last slots (suc a) n ∙ rw z)
    ∙ swap (is_held (get_or slots a none)) (is_held (get_or slots (a + suc n) none)) (held_from slots (suc a) n)
  where
    swap : (a b c : Bool) → (a && (b && c)) ≡ (b && (a && c))
    swap true true c = refl
    swap true false c = refl
    swap false true c = refl
    swap false false c = refl

held_none : {A : Type 0} (slots : List (Option A)) (a : ℕ) → held_from slots a 0 ≡ true
unfolding held_from
held_none slots a = refl

present_is : (units : List ℕ) (u : ℕ) → is_held (copy_seen units u) ≡ is_present units u
unfolding is_held copy_seen
present_is units u = go (is_present units u)
  where
    go : (b : Bool) → is_held {A = CopyOf Held} (cond b (some (record { version = word_of units u 1; last = word_of units u 2; slots = held_slots (unit_slots units u) })) none) ≡ b
    go true = refl
    go false = refl

module _ (schedule_heads units : List ℕ) (row : ℕ) where
  abbrev places : List (Option (CopyOf Held))
  places = up_from (place_seen schedule_heads units row) 16 0

  place_at_lem : (j : ℕ) → j < tables_of schedule_heads row → get_or places j none ≡ copy_seen units (row * 16 + j)
  place_at_lem j h =
      let few = tables_few schedule_heads row in
      let z : 0 + j ≡ j = omega arith in
      up_get (place_seen schedule_heads units row) 16 0 j none (omega arith) ∙ ap (place_seen schedule_heads units row) z ∙ place_in schedule_heads units row j h

  all_there : (n : ℕ) → n ≤ tables_of schedule_heads row → held_from places 0 n ≡ all_present units (row * 16) n
  unfolding all_present
  all_there zero h = held_none places 0
  all_there (suc n) h =
      let z : 0 + n ≡ n = omega arith in
      held_last places 0 n ∙ rw (z, place_at_lem n (omega arith), present_is units (row * 16 + n), all_there n (omega arith))

  none_past : (d : ℕ) → 16 ≤ d → held_from places 0 (suc d) ≡ false
  unfolding is_held
  none_past d h =
      let z : 0 + d ≡ d = omega arith in
      let l = length_up (place_seen schedule_heads units row) 16 0 in
      held_last places 0 d ∙ rw (z, past places d (omega arith))
    where
      past : {A : Type 0} (os : List (Option A)) (k : ℕ) → length os ≤ k → get_or os k none ≡ none
      past [] k l = refl
      past (o ∷ os) zero l = absurd (not-suc-le-zero l)
      past (o ∷ os) (suc k) l = past os k (omega arith)

-- "A schedule with all tables from 0x50 or 0x60 to last_table_id": never where last_table_id is past the kind
pub tables_there_lem : (schedule_heads units : List ℕ) (row : ℕ) (e : Entry) → last_of schedule_heads row ≡ e.last → table_word schedule_heads row ≡ e.key.table_id
    → all_tables (first_table e.key.table_id) (schedule_seen schedule_heads units row) ≡ tables_there units row e
unfolding all_tables schedule_seen tables_there tables_of
tables_there_lem schedule_heads units row e p f = rw p (go (dec_lt (e.last - first_table e.key.table_id) 16))
  where
    d : ℕ
    d = e.last - first_table e.key.table_id

    n : tables_of schedule_heads row ≡ min d 15 + 1
    n = rw (p, f)

    go : Dec (d < 16) → held_from (up_from (place_seen schedule_heads units row) 16 0) 0 (suc d) ≡ (ltb d 16 && all_present units (row * 16) (min d 15 + 1))
    go (yes h) = let m = n in let z : min d 15 + 1 ≡ suc d = omega arith in rw (lt-ltb d 16 h, z) (all_there schedule_heads units row (suc d) (omega arith))
    go (no h) = rw (le-ltb d 16 (omega arith)) (none_past schedule_heads units row d (omega arith))

-- ---- a schedule that goes out

pub present_get : (units : List ℕ) (base n j : ℕ) → all_present units base n ≡ true → j < n → is_present units (base + j) ≡ true
unfolding all_present
present_get units base zero j e h = absurd (not-suc-le-zero h)
present_get units base (suc n) j e h =
    let a = and_true (is_present units (base + n)) (all_present units base n) e in
    go (ℕ_discrete j n) a.0 (λ q. present_get units base n j a.1 q)
  where
    go : Dec (j ≡ n) → is_present units (base + n) ≡ true → (j < n → is_present units (base + j) ≡ true) → is_present units (base + j) ≡ true
    go (yes q) p ih = rw q p
    go (no d) p ih = ih (omega arith)

-- what a unit that is present shows
abbrev pub copy_in : List ℕ → ℕ → CopyOf Held
copy_in units u = record { version = word_of units u 1; last = word_of units u 2; slots = held_slots (unit_slots units u) }

pub copy_there : (units : List ℕ) (u : ℕ) → is_present units u ≡ true → copy_seen units u ≡ some (copy_in units u)
unfolding copy_seen
copy_there units u e = rw e

-- its tables in table order, each with all filled slots; place at + j shows unit u + j
pub tables_out_lem : (s : Store) (l : ScheduleKey) (f : ℕ → Option (CopyOf Held)) (n m at u t : ℕ) → n ≤ m → ((j : ℕ) → j < n → f (at + j) ≡ some (copy_in s.units (u + j)))
    → ((j : ℕ) → j < n → all_whole s.eit.sets.count s.eit.sets.size (unit_slots s.units (u + j)) ≡ true)
    → map (on_whole (bytes_of (cells_seen s.cells s.eit.sets.size s.eit.sets.count))) (wholes l t (take n (up_from f m at))) ≡ tables_shown l t (tables_out s u n)
unfolding wholes tables_out tables_shown table_out up_from on_whole whole
tables_out_lem s l f zero m at u t h e o = refl
tables_out_lem s l f (suc n) zero at u t h e o = absurd (not-suc-le-zero h)
tables_out_lem s l f (suc n) (suc m) at u t h e o =
    let y : at + 0 ≡ at = add-zero at in
    let z : u + 0 ≡ u = add-zero u in
    let p : f at ≡ some (copy_in s.units u) = ap f (sym y) ∙ e 0 (omega arith) ∙ ap (λ (v : ℕ). some (copy_in s.units v)) z in
    let w : all_whole s.eit.sets.count s.eit.sets.size (unit_slots s.units u) ≡ true = rw z at (o 0 (omega arith)) in
    let q = sections_kept s.cells s.eit.sets.size s.eit.sets.count (unit_slots s.units u) w in
    let ih =
    tables_out_lem s l f n m (suc at) (suc u) (suc t) (omega arith)
    (λ j k. let a : suc at + j ≡ at + suc j = omega arith in let b : suc u + j ≡ u + suc j = omega arith in rw (a, b) (e (suc j) (omega arith)))
    (λ j k. let b : suc u + j ≡ u + suc j = omega arith in rw b (o (suc j) (omega arith))) in
    rw p (λ i. record { key = table_of l t; version = word_of s.units u 1; last = word_of s.units u 2; sections = q i } ∷ ih i)
