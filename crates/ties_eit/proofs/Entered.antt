-- A complete set goes into its schedule: what the store does is what the rules do.
-- Assumes nothing.
use mathlib.Core.Path.{◌≡◌, refl, sym, ap, ◌∙◌}
use mathlib.Core.Logic.{◌≢◌, ◌⊎◌, inl, inr}
use mathlib.Core.Bool.{Bool, true, false, cond, ◌&&◌}
use mathlib.Core.Option.{Option, none, some}
use mathlib.Core.List.{List, map}
use Prim.Native.Nat.{ℕ, zero, suc, ◌+◌, ◌-◌, ◌*◌, ◌%◌, ◌≤◌, ◌<◌}
use native.Mathlib.Decide.{ℕ_discrete, dec_le, dec_lt}
use native.Mathlib.Omega.{arith}
use borrow.Author.Tests.{eq-eqb, ne_eqb, eqb-true, eqb-false, ltb-true, ltb-false, le-leb}
use lib.Dec.{eqb, ltb, leb}
use lib.ListN.{length, get_or, take, set, replicate, length-set, length-replicate}
use lib.Seq.{get_or-set_same, get_or-set_other, ext_get_or}
use Rattle.laws.proofs.Tests.{and_true, and_none}
use Rattle.laws.proofs.Lists.{get_d_none}
use Rattle.rules_shared.specs.Touch.{Rows, TouchOrder, find, aside, newest, touch}
use Rattle.rules_shared.specs.Cells.{Held, bytes_of}
use Rattle.rules_eit.specs.Keys.{Kind, kind_of, kind_number, ScheduleKey, SetKey, same_schedule, same_set}
use Rattle.rules_eit.specs.Segments.{SetOf}
use Rattle.rules_eit.specs.Schedules.{CopyOf, ScheduleOf, table_of, copy_of, copied, refill, begin, enter, all_tables, wholes, guide}
use Rattle.rules_eit.specs.Rules.{schedule, gives, told, schedule_touched}
use Rattle.rules_eit.specs.Cells.{Turn, on_whole, on_guide, on_answer, shows}
use Rattle.rules_eit.proofs.Keys.{same_schedule_true, same_set_true}
use Rattle.rules_eit.proofs.Schedules.{refill_inside, refill_past}
use Rattle.cells.specs.Cells.{all_whole}
use Rattle.rows.specs.declared.Key.{Key}
use Rattle.rows.specs.declared.Entry.{Entry}
use Rattle.rows.specs.declared.Room.{Room}
use Rattle.rows.specs.Rows.{table_word, word, key_at, row_of, touched, kept_heads, room_in, room_renewed, room_new, row_slots, rows_whole, oldest_of, last_of}
use Rattle.rows.proofs.Words.{OfKey, of_key, length_kept, kept_row, kept_fresh, kept_known, length_touched, touched_not}
use Rattle.rows.proofs.Whole.{rows_get}
use Rattle.ticks.specs.Order.{order_seen, Goes, Stands, Touched}
use Rattle.ticks.specs.Slots.{up_from}
use Rattle.ticks.proofs.Words.{key_same, ready_touched, kept_fresh_key}
use Rattle.ticks.proofs.Touch.{row_has_key, no_row_has_key, goes_known, goes_new, goes_row, seen_later, finds_known, finds_none, touched_seen, touched_stands}
use Rattle.ticks.proofs.Slots.{held_whole_lem}
use Rattle.ticks.proofs.Cells.{cells_length, length_up, up_get, up_cong}
use Rattle.segments.specs.Segments.{set_complete}
use Rattle.units.specs.Units.{first_table, is_present, unit_slots, unit_whole, units_whole, without_units, with_set, with_table, refilled, all_present}
use Rattle.schedules.specs.Schedules.{tables_of, schedules_whole, room_known, room_of, scheduled_heads, table_count, ready_units, scheduled_units, tables_there}
use Rattle.schedules.specs.declared.ScheduleRoom.{ScheduleRoom}
use Rattle.store.specs.Store as sets
use Rattle.eit_state.specs.declared.Eit.{Eit}
use Rattle.arrivals.specs.declared.Arrival.{Arrival}
use Rattle.eit_state.specs.State.{Store, store, rows_of, settings_fit, schedules_fit, with_schedules}
use Rattle.eit_enter.specs.Entering.{Settled, schedule_entry, entered_answer, entered_in, entered}
use Rattle.eit_carry.specs.Carried.{stepped}
use Rattle.eit.specs.Store.{After, told_step, answer_of, schedule_out, tables_out, a_schedule}
use Rattle.ties_eit.specs.View.{key_shown, schedule_shown, key_words, schedule_words, row_seen, copy_seen, place_seen, schedule_seen, seen, answer_told, tables_shown, HeadFits, Reached}
use Rattle.ties_eit.proofs.Keys.{schedule_self, set_self, HasPid, Bit, key_reads, schedule_reads, schedule_of_lem, number_kind, InKind}
use Rattle.ties_eit.proofs.Rows.{complete_is}
use Rattle.ties_eit.proofs.Units.{set_length, set_other, set_own, without_length, without_other, without_own, copy_for, refill_length, refill_other, refill_own}
use Rattle.ties_eit.proofs.Places.{held_passes, copy_whole, copy_whole_lem, place_in, place_past, place_whole, schedules_get, tables_there_lem, present_get, copy_there, tables_out_lem}

-- what settling a row tells and leaves
abbrev pub after_settled : Settled → (cells : List ℕ) → After
after_settled x cells = told_step (stepped x cells)

-- what a call left is what the rules' call left, and the store is one that a history reaches
pub record Tied (l : After) (t : Turn) : Type 0 where
  pub told : answer_told l.told ≡ t.answer
  pub shown : seen l.store ≡ t.store
  pub reached : Reached l.store

-- no more rows than the limit, and at most one eviction more
pub goes_room : {heads : List ℕ} {limit used evictions : ℕ} {key : Key} {i used' evictions' : ℕ} → Goes heads limit used evictions key i used' evictions' → used ≤ limit → used' ≤ limit
goes_room (Rattle.ticks.specs.Order.known i h e) l = l
goes_room (Rattle.ticks.specs.Order.added f h) l = omega arith
goes_room (Rattle.ticks.specs.Order.evicted f p h) l = l

pub goes_count : {heads : List ℕ} {limit used evictions : ℕ} {key : Key} {i used' evictions' : ℕ} → Goes heads limit used evictions key i used' evictions' → evictions' ≤ evictions + 1
goes_count (Rattle.ticks.specs.Order.known i h e) = omega arith
goes_count (Rattle.ticks.specs.Order.added f h) = omega arith
goes_count (Rattle.ticks.specs.Order.evicted f p h) = omega arith

-- the settings fit whatever number of schedules within the limit is in use
pub fits_schedules : (e : Eit) (h l c t u n v : ℕ) → settings_fit e h l c t u ≡ true → n ≤ e.sets.limit → settings_fit (with_schedules e n v) h l c t u ≡ true
fits_schedules e h l c t u n v q k =
    let a = and_true (sets.settings_fit e.sets h l c) (schedules_fit e t u) q in
    let b = and_true (leb (e.sets.limit * 12) t && leb (e.sets.limit * 4608) u) (leb e.schedules e.sets.limit) a.1 in
    rw (a.0, b.0, le-leb n e.sets.limit k)

-- what is known of a set that goes into its schedule: it stands in row i of a store L, complete, and its section's last_table_id is no smaller than its table_id.
-- The clock has risen from `was`, and no schedule was touched since
pub record Entering (L : Store) (a : Arrival) (kind : Kind) (first i : ℕ) : Type 0 where
  pub in_kind : InKind kind first a.entry.key.table_id
  pub table : kind_of a.entry.key.table_id ≡ some kind
  pub number : a.kind ≡ kind_number kind
  pub pid : HasPid a.entry.key
  pub bit : Bit a.entry.key.current_next
  pub range : a.entry.key.table_id ≤ a.tables
  pub row : i < L.eit.sets.used
  pub limit : 0 < L.eit.sets.limit
  pub heads_long : L.eit.sets.used * 12 ≤ length L.heads
  pub slots_long : L.eit.sets.used * 288 ≤ length L.slots
  pub schedule_heads_long : L.eit.sets.limit * 12 ≤ length L.schedule_heads
  pub units_long : L.eit.sets.limit * 4608 ≤ length L.units
  pub few : L.eit.schedules ≤ L.eit.sets.limit
  pub counts : L.eit.schedule_evictions < 18446744073709551615
  pub rows_ok : rows_whole L.heads L.slots L.eit.sets.count L.eit.sets.size L.eit.sets.used ≡ true
  pub units_ok : schedules_whole L.schedule_heads L.units L.eit.sets.count L.eit.sets.size L.eit.schedules ≡ true
  pub was : ℕ
  pub rise : was < L.eit.sets.clock
  pub stood : Stands schedule_shown schedule_words L.schedule_heads L.eit.schedules was

-- the key of the schedule, as its head has it
abbrev pub schedule_key_of : Arrival → Key
schedule_key_of a = with_table a.entry.key a.kind

-- how many tables there are from the first of the kind to the section's last_table_id
abbrev pub count_of : Arrival → ℕ
count_of a = table_count a.kind a.tables

-- the units with the schedule made ready: as they were, emptied, or refilled
abbrev pub ready_of : Store → Arrival → ScheduleRoom → List ℕ
ready_of L a b = ready_units L.heads L.slots L.eit.sets.used (schedule_entry a) a.entry.key.table_id b L.units

-- the room b is where the rules' schedule is, and `old` is what they begin with there; only the arriving table's own place is left open
pub record Roomed (L : Store) (a : Arrival) (first : ℕ) (others : Rows SetKey (SetOf Held)) (b : ScheduleRoom) (old : ScheduleOf Held) : Type 0 where
  pub goes : Goes L.schedule_heads L.eit.sets.limit L.eit.schedules L.eit.schedule_evictions (schedule_key_of a) b.room.row b.room.used b.room.evictions
  pub own : key_at (kept_heads b.room (schedule_entry a) L.schedule_heads) b.room.row ≡ schedule_key_of a
  pub last : last_of (kept_heads b.room (schedule_entry a) L.schedule_heads) b.room.row ≡ a.tables
  pub begun : begin others (key_shown a.entry.key).schedule first a.tables (find same_schedule (key_shown a.entry.key).schedule (seen L).eit.schedules.rows) ≡ old
  pub old_last : old.last_table ≡ a.tables
  pub sixteen : length old.copies ≡ 16
  pub places : (j : ℕ) → j < count_of a → first + j ≢ a.entry.key.table_id → copy_seen (ready_of L a b) (b.room.row * 16 + j) ≡ get_or old.copies j none
  pub past : (j : ℕ) → j < 16 → count_of a ≤ j → get_or old.copies j none ≡ none
  pub beside : (u : ℕ) → (u < b.room.row * 16) ⊎ (b.room.row * 16 + 16 ≤ u) → copy_seen (ready_of L a b) u ≡ copy_seen L.units u
  pub ready_length : length (ready_of L a b) ≡ length L.units
  pub ok : (j : ℕ) → j < 16 → first + j ≢ a.entry.key.table_id → held_passes (copy_whole (seen L).settings (seen L).cells) (get_or old.copies j none) ≡ true

pub new_fresh : (heads : List ℕ) (limit used evictions : ℕ) → (room_new heads limit used evictions).fresh ≡ true
unfolding room_new
new_fresh heads limit used evictions = go (ltb used limit)
  where
    go : (b : Bool) → (cond b (room_renewed (used + 1) evictions used) (room_renewed used (evictions + 1) (oldest_of heads used))).fresh ≡ true
    go true = refl
    go false = refl

-- place j of the schedule in row k
place_get : (schedule_heads units : List ℕ) (k j : ℕ) → j < 16 → get_or (up_from (place_seen schedule_heads units k) 16 0) j none ≡ place_seen schedule_heads units k j
place_get schedule_heads units k j h = let z : 0 + j ≡ j = omega arith in up_get (place_seen schedule_heads units k) 16 0 j none h ∙ ap (place_seen schedule_heads units k) z

module _ (L : Store) (z : Reached L) (a : Arrival) (kind : Kind) (first i : ℕ) (h : Entering L a kind first i) (others : Rows SetKey (SetOf Held))
    (beside : (k : SetKey) → same_set k (key_shown a.entry.key) ≡ false → find same_set k others ≡ find same_set k (seen L).eit.sets.rows) where
  abbrev key : Key
  key = a.entry.key

  abbrev table : ℕ
  table = key.table_id

  abbrev l : ScheduleKey
  l = (key_shown key).schedule

  -- the schedule's key, as its head has it
  abbrev skey : Key
  skey = schedule_key_of a

  abbrev entry : Entry
  entry = schedule_entry a

  abbrev schedule_heads : List ℕ
  schedule_heads = L.schedule_heads

  abbrev held : ℕ
  held = L.eit.schedules

  abbrev limit : ℕ
  limit = L.eit.sets.limit

  abbrev evictions : ℕ
  evictions = L.eit.schedule_evictions

  abbrev clock : ℕ
  clock = L.eit.sets.clock

  skey_shown : schedule_shown skey ≡ l
  skey_shown = rw h.number (schedule_of_lem key kind h.table)

  skey_proper : schedule_words (schedule_shown skey) ≡ skey
  skey_proper = schedule_reads skey h.pid h.bit (rw h.number (ap kind_number (number_kind kind)))

  rows_fit : (r : ℕ) → r < L.eit.sets.used → HeadFits L.heads r
  rows_fit = z.heads_fit

  -- ---- what the rules refill a place with

  place_key : (j : ℕ) → j < 16 → key_shown (with_table key (first + j)) ≡ table_of l (first + j)
  unfolding key_shown
  place_key j k = rw (h.in_kind.others j k, h.table)

  table_differs : (t : ℕ) → t ≢ table → same_set (table_of l t) (key_shown key) ≡ false
  unfolding same_set key_shown
  table_differs t ne = rw (ne_eqb t table ne) (and_none (same_schedule l l))

  abbrev row_for : ℕ → ℕ
  row_for j = row_of L.heads (with_table key (first + j)) L.eit.sets.used

  copied_none : copied {A = Held} none ≡ none
  unfolding copied
  copied_none = refl

  copied_some : (r : ℕ) → r < L.eit.sets.used → copied (some (row_seen L.heads L.slots r)) ≡ cond (set_complete L.heads L.slots r) (some (copy_of (row_seen L.heads L.slots r))) none
  unfolding copied
  copied_some r k = let s = h.slots_long in rw (complete_is L.heads L.slots r (omega arith) (rows_fit r k).last)

  place_copy : (j : ℕ) → j < 16 → first + j ≢ table
      → copied (find same_set (table_of l (first + j)) others) ≡ cond (ltb (row_for j) L.eit.sets.used && set_complete L.heads L.slots (row_for j)) (some (copy_of (row_seen L.heads L.slots (row_for j)))) none
  unfolding seen
  place_copy j k ne =
      ap copied (beside (table_of l (first + j)) (table_differs (first + j) ne) ∙ ap (λ (q : SetKey). find same_set q (seen L).eit.sets.rows) (sym (place_key j k)))
      ∙ go (ltb (row_for j) L.eit.sets.used) refl
    where
      key' : Key
      key' = with_table key (first + j)

      go : (b : Bool) → ltb (row_for j) L.eit.sets.used ≡ b
          → copied (find same_set (key_shown key') (seen L).eit.sets.rows) ≡ cond (b && set_complete L.heads L.slots (row_for j)) (some (copy_of (row_seen L.heads L.slots (row_for j)))) none
      go true q =
          let m = ltb-true (row_for j) L.eit.sets.used q in
          ap copied (finds_known key_shown key_words same_set same_set_true set_self L.heads limit L.eit.sets.used clock (suc clock) L.eit.sets.evictions key' z.sets (omega arith) (key_reads key' h.pid h.bit) (row_seen L.heads L.slots)
          (row_for j) m (row_has_key L.heads key' L.eit.sets.used m)) ∙ copied_some (row_for j) m
      go false q =
          let m = ltb-false (row_for j) L.eit.sets.used q in
          ap copied (finds_none key_shown key_words same_set same_set_true set_self L.heads limit L.eit.sets.used clock (suc clock) L.eit.sets.evictions key' z.sets (omega arith) (key_reads key' h.pid h.bit) (row_seen L.heads L.slots)
          (no_row_has_key L.heads key' L.eit.sets.used m)) ∙ copied_none

  -- the first table_id of the kind
  first_is : first_table a.kind ≡ first
  first_is = ap first_table h.number ∙ h.in_kind.by_kind

  copy_for_lem : (j : ℕ) → j < 16 → first + j ≢ table → copy_for L.heads L.slots L.eit.sets.used skey table j ≡ copied (find same_set (table_of l (first + j)) others)
  unfolding copy_for
  copy_for_lem j k ne = rw (first_is, ne_eqb (first + j) table ne) (sym (place_copy j k ne))

  -- ---- which schedule

  abbrev ok : Option (CopyOf Held) → Bool
  ok = held_passes (copy_whole (seen L).settings (seen L).cells)

  -- a schedule in use is whole
  schedule_ok : (k : ℕ) → k < held → (j : ℕ) → ok (place_seen schedule_heads L.units k j) ≡ true
  unfolding seen
  schedule_ok k m =
      place_whole (seen L).settings (seen L).cells schedule_heads L.units k
      (ap (λ (n : ℕ). units_whole L.units n L.eit.sets.size (k * 16) (tables_of schedule_heads k)) (cells_length L.cells L.eit.sets.size L.eit.sets.count)
      ∙ schedules_get schedule_heads L.units L.eit.sets.count L.eit.sets.size held k h.units_ok m)

  -- a set's copy is whole
  set_ok : (r : ℕ) → r < L.eit.sets.used → ok (some (copy_of (row_seen L.heads L.slots r))) ≡ true
  unfolding seen copy_of row_seen
  set_ok r k =
      held_whole_lem (seen L).settings (seen L).cells (row_slots L.heads L.slots r)
      ∙ ap (λ (m : ℕ). all_whole m L.eit.sets.size (row_slots L.heads L.slots r)) (cells_length L.cells L.eit.sets.size L.eit.sets.count)
      ∙ rows_get L.heads L.slots L.eit.sets.count L.eit.sets.size L.eit.sets.used r h.rows_ok k

  copied_ok : (j : ℕ) → j < 16 → first + j ≢ table → ok (copied (find same_set (table_of l (first + j)) others)) ≡ true
  copied_ok j k ne = ap ok (place_copy j k ne) ∙ go (ltb (row_for j) L.eit.sets.used) (set_complete L.heads L.slots (row_for j)) refl
    where
      go : (b c : Bool) → ltb (row_for j) L.eit.sets.used ≡ b → ok (cond (b && c) (some (copy_of (row_seen L.heads L.slots (row_for j)))) none) ≡ true
      go true true q = set_ok (row_for j) (ltb-true (row_for j) L.eit.sets.used q)
      go true false q = refl
      go false c q = refl

  abbrev there : ℕ
  there = row_of schedule_heads skey held

  abbrev found : Option (ScheduleOf Held)
  found = find same_schedule l (seen L).eit.schedules.rows

  found_known : there < held → found ≡ some (schedule_seen schedule_heads L.units there)
  unfolding seen
  found_known k =
      ap (λ (q : ScheduleKey). find same_schedule q (seen L).eit.schedules.rows) (sym skey_shown)
      ∙ finds_known schedule_shown schedule_words same_schedule same_schedule_true schedule_self schedule_heads limit held clock (suc clock) evictions skey z.schedules (omega arith) skey_proper (schedule_seen schedule_heads L.units) there k (row_has_key schedule_heads skey held k)

  found_none : held ≤ there → found ≡ none
  unfolding seen
  found_none k =
      ap (λ (q : ScheduleKey). find same_schedule q (seen L).eit.schedules.rows) (sym skey_shown)
      ∙ finds_none schedule_shown schedule_words same_schedule same_schedule_true schedule_self schedule_heads limit held clock (suc clock) evictions skey z.schedules (omega arith) skey_proper (schedule_seen schedule_heads L.units) (no_row_has_key schedule_heads skey held k)

  -- a schedule's tables, by its head
  tables_are : (schedule_heads' : List ℕ) (k : ℕ) → last_of schedule_heads' k ≡ a.tables → table_word schedule_heads' k ≡ a.kind → tables_of schedule_heads' k ≡ count_of a
  unfolding tables_of
  tables_are schedule_heads' k e f = rw (e, f)

  places_few : count_of a ≤ 16
  places_few = omega arith

  -- the schedule is there, with the same last_table_id
  same_room : there < held → last_of schedule_heads there ≡ a.tables → Roomed L a first others (record { room = room_in held evictions there; refill = false }) (schedule_seen schedule_heads L.units there)
  unfolding begin schedule_seen ready_units
  same_room k e =
      let t = h.schedule_heads_long in
      let f = h.few in
      let r : Room = room_in held evictions there in
      let long : there * 12 + 12 ≤ length schedule_heads = omega arith in
      let n : tables_of schedule_heads there ≡ count_of a = tables_are schedule_heads there e (ap (λ (q : Key). q.table_id) (row_has_key schedule_heads skey held k)) in
      let few = places_few in
      record {
        goes = goes_known schedule_heads limit held evictions skey k;
        own = key_same schedule_heads (kept_heads r entry schedule_heads) there (λ m q. kept_known r entry schedule_heads long refl m (of_key m q).no_mark (of_key m q).below) ∙ row_has_key schedule_heads skey held k;
        last = kept_known r entry schedule_heads long refl 7 (omega arith) (omega arith) ∙ e;
        begun = rw (found_known k, eq-eqb (last_of schedule_heads there) a.tables e);
        old_last = e;
        sixteen = length_up (place_seen schedule_heads L.units there) 16 0;
        places = λ j q ne. sym (place_get schedule_heads L.units there j (omega arith) ∙ place_in schedule_heads L.units there j (omega arith));
        past = λ j q m. place_get schedule_heads L.units there j q ∙ place_past schedule_heads L.units there j (omega arith);
        beside = λ u o. refl;
        ready_length = refl;
        ok = λ j q ne. rw (place_get schedule_heads L.units there j q) (schedule_ok there k j);
      }

  -- the head of a schedule that begins anew
  module _ (r : Room) (f : r.fresh ≡ true) (long : r.row * 12 + 12 ≤ length schedule_heads) where
    fresh_own : key_at (kept_heads r entry schedule_heads) r.row ≡ skey
    fresh_own = kept_fresh_key r entry schedule_heads long f

    fresh_last : last_of (kept_heads r entry schedule_heads) r.row ≡ a.tables
    fresh_last = kept_fresh r entry schedule_heads long f 7 (omega arith)

  refill_places : (t n : ℕ) → length (refill others l a.tables t n) ≡ n
  unfolding refill
  refill_places t zero = refl
  refill_places t (suc n) = ap suc (refill_places (suc t) n)

  -- "If last_table_id differs from an existing schedule's, that row is emptied first and refilled"
  other_room : there < held → last_of schedule_heads there ≢ a.tables
      → Roomed L a first others (record { room = room_renewed held evictions there; refill = true }) (record { last_table = a.tables; copies = refill others l a.tables first 16 })
  unfolding begin schedule_seen ready_units
  other_room k e =
      let t = h.schedule_heads_long in
      let f = h.few in
      let u = h.units_long in
      let r : Room = room_renewed held evictions there in
      let long : there * 12 + 12 ≤ length schedule_heads = omega arith in
      let low : first ≤ a.tables = let p = h.in_kind.from in let q = h.range in omega arith in
      let d = same in
      record {
        goes = goes_known schedule_heads limit held evictions skey k;
        own = fresh_own r refl long;
        last = fresh_last r refl long;
        begun = rw (found_known k, ne_eqb (last_of schedule_heads there) a.tables e);
        old_last = refl;
        sixteen = refill_places first 16;
        places = λ j q ne. place low k j q ne;
        past = λ j q m. let b = first_is in refill_past others l a.tables 16 first j (omega arith);
        beside = λ v o.
            refill_other L.heads L.slots L.eit.sets.used skey table (there * 16) h.slots_long rows_fit n emptied (omega arith) v (wider o) ∙ without_other (there * 16) 16 L.units v o;
        ready_length = refill_length L.heads L.slots L.eit.sets.used skey table (there * 16) h.slots_long rows_fit n emptied (omega arith) ∙ same;
        ok = λ j q ne. refilled_ok low j q ne (dec_le (first + j) a.tables);
      }
    where
      n : ℕ
      n = count_of a

      emptied : List ℕ
      emptied = without_units (there * 16) 16 L.units

      same : length emptied ≡ length L.units
      same = without_length (there * 16) 16 L.units

      wider : {v : ℕ} → (v < there * 16) ⊎ (there * 16 + 16 ≤ v) → (v < there * 16) ⊎ (there * 16 + n ≤ v)
      wider (inl p) = inl p
      wider (inr p) = inr (omega arith)

      place : first ≤ a.tables → there < held → (j : ℕ) → j < n → first + j ≢ table
          → copy_seen (refilled L.heads L.slots L.eit.sets.used skey table (there * 16) n emptied) (there * 16 + j) ≡ get_or (refill others l a.tables first 16) j none
      place low k j m ne =
          let b = first_is in
          let u = h.units_long in
          let f = h.few in
          let s = same in
          refill_own L.heads L.slots L.eit.sets.used skey table (there * 16) h.slots_long rows_fit n emptied (omega arith)
          (λ v w. without_own (there * 16) 16 L.units (there * 16 + v) (omega arith) (omega arith) (omega arith)) j m
          ∙ copy_for_lem j (omega arith) ne ∙ sym (refill_inside others l a.tables 16 first j (omega arith) (omega arith))

      refilled_ok : first ≤ a.tables → (j : ℕ) → j < 16 → first + j ≢ table → Dec (first + j ≤ a.tables) → ok (get_or (refill others l a.tables first 16) j none) ≡ true
      refilled_ok low j q ne (yes m) = rw (refill_inside others l a.tables 16 first j q m) (copied_ok j q ne)
      refilled_ok low j q ne (no m) = rw (refill_past others l a.tables 16 first j (omega arith))

  -- a schedule that was not there
  new_room : held ≤ there → Roomed L a first others (record { room = room_new schedule_heads limit held evictions; refill = false }) (record { last_table = a.tables; copies = replicate 16 none })
  unfolding begin ready_units
  new_room k =
      let r : Room = room_new schedule_heads limit held evictions in
      let g = goes_new schedule_heads limit held evictions skey k h.limit in
      let i = goes_row g in
      let w = goes_room g h.few in
      let t = h.schedule_heads_long in
      let u = h.units_long in
      let f : r.fresh ≡ true = new_fresh schedule_heads limit held evictions in
      let long : r.row * 12 + 12 ≤ length schedule_heads = omega arith in
      record {
        goes = g;
        own = fresh_own r f long;
        last = fresh_last r f long;
        begun = rw (found_none k);
        old_last = refl;
        sixteen = length-replicate {A = Option (CopyOf Held)} 16 none;
        places = λ j q ne. rw (f, get_d_none {A = Option (CopyOf Held)} 16 j none) (without_own (r.row * 16) 16 L.units (r.row * 16 + j) (omega arith) (omega arith) (omega arith));
        past = λ j q m. get_d_none {A = Option (CopyOf Held)} 16 j none;
        beside = λ v o. rw f (without_other (r.row * 16) 16 L.units v o);
        ready_length = rw f (without_length (r.row * 16) 16 L.units);
        ok = λ j q ne. rw (get_d_none {A = Option (CopyOf Held)} 16 j none);
      }

  abbrev found_room : ScheduleRoom
  found_room = room_of schedule_heads limit held evictions entry

  roomed : (old : ScheduleOf Held) × Roomed L a first others found_room old
  unfolding room_of room_known
  roomed = go (ltb there held) (eqb (last_of schedule_heads there) a.tables) refl refl
    where
      go : (b c : Bool) → ltb there held ≡ b → eqb (last_of schedule_heads there) a.tables ≡ c
          → (old : ScheduleOf Held) × Roomed L a first others (cond b
          (cond c (record { room = room_in held evictions there; refill = false }) (record { room = room_renewed held evictions there; refill = true }))
          (record { room = room_new schedule_heads limit held evictions; refill = false })) old
      go true true p q = (schedule_seen schedule_heads L.units there, same_room (ltb-true there held p) (eqb-true (last_of schedule_heads there) a.tables q))
      go true false p q = (record { last_table = a.tables; copies = refill others l a.tables first 16 }, other_room (ltb-true there held p) (eqb-false (last_of schedule_heads there) a.tables q))
      go false c p q = (record { last_table = a.tables; copies = replicate 16 none }, new_room (ltb-false there held p))

  -- ---- the set is put in, and the schedule becomes the newest

  module _ (b : ScheduleRoom) (old : ScheduleOf Held) (w : Roomed L a first others b old) where
    abbrev row : ℕ
    row = b.room.row

    abbrev own_unit : ℕ
    own_unit = row * 16 + table % 16

    abbrev units₁ : List ℕ
    units₁ = with_set L.heads L.slots i own_unit (ready_of L a b)

    abbrev schedule_heads₁ : List ℕ
    schedule_heads₁ = touched clock row (kept_heads b.room entry schedule_heads)

    abbrev after : Store
    after = store (with_schedules L.eit b.room.used b.room.evictions) L.heads L.slots L.cells schedule_heads₁ units₁

    abbrev copy : CopyOf Held
    copy = copy_of (row_seen L.heads L.slots i)

    abbrev g : ScheduleOf Held
    g = enter (table - first) copy old

    row_in : row < b.room.used
    row_in = goes_row w.goes

    within : b.room.used ≤ limit
    within = goes_room w.goes h.few

    in_slots : i * 288 + 288 ≤ length L.slots
    in_slots = let p = h.row in let q = h.slots_long in omega arith

    own_place : table % 16 ≡ table - first
    own_place = h.in_kind.place

    in_place : table - first < 16
    in_place = let p = h.in_kind.from in let q = h.in_kind.until in omega arith

    in_units : own_unit * 288 + 288 ≤ length (ready_of L a b)
    in_units = let p = row_in in let q = within in let r = h.units_long in let s = w.ready_length in let t = own_place in let v = in_place in omega arith

    units_length : length units₁ ≡ length L.units
    units_length = set_length L.heads L.slots i own_unit (ready_of L a b) in_slots in_units ∙ w.ready_length

    own_copy : copy_seen units₁ own_unit ≡ some copy
    own_copy = set_own L.heads L.slots i own_unit (ready_of L a b) in_slots in_units (rows_fit i h.row)

    not_own : (j : ℕ) → j ≢ table - first → first + j ≢ table
    not_own j ne = let p = h.in_kind.from in omega arith

    schedule_heads_in : row * 12 + 12 ≤ length schedule_heads
    schedule_heads_in = let p = row_in in let q = within in let r = h.schedule_heads_long in omega arith

    kept_length : length (kept_heads b.room entry schedule_heads) ≡ length schedule_heads
    kept_length = length_kept b.room entry schedule_heads schedule_heads_in

    then_touched : Touched schedule_heads schedule_heads₁ skey row clock b.room.used
    then_touched =
        let p = kept_length in
        let q = within in
        let r = h.schedule_heads_long in
        ready_touched schedule_heads (kept_heads b.room entry schedule_heads) skey row clock b.room.used (omega arith) row_in w.own (λ j m k ne c. kept_row b.room entry schedule_heads schedule_heads_in j m ne c)

    key_after : key_at schedule_heads₁ row ≡ skey
    key_after = then_touched.own

    last_is : last_of schedule_heads₁ row ≡ a.tables
    last_is = touched_not clock row (kept_heads b.room entry schedule_heads) row 7 (omega arith) (omega arith) ∙ w.last

    kind_is : table_word schedule_heads₁ row ≡ a.kind
    kind_is = ap (λ (k : Key). k.table_id) key_after

    own_tables : tables_of schedule_heads₁ row ≡ count_of a
    own_tables = tables_are schedule_heads₁ row last_is kind_is

    own_in : table - first < count_of a
    own_in = let p = h.in_kind.from in let q = h.range in let r = in_place in let s = first_is in omega arith

    -- place j of the schedule: a table up to its last ..
    copy_is : (j : ℕ) → j < count_of a → copy_seen units₁ (row * 16 + j) ≡ get_or (set old.copies (table - first) (some copy)) j none
    copy_is j k = go (ℕ_discrete j (table - first))
      where
        go : Dec (j ≡ table - first) → copy_seen units₁ (row * 16 + j) ≡ get_or (set old.copies (table - first) (some copy)) j none
        go (yes q) =
            let p = in_place in
            let s = w.sixteen in
            let e : row * 16 + j ≡ own_unit = let t = own_place in omega arith in
            rw (e, q) (own_copy ∙ sym (get_or-set_same old.copies (table - first) (some copy) none (omega arith)))
        go (no ne) =
            let t = own_place in
            let f = places_few in
            set_other L.heads L.slots i own_unit (ready_of L a b) in_slots in_units (row * 16 + j) (omega arith)
            ∙ w.places j k (not_own j ne) ∙ sym (get_or-set_other old.copies (table - first) j (some copy) none ne)

    -- .. or past it
    place_is : (j : ℕ) → j < 16 → place_seen schedule_heads₁ units₁ row j ≡ get_or (set old.copies (table - first) (some copy)) j none
    place_is j k = go (dec_lt j (count_of a))
      where
        go : Dec (j < count_of a) → place_seen schedule_heads₁ units₁ row j ≡ get_or (set old.copies (table - first) (some copy)) j none
        go (yes m) = let n = own_tables in place_in schedule_heads₁ units₁ row j (omega arith) ∙ copy_is j m
        go (no m) =
            let n = own_tables in
            let o = own_in in
            place_past schedule_heads₁ units₁ row j (omega arith) ∙ sym (get_or-set_other old.copies (table - first) j (some copy) none (omega arith) ∙ w.past j k (omega arith))

    copies_are : up_from (place_seen schedule_heads₁ units₁ row) 16 0 ≡ set old.copies (table - first) (some copy)
    copies_are =
        let p = length_up (place_seen schedule_heads₁ units₁ row) 16 0 in
        let q = length-set old.copies (table - first) (some copy) in
        let s = w.sixteen in
        ext_get_or none (up_from (place_seen schedule_heads₁ units₁ row) 16 0) (set old.copies (table - first) (some copy)) (omega arith) (λ j k.
        place_get schedule_heads₁ units₁ row j (omega arith) ∙ place_is j (omega arith))

    own_schedule : schedule_seen schedule_heads₁ units₁ row ≡ g
    unfolding schedule_seen enter
    own_schedule =
        let p = last_is ∙ sym w.old_last in
        let q = copies_are in
        λ t. record { last_table = p t; copies = q t }

    -- the other schedules are as they were
    other_word : (j m : ℕ) → j ≢ row → m < 12 → m ≢ 9 → word schedule_heads₁ j m ≡ word schedule_heads j m
    other_word j m ne l n9 = touched_not clock row (kept_heads b.room entry schedule_heads) j m n9 l ∙ kept_row b.room entry schedule_heads schedule_heads_in j m ne l

    other_tables : (j : ℕ) → j ≢ row → tables_of schedule_heads₁ j ≡ tables_of schedule_heads j
    unfolding tables_of
    other_tables j ne = rw (other_word j 7 ne (omega arith) (omega arith), other_word j 1 ne (omega arith) (omega arith))

    other_copy : (j : ℕ) → j ≢ row → (n : ℕ) → n < 16 → copy_seen units₁ (j * 16 + n) ≡ copy_seen L.units (j * 16 + n)
    other_copy j ne n q =
        let t = own_place in
        let v = in_place in
        set_other L.heads L.slots i own_unit (ready_of L a b) in_slots in_units (j * 16 + n) (omega arith) ∙ w.beside (j * 16 + n) (side (dec_lt j row))
      where
        side : Dec (j < row) → (j * 16 + n < row * 16) ⊎ (row * 16 + 16 ≤ j * 16 + n)
        side (yes l) = inl (omega arith)
        side (no l) = inr (omega arith)

    other_place : (j : ℕ) → j ≢ row → (n : ℕ) → n < 16 → place_seen schedule_heads₁ units₁ j n ≡ place_seen schedule_heads L.units j n
    unfolding place_seen
    other_place j ne n q = rw (other_tables j ne, other_copy j ne n q)

    other_schedule : (j : ℕ) → j < held → j ≢ row → schedule_seen schedule_heads₁ units₁ j ≡ schedule_seen schedule_heads L.units j
    unfolding schedule_seen
    other_schedule j k ne =
        let p = other_word j 7 ne (omega arith) (omega arith) in
        let q = up_cong (place_seen schedule_heads₁ units₁ j) (place_seen schedule_heads L.units j) 16 0 (λ n c d. other_place j ne n (omega arith)) in
        λ t. record { last_table = p t; copies = q t }

    -- the schedules before their touch
    stood_seen : (seen L).eit.schedules ≡ order_seen schedule_shown schedule_heads held h.was evictions (schedule_seen schedule_heads L.units)
    unfolding seen
    stood_seen =
        let r = h.rise in
        ap (λ (q : Rows ScheduleKey (ScheduleOf Held)). record { rows = q; evicted = evictions })
        (seen_later schedule_shown schedule_words same_schedule same_schedule_true schedule_self schedule_heads held h.was clock (omega arith) h.stood (schedule_seen schedule_heads L.units))

    schedules_are : order_seen schedule_shown schedule_heads₁ b.room.used clock b.room.evictions (schedule_seen schedule_heads₁ units₁) ≡ touch same_schedule limit l g (seen L).eit.schedules
    unfolding seen touch
    schedules_are =
        touched_seen schedule_shown schedule_words same_schedule same_schedule_true schedule_self schedule_heads limit held h.was clock evictions skey h.stood h.rise skey_proper (schedule_seen schedule_heads L.units) schedule_heads₁ (schedule_seen schedule_heads₁ units₁)
        w.goes then_touched other_schedule
        ∙ ap (λ (o : TouchOrder ScheduleKey (ScheduleOf Held)). newest (schedule_shown skey) (schedule_seen schedule_heads₁ units₁ row) (aside same_schedule limit (schedule_shown skey) o)) (sym stood_seen)
        ∙ ap (λ (q : ScheduleKey). newest q (schedule_seen schedule_heads₁ units₁ row) (aside same_schedule limit q (seen L).eit.schedules)) skey_shown
        ∙ ap (λ (q : ScheduleOf Held). newest l q (aside same_schedule limit l (seen L).eit.schedules)) own_schedule

    shown_after : seen after ≡ record { settings = (seen L).settings; eit = schedule_touched limit l g (seen L).eit; cells = (seen L).cells; clock = (seen L).clock }
    unfolding seen schedule_touched
    shown_after =
        let q = schedules_are in
        λ t. record { settings = (seen L).settings; eit = record { sets = (seen L).eit.sets; schedules = q t }; cells = (seen L).cells; clock = (seen L).clock }

    reached_after : Reached after
    reached_after = record {
      fits = rw (length_touched clock row (kept_heads b.room entry schedule_heads), kept_length, units_length)
          (fits_schedules L.eit (length L.heads) (length L.slots) (length L.cells) (length schedule_heads) (length L.units) b.room.used b.room.evictions z.fits within);
      counts = z.counts;
      ticks = z.ticks;
      schedule_counts = let p = goes_count w.goes in let q = h.counts in omega arith;
      heads_fit = z.heads_fit;
      sets = z.sets;
      schedules = touched_stands schedule_shown schedule_words same_schedule same_schedule_true schedule_self schedule_heads limit held h.was clock evictions skey h.stood h.rise skey_proper schedule_heads₁ w.goes then_touched;
    }

    -- every table of the schedule is whole
    copy_ok : (j : ℕ) → j < count_of a → ok (copy_seen units₁ (row * 16 + j)) ≡ true
    copy_ok j k = rw (copy_is j k) (go (ℕ_discrete j (table - first)))
      where
        go : Dec (j ≡ table - first) → ok (get_or (set old.copies (table - first) (some copy)) j none) ≡ true
        go (yes q) =
            let p = in_place in
            let s = w.sixteen in
            rw (q, get_or-set_same old.copies (table - first) (some copy) none (omega arith)) (set_ok i h.row)
        go (no ne) = let f = places_few in rw (get_or-set_other old.copies (table - first) j (some copy) none ne) (w.ok j (omega arith) (not_own j ne))

    unit_whole_lem : (j : ℕ) → j < count_of a → is_present units₁ (row * 16 + j) ≡ true → all_whole L.eit.sets.count L.eit.sets.size (unit_slots units₁ (row * 16 + j)) ≡ true
    unfolding unit_whole seen
    unit_whole_lem j k e =
        let p : unit_whole units₁ (length (seen L).cells) L.eit.sets.size (row * 16 + j) ≡ true = sym (copy_whole_lem (seen L).settings (seen L).cells units₁ (row * 16 + j)) ∙ copy_ok j k in
        let q : all_whole (length (seen L).cells) L.eit.sets.size (unit_slots units₁ (row * 16 + j)) ≡ true = rw e at p in
        ap (λ (m : ℕ). all_whole m L.eit.sets.size (unit_slots units₁ (row * 16 + j))) (sym (cells_length L.cells L.eit.sets.size L.eit.sets.count)) ∙ q

    -- "A schedule with all tables .. goes out"
    first_after : first_table (table_word schedule_heads₁ row) ≡ first
    first_after = ap (λ (k : Key). first_table k.table_id) key_after ∙ first_is

    abbrev count : ℕ
    count = suc (a.tables - first)

    abbrev read : Held → List ℕ
    read = bytes_of (seen L).cells

    shown_tables : a.tables - first < 16 → all_present units₁ (row * 16) count ≡ true
        → tables_shown l first (tables_out after (row * 16) count) ≡ map (on_whole read) (wholes l first (take count (up_from (place_seen schedule_heads₁ units₁ row) 16 0)))
    unfolding seen
    shown_tables d e =
        let n = own_tables in
        let f = first_is in
        sym (tables_out_lem after l (place_seen schedule_heads₁ units₁ row) count 16 0 (row * 16) first (omega arith)
        (λ j k. let y : 0 + j ≡ j = omega arith in ap (place_seen schedule_heads₁ units₁ row) y ∙ place_in schedule_heads₁ units₁ row j (omega arith) ∙ copy_there units₁ (row * 16 + j) (present_get units₁ (row * 16) count j e k))
        (λ j k. unit_whole_lem j (omega arith) (present_get units₁ (row * 16) count j e k)))

    schedule_out_lem : a.tables - first < 16 → all_present units₁ (row * 16) count ≡ true → answer_told (a_schedule (schedule_out after row)) ≡ on_answer read (schedule (guide l first g))
    unfolding answer_told schedule_out on_answer on_guide guide enter
    schedule_out_lem d e =
        let k : schedule_shown (key_at schedule_heads₁ row) ≡ l = ap schedule_shown key_after ∙ skey_shown in
        let v : last_of schedule_heads₁ row ≡ old.last_table = last_is ∙ sym w.old_last in
        let f = first_after in
        let n : count_of a ≡ count = let b = first_is in omega arith in
        let p : tables_shown (schedule_shown (key_at schedule_heads₁ row)) (first_table (table_word schedule_heads₁ row)) (tables_out after (row * 16) (tables_of schedule_heads₁ row)) ≡ tables_shown l first (tables_out after (row * 16) (count_of a))
        = λ t. tables_shown (k t) (f t) (tables_out after (row * 16) (own_tables t)) in
        let q : tables_shown l first (tables_out after (row * 16) (count_of a)) ≡ tables_shown l first (tables_out after (row * 16) count) = ap (λ (m : ℕ). tables_shown l first (tables_out after (row * 16) m)) n in
        let r : map (on_whole read) (wholes l first (take count (up_from (place_seen schedule_heads₁ units₁ row) 16 0))) ≡ map (on_whole read) (wholes l first (take (suc (old.last_table - first)) (set old.copies (table - first) (some copy)))) =
        let y : a.tables ≡ old.last_table = sym w.old_last in λ t. map (on_whole read) (wholes l first (take (suc (y t - first)) (copies_are t))) in
        let s = p ∙ q ∙ shown_tables d e ∙ r in
        λ t. schedule (record { key = k t; last_table = v t; tables = s t })

    all_tables_lem : all_tables first g ≡ tables_there units₁ row entry
    all_tables_lem =
        ap (all_tables first) (sym own_schedule) ∙ ap (λ (f : ℕ). all_tables f (schedule_seen schedule_heads₁ units₁ row)) (sym first_is) ∙ tables_there_lem schedule_heads₁ units₁ row entry last_is kind_is

    told_after : (t : Bool) → tables_there units₁ row entry ≡ t → answer_told (answer_of (entered_answer t row) after) ≡ on_answer read (told l first g t)
    unfolding tables_there told answer_told on_answer
    told_after true e =
        let p = and_true (ltb (a.tables - first_table a.kind) 16) (all_present units₁ (row * 16) (count_of a)) e in
        let d = ltb-true (a.tables - first_table a.kind) 16 p.0 in
        let f = first_is in
        let n : count_of a ≡ count = omega arith in
        schedule_out_lem (omega arith) (ap (all_present units₁ (row * 16)) (sym n) ∙ p.1)
    told_after false e = refl

    in_tied : Tied (after_settled (entered_in (rows_of L) a i b) L.cells)
        (shows (seen L) (seen L).cells (gives (told l first g (all_tables first g)) (schedule_touched limit l g (seen L).eit)))
    unfolding entered_in scheduled_units scheduled_heads shows
    in_tied = rw all_tables_lem (record { told = told_after (tables_there units₁ row entry) refl; shown = shown_after; reached = reached_after })

  pub enter_tied : Tied (after_settled (entered (rows_of L) a i) L.cells)
      (shows (seen L) (seen L).cells
      (let g = enter (table - first) (copy_of (row_seen L.heads L.slots i)) (begin others l first a.tables found) in
      gives (told l first g (all_tables first g)) (schedule_touched limit l g (seen L).eit)))
  unfolding entered
  enter_tied = rw roomed.1.begun (in_tied found_room roomed.0 roomed.1)
