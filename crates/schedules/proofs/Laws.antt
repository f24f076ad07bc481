-- One law for each turn, each end and each way out of the functions on schedules, and where a set's schedule may be.
-- Assumes nothing.
use mathlib.Core.Path.{◌≡◌, refl, sym, ap, subst, ◌∙◌}
use mathlib.Core.List.{List}
use mathlib.Core.Bool.{Bool, true, false, cond, ◌&&◌, and_assoc, and-true}
use Prim.Native.Nat.{ℕ, ◌+◌, ◌-◌, ◌*◌, ◌%◌, ◌≤◌, ◌<◌}
use native.Mathlib.Omega.{arith}
use borrow.Author.Tests.{eq-eqb, ne_eqb, lt-ltb, le-ltb, ltb-true, ltb-false}
use lib.Dec.{eqb, ltb}
use Rattle.rows.specs.Rows.{table_word, oldest_of, row_of, touched, room_in, room_renewed, room_new, kept_heads, last_of}
use Rattle.rows.specs.declared.Entry.{Entry}
use Rattle.rows.specs.declared.Room.{Room}
use Rattle.rows.proofs.Loops.{before}
use Rattle.rows.proofs.Least.{oldest_below}
use Rattle.units.specs.Units.{first_table, unit_whole, units_whole, marked_units, all_present, without_units, with_set, refilled}
use Rattle.schedules.specs.declared.ScheduleRoom.{ScheduleRoom}
use Rattle.schedules.specs.Schedules.{table_count, tables_of, schedules_whole, marked_schedules, RoomFits, room_known, room_of, scheduled_heads, ready_units, scheduled_units, tables_there}

-- ---- how many tables

module _ (kind last first : ℕ) (f : (first ≡ first_table kind) × (first ≤ 96)) where
  pub count_none : last < first → (1 ≡ table_count kind last) × (1 ≤ 16)
  count_none h = rw (← f.0) (omega arith, omega arith)

  pub count_some : first ≤ last → last - first < 15 → (last - first + 1 ≡ table_count kind last) × (last - first + 1 ≤ 16)
  count_some h l = rw (← f.0) (omega arith, omega arith)

pub tables_counted : (schedule_heads : List ℕ) (k kind last r : ℕ) → kind ≡ table_word schedule_heads k → last ≡ last_of schedule_heads k → (r ≡ table_count kind last) × (r ≤ 16)
    → (r ≡ tables_of schedule_heads k) × (r ≤ 16)
unfolding tables_of
tables_counted schedule_heads k kind last r e f q = (rw (← e, ← f) q.0, q.1)

-- ---- all schedules in use

module _ (schedule_heads units : List ℕ) (count size k : ℕ) where
  pub schedule_single : (kind last first : ℕ) (r : Bool) → kind ≡ table_word schedule_heads k → last ≡ last_of schedule_heads k → (first ≡ first_table kind) × (first ≤ 96) → last ≤ first
      → (r ≡ true → unit_whole units count size (k * 16) ≡ true) → r ≡ true → true ≡ units_whole units count size (k * 16) (tables_of schedule_heads k)
  unfolding tables_of units_whole
  schedule_single kind last first r e f g h u t =
      let one : table_count (table_word schedule_heads k) (last_of schedule_heads k) ≡ 1 = rw (← e, ← f, ← g.0) (omega arith) in
      let z : k * 16 + 0 ≡ k * 16 = omega arith in
      rw (one, z, u t)

  pub schedule_each : (n : ℕ) (r : Bool) → (n ≡ tables_of schedule_heads k) × (n ≤ 16) → r ≡ units_whole units count size (k * 16) n → r ≡ units_whole units count size (k * 16) (tables_of schedule_heads k)
  schedule_each n r e q = rw (← e.0) q

module _ (schedule_heads units : List ℕ) (count size n k : ℕ) (ok : Bool) (q : schedules_whole schedule_heads units count size n ≡ (ok && schedules_whole schedule_heads units count size k)) where
  pub schedules_turn : (r : Bool) → 0 < k → r ≡ units_whole units count size ((k - 1) * 16) (tables_of schedule_heads (k - 1))
      → schedules_whole schedule_heads units count size n ≡ (ok && r && schedules_whole schedule_heads units count size (k - 1))
  unfolding schedules_whole
  schedules_turn r p f =
      q ∙ ap (λ (m : ℕ). ok && schedules_whole schedule_heads units count size m) (before k p)
      ∙ sym (and_assoc ok (units_whole units count size ((k - 1) * 16) (tables_of schedule_heads (k - 1))) (schedules_whole schedule_heads units count size (k - 1))) ∙ rw (← f)

  pub schedules_end : k ≤ 0 → ok ≡ schedules_whole schedule_heads units count size n
  unfolding schedules_whole
  schedules_end p = let z : k ≡ 0 = omega arith in sym (q ∙ rw z (and-true ok))

module _ (schedule_heads units : List ℕ) (n k : ℕ) (m₀ m : List ℕ) (q : marked_schedules schedule_heads units n m₀ ≡ marked_schedules schedule_heads units k m) where
  pub all_marks_turn : (t : ℕ) (m' : List ℕ) → 0 < k → t ≡ tables_of schedule_heads (k - 1) → m' ≡ marked_units units ((k - 1) * 16) t m → marked_schedules schedule_heads units n m₀ ≡ marked_schedules schedule_heads units (k - 1) m'
  unfolding marked_schedules
  all_marks_turn t m' p f e = q ∙ ap (λ (i : ℕ). marked_schedules schedule_heads units i m) (before k p) ∙ rw (e, f)

  pub all_marks_end : k ≤ 0 → m ≡ marked_schedules schedule_heads units n m₀
  unfolding marked_schedules
  all_marks_end p = let z : k ≡ 0 = omega arith in sym (q ∙ rw z)

-- ---- which schedule

module _ (heads : List ℕ) (held evictions : ℕ) (e : Entry) (k l : ℕ) (r : Room) (p : l ≡ last_of heads k) where
  pub known_same : l ≡ e.last → r ≡ room_in held evictions k → ◌≡◌ {A = ScheduleRoom} (record { room = r; refill = false }) (room_known heads held evictions e k)
  unfolding room_known
  known_same h q = rw (← p, eq-eqb l e.last h, q)

  pub known_other : (l ≡ e.last → ⊥) → r ≡ room_renewed held evictions k → ◌≡◌ {A = ScheduleRoom} (record { room = r; refill = true }) (room_known heads held evictions e k)
  unfolding room_known
  known_other h q = rw (← p, ne_eqb l e.last h, q)

module _ (heads : List ℕ) (limit held evictions : ℕ) (e : Entry) (k : ℕ) (p : k ≡ row_of heads e.key held) where
  pub room_known_lem : (b : ScheduleRoom) → k < held → b ≡ room_known heads held evictions e k → b ≡ room_of heads limit held evictions e
  unfolding room_of
  room_known_lem b h q = rw (← p, lt-ltb k held h) q

  pub room_new_lem : (r : Room) → held ≤ k → r ≡ room_new heads limit held evictions → ◌≡◌ {A = ScheduleRoom} (record { room = r; refill = false }) (room_of heads limit held evictions e)
  unfolding room_of
  room_new_lem r h q = rw (← p, le-ltb k held h, q)

module _ (heads : List ℕ) (limit held evictions : ℕ) (e : Entry) (z : 0 < limit) (f : held ≤ limit) where
  known_ok : (k : ℕ) → k < held → RoomFits limit (room_known heads held evictions e k)
  unfolding room_known
  known_ok k h = go (eqb (last_of heads k) e.last)
    where
      go : (b : Bool) → RoomFits limit (cond b (record { room = room_in held evictions k; refill = false }) (record { room = room_renewed held evictions k; refill = true }))
      go true = record { row = h; room = f }
      go false = record { row = h; room = f }

  new_ok : RoomFits limit (record { room = room_new heads limit held evictions; refill = false })
  unfolding room_new
  new_ok = go (ltb held limit) refl
    where
      o : ℕ
      o = oldest_of heads held

      go : (b : Bool) → ltb held limit ≡ b → RoomFits limit (record { room = cond b (room_renewed (held + 1) evictions held) (room_renewed held (evictions + 1) o); refill = false })
      go true q = let h : held < limit = ltb-true held limit q in record { row = omega arith; room = omega arith }
      go false q =
          let h : limit ≤ held = ltb-false held limit q in
          let k : o < held = oldest_below heads held (omega arith) in
          record { row = k; room = f }

  pub room_ok : RoomFits limit (room_of heads limit held evictions e)
  unfolding room_of
  room_ok = go (ltb k held) refl
    where
      k : ℕ
      k = row_of heads e.key held

      go : (b : Bool) → ltb k held ≡ b → RoomFits limit (cond b (room_known heads held evictions e k) (record { room = room_new heads limit held evictions; refill = false }))
      go true q = known_ok k (ltb-true k held q)
      go false q = new_ok

-- ---- head and units

pub head_put : (clock : ℕ) (r : Room) (e : Entry) (h h' h'' : List ℕ) → h' ≡ kept_heads r e h → h'' ≡ touched clock r.row h' → h'' ≡ scheduled_heads clock r e h
unfolding scheduled_heads
head_put clock r e h h' h'' p q = rw (← p) q

module _ (heads slots : List ℕ) (used : ℕ) (e : Entry) (own : ℕ) (r : ScheduleRoom) (units : List ℕ) where
  pub ready_kept : r.room.fresh ≡ false → units ≡ ready_units heads slots used e own r units
  unfolding ready_units
  ready_kept t = rw t

  module _ (u : List ℕ) (t : r.room.fresh ≡ true) (p : u ≡ without_units (r.room.row * 16) 16 units) where
    pub ready_new : r.refill ≡ false → u ≡ ready_units heads slots used e own r units
    unfolding ready_units
    ready_new f = rw (t, f) p

    pub ready_refilled : (n : ℕ) (u' : List ℕ) → r.refill ≡ true → (n ≡ table_count e.key.table_id e.last) × (n ≤ 16) → u' ≡ refilled heads slots used e.key own (r.room.row * 16) n u
        → u' ≡ ready_units heads slots used e own r units
    unfolding ready_units
    ready_refilled n u' f c q = rw (t, f, ← p, ← c.0) q

  pub units_put : (i : ℕ) (u u' : List ℕ) → u ≡ ready_units heads slots used e own r units → u' ≡ with_set heads slots i (r.room.row * 16 + own % 16) u → u' ≡ scheduled_units heads slots used e own i r units
  unfolding scheduled_units
  units_put i u u' p q = rw (← p) q

-- ---- is it all there

module _ (units : List ℕ) (row : ℕ) (e : Entry) (first : ℕ) (f : (first ≡ first_table e.key.table_id) × (first ≤ 96)) where
  pub there_all : (n : ℕ) (r : Bool) → e.last < first + 16 → (n ≡ table_count e.key.table_id e.last) × (n ≤ 16) → r ≡ all_present units (row * 16) n → r ≡ tables_there units row e
  unfolding tables_there
  there_all n r h c q = rw (← c.0, ← f.0, lt-ltb (e.last - first) 16 (omega arith)) q

  pub there_past : first + 16 ≤ e.last → false ≡ tables_there units row e
  unfolding tables_there
  there_past h = rw (← f.0, le-ltb (e.last - first) 16 (omega arith))

pub room_may : (schedule_heads : List ℕ) (limit held evictions : ℕ) (e : Entry) (r : ScheduleRoom) → 0 < limit → held ≤ limit → r ≡ room_of schedule_heads limit held evictions e → RoomFits limit r
room_may schedule_heads limit held evictions e r z f q = subst (RoomFits limit) (sym q) (room_ok schedule_heads limit held evictions e z f)
