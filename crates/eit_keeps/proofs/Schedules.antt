-- Schedules whose slots are whole stay such when a set whose slots are whole enters one, which is found, made or refilled. Of every content.
-- Assumes nothing.
use mathlib.Core.Path.{◌≡◌, refl, subst, ◌∙◌}
use mathlib.Core.Logic.{◌≢◌}
use mathlib.Core.Bool.{Bool, true, false, cond, true≢false}
use mathlib.Core.List.{List}
use Prim.Native.Nat.{ℕ, zero, suc, ◌+◌, ◌*◌, ◌%◌, ◌≤◌, ◌<◌, max}
use native.Mathlib.Nat.{not-suc-le-zero}
use native.Mathlib.Decide.{ℕ_discrete}
use native.Mathlib.Omega.{arith}
use borrow.Author.Tests.{ltb-true, ltb-false}
use lib.Dec.{eqb, ltb}
use lib.ListN.{length}
use Rattle.laws.proofs.Tests.{and_true}
use Rattle.cells.specs.Cells.{all_whole}
use Rattle.rows.specs.Rows.{word, row_of, oldest_of, room_in, room_renewed, room_new, row_slots, touched, kept_heads, last_of}
use Rattle.rows.specs.declared.Entry.{Entry}
use Rattle.rows.proofs.Words.{touched_not, kept_row, kept_known, length_kept, length_touched}
use Rattle.rows.proofs.Least.{oldest_below}
use Rattle.units.specs.Units.{unit_whole, units_whole, without_units, refilled}
use Rattle.schedules.specs.Schedules.{table_count, tables_of, schedules_whole, room_known, room_of, scheduled_heads, ready_units, scheduled_units}
use Rattle.schedules.specs.declared.ScheduleRoom.{ScheduleRoom}
use Rattle.eit_keeps.proofs.Units.{Keeps, keeps_all, keeps_both, set_keeps, without_keeps, without_whole, refill_keeps, units_get, units_all}

-- ---- which schedule

-- a row in use, or the next one
pub record Found (limit held : ℕ) (r : ScheduleRoom) : Type 0 where
  pub row : r.room.row < r.room.used
  pub room : r.room.used ≤ limit
  pub next : r.room.row ≤ held
  pub all : r.room.used ≤ max held (r.room.row + 1)
  pub known : r.room.fresh ≡ false → r.room.row < held

module _ (schedule_heads : List ℕ) (limit held evictions : ℕ) (e : Entry) (z : 0 < limit) (f : held ≤ limit) where
  known_found : (k : ℕ) → k < held → Found limit held (room_known schedule_heads held evictions e k)
  unfolding room_known
  known_found k h = go (eqb (last_of schedule_heads k) e.last)
    where
      go : (b : Bool) → Found limit held (cond b (record { room = room_in held evictions k; refill = false }) (record { room = room_renewed held evictions k; refill = true }))
      go true = record { row = h; room = f; next = omega arith; all = omega arith; known = λ q. h }
      go false = record { row = h; room = f; next = omega arith; all = omega arith; known = λ q. h }

  new_found : Found limit held (record { room = room_new schedule_heads limit held evictions; refill = false })
  unfolding room_new
  new_found = go (ltb held limit) refl
    where
      o : ℕ
      o = oldest_of schedule_heads held

      go : (b : Bool) → ltb held limit ≡ b → Found limit held (record { room = cond b (room_renewed (held + 1) evictions held) (room_renewed held (evictions + 1) o); refill = false })
      go true q = let h : held < limit = ltb-true held limit q in record { row = omega arith; room = omega arith; next = omega arith; all = omega arith; known = λ t. absurd (true≢false t) }
      go false q =
          let h : limit ≤ held = ltb-false held limit q in
          let k : o < held = oldest_below schedule_heads held (omega arith) in
          record { row = k; room = f; next = omega arith; all = omega arith; known = λ t. k }

  pub room_found : Found limit held (room_of schedule_heads limit held evictions e)
  unfolding room_of
  room_found = go (ltb k held) refl
    where
      k : ℕ
      k = row_of schedule_heads e.key held

      go : (b : Bool) → ltb k held ≡ b → Found limit held (cond b (room_known schedule_heads held evictions e k) (record { room = room_new schedule_heads limit held evictions; refill = false }))
      go true q = known_found k (ltb-true k held q)
      go false q = new_found

-- ---- all schedules in use, unit by unit

few_tables : (schedule_heads : List ℕ) (k : ℕ) → tables_of schedule_heads k ≤ 16
unfolding tables_of
few_tables schedule_heads k = omega arith

same_tables : (schedule_heads schedule_heads' : List ℕ) (k : ℕ) → word schedule_heads' k 1 ≡ word schedule_heads k 1 → word schedule_heads' k 7 ≡ word schedule_heads k 7
    → tables_of schedule_heads' k ≡ tables_of schedule_heads k
unfolding tables_of
same_tables schedule_heads schedule_heads' k a b = rw (a, b)

module _ (count size : ℕ) where
  module _ (schedule_heads units : List ℕ) where
    pub schedules_get : (n k j : ℕ) → schedules_whole schedule_heads units count size n ≡ true → k < n → j < tables_of schedule_heads k → unit_whole units count size (k * 16 + j) ≡ true
    unfolding schedules_whole
    schedules_get zero k j e h t = absurd (not-suc-le-zero h)
    schedules_get (suc n) k j e h t =
        let a = and_true (units_whole units count size (n * 16) (tables_of schedule_heads n)) (schedules_whole schedule_heads units count size n) e in
        go (ℕ_discrete k n) a.0 (λ q. schedules_get n k j a.1 q t)
      where
        go : Dec (k ≡ n) → units_whole units count size (n * 16) (tables_of schedule_heads n) ≡ true → (k < n → unit_whole units count size (k * 16 + j) ≡ true) → unit_whole units count size (k * 16 + j) ≡ true
        go (yes q) p ih = rw q (units_get count size units (n * 16) (tables_of schedule_heads n) j p (rw q at t))
        go (no d) p ih = ih (omega arith)

    pub schedules_all : (n : ℕ) → ((k j : ℕ) → k < n → j < tables_of schedule_heads k → unit_whole units count size (k * 16 + j) ≡ true) → schedules_whole schedule_heads units count size n ≡ true
    unfolding schedules_whole
    schedules_all zero f = refl
    schedules_all (suc n) f = rw (units_all count size units (n * 16) (tables_of schedule_heads n) (λ j h. f n j (omega arith) h)) (schedules_all n (λ k j h t. f k j (omega arith) t))

  -- ---- a set enters

  module _ (heads slots : List ℕ) (used clock : ℕ) (e : Entry) (own i limit held : ℕ) (r : ScheduleRoom) (schedule_heads units : List ℕ) (slots_long : used * 288 ≤ length slots)
      (rows : (j : ℕ) → j < used → all_whole count size (row_slots heads slots j) ≡ true) (in_use : i < used) (heads_long : limit * 12 ≤ length schedule_heads)
      (units_long : limit * 4608 ≤ length units) (o : Found limit held r) where
    abbrev base : ℕ
    base = r.room.row * 16

    abbrev none : List ℕ
    none = without_units base 16 units

    abbrev again : List ℕ
    again = refilled heads slots used e.key own base (table_count e.key.table_id e.last) none

    abbrev ready : List ℕ
    ready = ready_units heads slots used e own r units

    abbrev then : List ℕ
    then = scheduled_units heads slots used e own i r units

    abbrev heads' : List ℕ
    heads' = scheduled_heads clock r.room e schedule_heads

    in_units : (base + 16) * 288 ≤ length units
    in_units = let a = o.row in let b = o.room in omega arith

    in_heads : r.room.row * 12 + 12 ≤ length schedule_heads
    in_heads = let a = o.row in let b = o.room in omega arith

    none_keeps : Keeps count size units none
    none_keeps = without_keeps count size base 16 units in_units

    again_keeps : Keeps count size none again
    again_keeps =
        let a = in_units in
        let b = none_keeps.same in
        refill_keeps count size heads slots used e.key own base slots_long rows (table_count e.key.table_id e.last) none (omega arith)

    ready_keeps : Keeps count size units ready
    unfolding ready_units
    ready_keeps = go r.room.fresh r.refill
      where
        go : (a b : Bool) → Keeps count size units (cond a (cond b again none) units)
        go true true = keeps_both count size units none again none_keeps again_keeps
        go true false = none_keeps
        go false b = keeps_all count size units

    -- a schedule that begins anew: all its units
    ready_whole : r.room.fresh ≡ true → (j : ℕ) → j < 16 → unit_whole ready count size (base + j) ≡ true
    unfolding ready_units
    ready_whole t j h = rw t (go r.refill)
      where
        emptied : unit_whole none count size (base + j) ≡ true
        emptied = without_whole count size base 16 units in_units j h

        go : (b : Bool) → unit_whole (cond b again none) count size (base + j) ≡ true
        go true = let a = in_units in let b = none_keeps.same in again_keeps.stays (base + j) (omega arith) emptied
        go false = emptied

    put_keeps : Keeps count size ready then
    unfolding scheduled_units
    put_keeps =
        let a = in_units in
        let b = ready_keeps.same in
        set_keeps count size heads slots i (base + own % 16) ready (omega arith) (omega arith) (rows i in_use)

    pub enter_keeps : Keeps count size units then
    enter_keeps = keeps_both count size units ready then ready_keeps put_keeps

    fresh_whole : r.room.fresh ≡ true → (j : ℕ) → j < 16 → unit_whole then count size (base + j) ≡ true
    fresh_whole t j h = let a = in_units in let b = ready_keeps.same in put_keeps.stays (base + j) (omega arith) (ready_whole t j h)

    other_tables : (k : ℕ) → k ≢ r.room.row → tables_of heads' k ≡ tables_of schedule_heads k
    unfolding scheduled_heads
    other_tables k ne = same_tables schedule_heads heads' k (same 1 (omega arith) (omega arith)) (same 7 (omega arith) (omega arith))
      where
        same : (m : ℕ) → m ≢ 9 → m < 12 → word (touched clock r.room.row (kept_heads r.room e schedule_heads)) k m ≡ word schedule_heads k m
        same m d h = touched_not clock r.room.row (kept_heads r.room e schedule_heads) k m d h ∙ kept_row r.room e schedule_heads in_heads k m ne h

    own_tables : r.room.fresh ≡ false → tables_of heads' r.room.row ≡ tables_of schedule_heads r.room.row
    unfolding scheduled_heads
    own_tables t = same_tables schedule_heads heads' r.room.row (same 1 (omega arith) (omega arith) (omega arith)) (same 7 (omega arith) (omega arith) (omega arith))
      where
        same : (m : ℕ) → m ≢ 9 → m ≢ 8 → m < 12 → word (touched clock r.room.row (kept_heads r.room e schedule_heads)) r.room.row m ≡ word schedule_heads r.room.row m
        same m d d' h = touched_not clock r.room.row (kept_heads r.room e schedule_heads) r.room.row m d h ∙ kept_known r.room e schedule_heads in_heads t m d' h

    pub heads_length : length heads' ≡ length schedule_heads
    unfolding scheduled_heads
    heads_length = length_touched clock r.room.row (kept_heads r.room e schedule_heads) ∙ length_kept r.room e schedule_heads in_heads

    module _ (w : schedules_whole schedule_heads units count size held ≡ true) (held_few : held ≤ limit) where
      old : (k j : ℕ) → k < held → j < tables_of schedule_heads k → unit_whole then count size (k * 16 + j) ≡ true
      old k j h t = let a = few_tables schedule_heads k in enter_keeps.stays (k * 16 + j) (omega arith) (schedules_get schedule_heads units held k j w h t)

      own_whole : (b : Bool) → r.room.fresh ≡ b → (j : ℕ) → j < tables_of heads' r.room.row → unit_whole then count size (r.room.row * 16 + j) ≡ true
      own_whole true f j t = let a = few_tables heads' r.room.row in fresh_whole f j (omega arith)
      own_whole false f j t = let q = own_tables f in old r.room.row j (o.known f) (omega (arith, q, t))

      each : (k j : ℕ) → k < r.room.used → j < tables_of heads' k → Dec (k ≡ r.room.row) → unit_whole then count size (k * 16 + j) ≡ true
      each k j h t (yes q) = rw q (own_whole r.room.fresh refl j (subst (λ (n : ℕ). j < tables_of heads' n) q t))
      each k j h t (no d) = let a = o.all in let b = o.next in let d' : k ≢ r.room.row = d in let q = other_tables k d in old k j (omega (arith, a, b, h, d')) (omega (arith, q, t))

      pub enter_whole : schedules_whole heads' then count size r.room.used ≡ true
      enter_whole = schedules_all heads' then r.room.used (λ k j h t. each k j h t (ℕ_discrete k r.room.row))
