-- Sets and schedules with PIDs stay such: of every store in which each in use has one, a push leaves one. So 41 comes from a call alone.
-- Assumes nothing.
use mathlib.Core.Path.{◌≡◌, refl, sym, ap, subst, ◌∙◌}
use mathlib.Core.Logic.{◌≢◌}
use mathlib.Core.Bool.{Bool, true, false, cond, true≢false}
use mathlib.Core.List.{List}
use Prim.Native.Nat.{ℕ, ◌+◌, ◌*◌, ◌≤◌, ◌<◌, max}
use native.Mathlib.Decide.{ℕ_discrete}
use native.Mathlib.Omega.{arith}
use borrow.Author.Tests.{ltb-true}
use lib.Dec.{ltb, eqb}
use lib.ListN.{length, get_or}
use Rattle.answers.specs.declared.Refusal.TheVariants as refusal
use Rattle.std.specs.Prelude.{Option, Some, None, Result, Ok, Err}
use Rattle.answers.specs.declared.Refusal.{Refusal}
use Rattle.eit_section.specs.declared.Eit.{Eit}
use Rattle.section.specs.Ids.{origin_of}
use Rattle.section.specs.Judged.{collected_of}
use Rattle.section.specs.declared.header.Header.{Header}
use Rattle.eit_section.specs.Eit.{eit_of}
use Rattle.laws.proofs.Tests.{or_false}
use Rattle.rows.specs.Rows.{word, touched, kept_heads}
use Rattle.rows.specs.declared.Entry.{Entry}
use Rattle.rows.specs.declared.Room.{Room}
use Rattle.rows.proofs.Words.{touched_not, kept_row, kept_fresh, kept_known}
use Rattle.without_pid.specs.Pids.{without_pid}
use Rattle.without_pid.proofs.Rows.{one_without}
use Rattle.arrivals.specs.Arrivals.{Numbered, made_words, arrival_of, eit_fields, eit_read, eit_judged, eit_arrival, EitTaken}
use Rattle.arrivals.proofs.Facts.{eit_taken}
use Rattle.arrivals.specs.declared.Arrival.{Arrival}
use Rattle.placing.specs.Places.{place_of}
use Rattle.placing.specs.declared.Place.{Place}
use Rattle.placing.specs.declared.Place.TheVariants as place
use Rattle.schedules.specs.Schedules.{scheduled_heads}
use Rattle.eit_state.specs.declared.PushAnswer.TheVariants as answer
use Rattle.eit_state.specs.State.{Store, Rows, rows, rows_of, risen_rows, set_store, RowsFit, whole_of, counters_full}
use Rattle.eit_state.proofs.Whole.{whole_room}
use Rattle.eit_pids.specs.Rows.{any_without}
use Rattle.eit_pids.proofs.Heads.{each_with}
use Rattle.eit_plan.specs.declared.Keeping.{Keeping}
use Rattle.eit_plan.specs.declared.Plan.{Plan}
use Rattle.eit_plan.specs.declared.Plan.TheVariants as plan
use Rattle.eit_plan.specs.Plan.{free_cell, plan_placed, plan_of}
use Rattle.eit_becomes.specs.declared.Becomes.{Becomes}
use Rattle.eit_becomes.specs.declared.Becomes.TheVariants as becomes
use Rattle.eit_becomes.specs.Becoming.{becomes_of, is_marked}
use Rattle.eit_enter.specs.Entering.{schedule_entry, entered_in, entered}
use Rattle.eit_settle.specs.Settle.{marked_heads, settled_as, settled}
use Rattle.eit_carry.specs.Carried.{kept_and_settled, carried, pushed_whole}
use Rattle.eit_carry.proofs.Ways.{risen_fit}
use Rattle.eit_admit.specs.Admitting.{admitted}
use Rattle.eit.specs.Store.{pushed_as, pushed_of}
use Rattle.eit_keeps.specs.Keeps.{WholeStore, HasPids}
use Rattle.eit_keeps.proofs.Schedules.{Found}
use Rattle.eit_keeps.proofs.Stays.{means_store, marked_word, marked_length, room_for, found, KeepFits, PlanFits, kept_rows, kept_whole, plan_fits}

-- ---- the test for 41, both ways

pub has_pids : (s : Store) → any_without s.eit s.heads s.schedule_heads ≡ false → HasPids s
unfolding any_without
has_pids s e =
    let o = or_false (without_pid s.heads s.eit.sets.used) (without_pid s.schedule_heads s.eit.schedules) e in
    record {
      sets = λ i h z. true≢false (sym (one_without s.heads s.eit.sets.used i h z) ∙ o.0);
      schedules = λ k h z. true≢false (sym (one_without s.schedule_heads s.eit.schedules k h z) ∙ o.1);
    }

pub none_without : (s : Store) → HasPids s → any_without s.eit s.heads s.schedule_heads ≡ false
none_without s h = each_with s.eit s.heads s.schedule_heads h.sets h.schedules

-- the same of all but the cells
record RowPids (r : Rows) : Type 0 where
  pub sets : (i : ℕ) → i < r.eit.sets.used → word r.heads i 0 ≢ 8192
  pub schedules : (k : ℕ) → k < r.eit.schedules → word r.schedule_heads k 0 ≢ 8192

-- ---- a head is written: its row has its PID

module _ (heads : List ℕ) (held : ℕ) (r : Room) (e : Entry) (room : r.row * 12 + 12 ≤ length heads) (next : r.row ≤ held) (all : r.used ≤ max held (r.row + 1)) (known : r.fresh ≡ false → r.row < held)
    (n : e.key.from.pid ≢ 8192) (h : (i : ℕ) → i < held → word heads i 0 ≢ 8192) where
  own : (b : Bool) → r.fresh ≡ b → word (kept_heads r e heads) r.row 0 ≢ 8192
  own true f z = n (sym (kept_fresh r e heads room f 0 (omega arith)) ∙ z)
  own false f z = h r.row (known f) (sym (kept_known r e heads room f 0 (omega arith) (omega arith)) ∙ z)

  kept_pid : (j : ℕ) → j < r.used → Dec (j ≡ r.row) → word (kept_heads r e heads) j 0 ≢ 8192
  kept_pid j l (yes q) z = own r.fresh refl (subst (λ (x : ℕ). word (kept_heads r e heads) x 0 ≡ 8192) q z)
  kept_pid j l (no d) z = let d' : j ≢ r.row = d in h j (omega (arith, next, all, l, d')) (sym (kept_row r e heads room j 0 d (omega arith)) ∙ z)

-- ---- a row is settled

module _ (a : Arrival) (i : ℕ) (n : a.entry.key.from.pid ≢ 8192) where
  entered_pids : (r : Rows) → RowsFit r → i < r.eit.sets.used → RowPids r → RowPids (entered r a i).rows
  unfolding entered entered_in scheduled_heads
  entered_pids r f h p = record { sets = p.sets; schedules = each }
    where
      o : Found r.eit.sets.limit r.eit.schedules (room_for a i r)
      o = found a i r f h

      in_heads : (room_for a i r).room.row * 12 + 12 ≤ length r.schedule_heads
      in_heads = let x = o.row in let y = o.room in let z = f.schedule_heads_long in omega arith

      each : (k : ℕ) → k < (room_for a i r).room.used → word (touched r.eit.sets.clock (room_for a i r).room.row (kept_heads (room_for a i r).room (schedule_entry a) r.schedule_heads)) k 0 ≢ 8192
      each k l z =
          kept_pid r.schedule_heads r.eit.schedules (room_for a i r).room (schedule_entry a) in_heads o.next o.all o.known n p.schedules k l (ℕ_discrete k (room_for a i r).room.row)
          (sym (touched_not r.eit.sets.clock (room_for a i r).room.row (kept_heads (room_for a i r).room (schedule_entry a) r.schedule_heads) k 0 (omega arith) (omega arith)) ∙ z)

  as_pids : (b : Becomes) (r : Rows) → RowsFit r → i < r.eit.sets.used → RowPids r → RowPids (settled_as b r a i).rows
  as_pids becomes.Stays r f h p = p
  as_pids becomes.GoesOut r f h p = p
  as_pids becomes.OutOfRange r f h p = p
  as_pids becomes.Enters r f h p = entered_pids r f h p

  settled_pids : (r : Rows) → RowsFit r → i < r.eit.sets.used → RowPids r → RowPids (settled r a i).rows
  unfolding settled
  settled_pids r f h p =
      let heads : List ℕ = touched r.eit.sets.clock i r.heads in
      let b : Becomes = becomes_of heads r.slots a i in
      let l : length (marked_heads (is_marked b) i heads) ≡ length r.heads = marked_length (is_marked b) r.eit.sets.clock i r.heads in
      as_pids b (rows r.eit (marked_heads (is_marked b) i heads) r.slots r.schedule_heads r.units)
      (record {
        used = f.used;
        heads_long = rw l f.heads_long;
        slots_long = f.slots_long;
        schedule_heads_long = f.schedule_heads_long;
        units_long = f.units_long;
        schedules = f.schedules;
      }) h
      (record { sets = λ j k z. p.sets j k (sym (marked_word (is_marked b) r.eit.sets.clock i r.heads j 0 (omega arith) (omega arith) (omega arith)) ∙ z); schedules = p.schedules })

-- ---- every plan

-- the PID of what is kept or repeated
abbrev PlanPid : Plan → Type 0
PlanPid (plan.Leave x) = Unit {0}
PlanPid (plan.Conflict i) = Unit {0}
PlanPid (plan.Repeat x) = x.arrival.entry.key.from.pid ≢ 8192
PlanPid (plan.Keep k) = k.arrival.entry.key.from.pid ≢ 8192

module _ (s : Store) (bytes : List ℕ) (w : WholeStore s) (h : HasPids s) where
  before : RowPids (risen_rows (rows_of s))
  before = record { sets = h.sets; schedules = h.schedules }

  kept_pids : (k : Keeping) → KeepFits s bytes k → k.arrival.entry.key.from.pid ≢ 8192 → RowPids (kept_rows s bytes k)
  kept_pids k o n = record {
    sets = λ j l. kept_pid s.heads s.eit.sets.used k.room k.arrival.entry room o.room.next o.room.all o.room.known n h.sets j l (ℕ_discrete j k.room.row);
    schedules = h.schedules;
  }
    where
      room : k.room.row * 12 + 12 ≤ length s.heads
      room = let a = w.fits.sets.heads_long in let b = o.room.room in let c = o.room.row in omega arith

  carried_pids : 12 ≤ length bytes → (p : Plan) → PlanFits s bytes p → PlanPid p → HasPids (carried s bytes p).store
  unfolding kept_and_settled
  carried_pids long (plan.Leave x) o n = h
  carried_pids long (plan.Conflict i) o n = record { sets = λ j l z. h.sets j l (sym (touched_not (s.eit.sets.clock + 1) i s.heads j 0 (omega arith) (omega arith)) ∙ z); schedules = h.schedules }
  carried_pids long (plan.Repeat x) o n = let p = settled_pids x.arrival x.row n (risen_rows (rows_of s)) (risen_fit (rows_of s) (whole_room s w.fits)) o before in record { sets = p.sets; schedules = p.schedules }
  carried_pids long (plan.Keep k) o n =
      let p = settled_pids k.arrival k.room.row n (kept_rows s bytes k) (kept_whole s bytes k w o long).fit o.room.row (kept_pids k o n) in
      record { sets = p.sets; schedules = p.schedules }

-- what is planned for an arrival has the arrival's PID
module _ (s : Store) (bytes : List ℕ) (a : Arrival) (n : a.entry.key.from.pid ≢ 8192) where
  placed_pid : (p : Place) → PlanPid (plan_placed s a p)
  placed_pid (place.Conflict i) = tt
  placed_pid (place.Repeat i) = n
  placed_pid (place.Goes r) = go (ltb (free_cell (rows_of s) (place.Goes r)) s.eit.sets.count)
    where
      go : (b : Bool) → PlanPid (cond b (plan.Keep (record { arrival = a; room = r; cell = free_cell (rows_of s) (place.Goes r) })) (plan.Leave (answer.Refused refusal.NoCell)))
      go true = n
      go false = tt

  plan_pid : PlanPid (plan_of s bytes a)
  unfolding plan_of
  plan_pid = go (ltb s.eit.sets.size (length bytes)) (eqb s.eit.sets.limit 0)
    where
      go : (x y : Bool) → PlanPid (cond x (plan.Leave (answer.Refused refusal.TooLong)) (cond y (plan.Leave answer.Nothing) (plan_placed s a (place_of (set_store s) a.entry bytes))))
      go true y = tt
      go false true = tt
      go false false = placed_pid (place_of (set_store s) a.entry bytes)

-- the part behind the refusals
arrived_pids : (s : Store) (bytes : List ℕ) → WholeStore s → HasPids s → (a : Arrival) → 12 ≤ length bytes → Numbered a.entry → a.entry.key.from.pid ≢ 8192 → HasPids (pushed_whole s bytes a).store
unfolding pushed_whole
arrived_pids s bytes w h a l m n = carried_pids s bytes w h l (plan_of s bytes a) (plan_fits s bytes w a m) (plan_pid s bytes a n)

-- ---- a call

-- a section that arrived has a PID
arrived_pid : (input : ℕ) (pid : Option ℕ) (bytes : List ℕ) (a : Arrival) → eit_arrival input pid bytes ≡ Ok a → a.entry.key.from.pid ≢ 8192
unfolding eit_arrival
arrived_pid input None bytes a q z = let y : ◌≡◌ {A = ℕ} 0 1 = cc in omega arith
arrived_pid input (Some v) bytes a q z = go (ltb v 8192) (ltb input 16) refl q
  where
    fields : (h : Header) (c : Result Eit Refusal) → v < 8192 → eit_fields (record { input = input; pid = v }) h c ≡ Ok a → ⊥
    fields h (Err r) l f = let y : ◌≡◌ {A = ℕ} 0 1 = cc in omega arith
    fields h (Ok g) l f =
        let x : arrival_of (record { input = input; pid = v }) h g ≡ a = cc in
        let y : v ≡ a.entry.key.from.pid = ap (λ (t : Arrival). t.entry.key.from.pid) x in
        omega (arith, l, y, z)

    read : (c : Result Header Refusal) → v < 8192 → eit_read (record { input = input; pid = v }) bytes c ≡ Ok a → ⊥
    read (Err r) l f = let y : ◌≡◌ {A = ℕ} 0 1 = cc in omega arith
    read (Ok h) l f = fields h (eit_of bytes) l f

    go : (b c : Bool) → ltb v 8192 ≡ b → eit_judged (made_words (cond b (cond c (Ok (origin_of input v)) (Err refusal.BadInput)) (Err refusal.BadPid))) bytes ≡ Ok a → ⊥
    go true true l f = read (collected_of bytes) (ltb-true v 8192 l) f
    go true false l f = let y : ◌≡◌ {A = ℕ} 0 1 = cc in omega arith
    go false c l f = let y : ◌≡◌ {A = ℕ} 0 1 = cc in omega arith

-- of every store, whole or not
pub push_pids : (s : Store) (input : ℕ) (pid : Option ℕ) (bytes : List ℕ) → get_or bytes 7 0 < 256 → HasPids s → HasPids (pushed_of s input pid bytes).store
unfolding pushed_of admitted
push_pids s input pid bytes b h = rw (none_without s h) (go (whole_of s) (counters_full s.eit) refl)
  where
    arrived : WholeStore s → (v : Result Arrival Refusal) → eit_arrival input pid bytes ≡ v → EitTaken bytes v → HasPids (pushed_as s bytes v).store
    arrived w (Err r) q o = h
    arrived w (Ok a) q o = arrived_pids s bytes w h a o.long o.numbered (arrived_pid input pid bytes a q)

    go : (w f : Bool) → whole_of s ≡ w → HasPids (pushed_as s bytes (cond w (cond f (Err refusal.CounterFull) (eit_arrival input pid bytes)) (Err refusal.NotWhole))).store
    go false f q = h
    go true true q = h
    go true false q = arrived (means_store s q) (eit_arrival input pid bytes) refl (eit_taken bytes b input pid)
