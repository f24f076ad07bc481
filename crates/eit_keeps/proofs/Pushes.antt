-- Every push keeps a store that is whole so, and does not answer 10 to it.
-- Assumes nothing.
use mathlib.Core.Path.{◌≡◌, refl, ap, subst}
use mathlib.Core.Logic.{◌≢◌}
use mathlib.Core.Bool.{Bool, true, false, cond}
use mathlib.Core.List.{List}
use Prim.Native.Nat.{ℕ, ◌<◌}
use native.Mathlib.Omega.{arith}
use borrow.Author.Tests.{eqb-false}
use lib.Dec.{eqb, ltb}
use lib.ListN.{length, get_or}
use Rattle.answers.specs.Answers.{refusal_no}
use Rattle.answers.specs.declared.Refusal.{Refusal}
use Rattle.answers.specs.declared.Refusal.TheVariants as refusal
use Rattle.section.specs.Judged.{collected_of}
use Rattle.section.specs.declared.header.Header.{Header}
use Rattle.std.specs.Prelude.{Option, Some, None, Result, Ok, Err}
use Rattle.section.specs.declared.ids.Origin as section_origin
use Rattle.eit_section.specs.declared.Eit.{Eit}
use Rattle.section.specs.Ids.{origin_made}
use Rattle.eit_section.specs.Eit.{eit_of}
use Rattle.eit_section.proofs.Laws.{eit_refused_by}
use Rattle.section.proofs.Refused.{origin_refused_by, collect_refused_by}
use Rattle.rows.specs.Rows.{touched}
use Rattle.rows.specs.declared.Origin.{Origin}
use Rattle.rows.specs.declared.Room.{Room}
use Rattle.arrivals.specs.Arrivals.{made_words, eit_fields, eit_read, eit_judged, eit_arrival, EitTaken}
use Rattle.arrivals.proofs.Facts.{eit_taken}
use Rattle.arrivals.specs.declared.Arrival.{Arrival}
use Rattle.placing.specs.Places.{place_of}
use Rattle.placing.specs.declared.Place.{Place}
use Rattle.placing.specs.declared.Place.TheVariants as place
use Rattle.schedules.specs.Schedules.{scheduled_units, tables_there}
use Rattle.eit_state.specs.declared.PushAnswer.{PushAnswer}
use Rattle.eit_state.specs.declared.PushAnswer.TheVariants as answer
use Rattle.eit_state.specs.State.{Store, Rows, rows, rows_of, risen_rows, set_store, counters_full}
use Rattle.eit_pids.specs.Rows.{any_without}
use Rattle.eit_plan.specs.declared.Plan.TheVariants as plan
use Rattle.eit_plan.specs.Plan.{free_cell, plan_placed, plan_of}
use Rattle.eit_becomes.specs.declared.Becomes.{Becomes}
use Rattle.eit_becomes.specs.declared.Becomes.TheVariants as becomes
use Rattle.eit_becomes.specs.Becoming.{own_table, becomes_of, is_marked}
use Rattle.eit_enter.specs.Entering.{schedule_entry, entered_answer, entered_in, entered}
use Rattle.eit_settle.specs.Settle.{marked_heads, settled_as, settled}
use Rattle.eit_carry.specs.Carried.{kept_and_settled, carried, pushed_whole}
use Rattle.eit_admit.specs.Admitting.{admitted}
use Rattle.eit.specs.Store.{refused, answer_of, pushed_as, pushed_of}
use Rattle.eit_keeps.specs.Keeps.{WholeStore}
use Rattle.eit_keeps.proofs.Stays.{store_means, room_for, whole_stays}

-- ---- it stays whole

as_stays : (s : Store) (bytes : List ℕ) → WholeStore s → (v : Result Arrival Refusal) → EitTaken bytes v → WholeStore (pushed_as s bytes v).store
as_stays s bytes w (Err r) o = w
as_stays s bytes w (Ok a) o = whole_stays s bytes w o.long a o.numbered

pub push_stays : (s : Store) (input : ℕ) (pid : Option ℕ) (bytes : List ℕ) → get_or bytes 7 0 < 256 → WholeStore s → WholeStore (pushed_of s input pid bytes).store
unfolding pushed_of admitted
push_stays s input pid bytes b w = rw (store_means s w) (go (counters_full s.eit) (any_without s.eit s.heads s.schedule_heads))
  where
    go : (f n : Bool) → WholeStore (pushed_as s bytes (cond f (Err refusal.CounterFull) (cond n (Err refusal.NoPid) (eit_arrival input pid bytes)))).store
    go true n = w
    go false true = w
    go false false = as_stays s bytes w (eit_arrival input pid bytes) (eit_taken bytes b input pid)

-- ---- by what a section is refused before any store is looked at: 41, 12, 37, 14 to 19

module _ (s : List ℕ) (P : Refusal → Type 0) (no_pid_lem : P refusal.NoPid) (pid : P refusal.BadPid) (input : P refusal.BadInput) (malformed : P refusal.Malformed) (short : P refusal.ShortForm) (number : P refusal.BadNumber) (crc : P refusal.BadCrc)
    (not_eit : P refusal.NotEit) (broken : P refusal.Broken) where
  fields_by : (p : Origin) (h : Header) (c : Result Eit Refusal) (r : Refusal) → eit_of s ≡ c → eit_fields p h c ≡ Err r → P r
  fields_by p h (Err w) r e q = let z : w ≡ r = cc in subst P z (eit_refused_by P not_eit broken s w e)
  fields_by p h (Ok f) r e q = let z : ◌≡◌ {A = ℕ} 0 1 = cc in absurd (omega arith)

  read_by : (p : Origin) (c : Result Header Refusal) (r : Refusal) → collected_of s ≡ c → eit_read p s c ≡ Err r → P r
  read_by p (Err w) r e q = let z : w ≡ r = cc in subst P z (collect_refused_by P short malformed number crc s w e)
  read_by p (Ok h) r e q = fields_by p h (eit_of s) r refl q

  made_by : (i v : ℕ) (m : Result section_origin.Origin Refusal) (r : Refusal) → origin_made i v ≡ m → eit_judged (made_words m) s ≡ Err r → P r
  made_by i v (Ok o) r e q = read_by (record { input = o.input.0; pid = o.pid.0 }) (collected_of s) r refl q
  made_by i v (Err w) r e q = let z : w ≡ r = cc in subst P z (origin_refused_by P pid input i v w e)

  pub arrival_refused_by : (i : ℕ) (m : Option ℕ) (r : Refusal) → eit_arrival i m s ≡ Err r → P r
  unfolding eit_arrival
  arrival_refused_by i None r q = let z : refusal.NoPid ≡ r = cc in subst P z no_pid_lem
  arrival_refused_by i (Some v) r q = made_by i v (origin_made i v) r refl q

-- ---- 10 is not told

-- whether an answer is 10
ten : PushAnswer → Bool
ten answer.Nothing = false
ten (answer.Set i) = false
ten (answer.Schedule k) = false
ten (answer.Refused r) = eqb (refusal_no r) 10

not_ten : (x : PushAnswer) (s : Store) → ten x ≡ false → answer_of x s ≢ refused refusal.NotWhole
unfolding ten
not_ten answer.Nothing s e q = let z : ◌≡◌ {A = ℕ} 0 1 = cc in omega arith
not_ten (answer.Set i) s e q = let z : ◌≡◌ {A = ℕ} 0 1 = cc in omega arith
not_ten (answer.Schedule k) s e q = let z : ◌≡◌ {A = ℕ} 0 1 = cc in omega arith
not_ten (answer.Refused r) s e q = let z : r ≡ refusal.NotWhole = cc in eqb-false (refusal_no r) 10 e (ap refusal_no z)

ten_entered : (r : Rows) (a : Arrival) (i : ℕ) → ten (entered r a i).answer ≡ false
unfolding entered entered_in ten
ten_entered r a i =
    go (tables_there (scheduled_units r.heads r.slots r.eit.sets.used (schedule_entry a) (own_table a) i (room_for a i r) r.units) (room_for a i r).room.row (schedule_entry a)) (room_for a i r).room.row
  where
    go : (all : Bool) (row : ℕ) → ten (entered_answer all row) ≡ false
    go true row = refl
    go false row = refl

ten_as : (b : Becomes) (r : Rows) (a : Arrival) (i : ℕ) → ten (settled_as b r a i).answer ≡ false
unfolding ten
ten_as becomes.Stays r a i = refl
ten_as becomes.GoesOut r a i = refl
ten_as becomes.OutOfRange r a i = refl
ten_as becomes.Enters r a i = ten_entered r a i

ten_settled : (r : Rows) (a : Arrival) (i : ℕ) → ten (settled r a i).answer ≡ false
unfolding settled
ten_settled r a i =
    let heads : List ℕ = touched r.eit.sets.clock i r.heads in
    let b : Becomes = becomes_of heads r.slots a i in
    ten_as b (rows r.eit (marked_heads (is_marked b) i heads) r.slots r.schedule_heads r.units) a i

ten_kept : (s : Store) (bytes : List ℕ) (a : Arrival) (r : Room) (c : ℕ) → ten (kept_and_settled s bytes (record { arrival = a; room = r; cell = c })).answer ≡ false
unfolding kept_and_settled
ten_kept s bytes a r c = ten_settled _ a r.row

ten_placed : (s : Store) (bytes : List ℕ) (a : Arrival) (p : Place) → ten (carried s bytes (plan_placed s a p)).answer ≡ false
unfolding ten
ten_placed s bytes a (place.Conflict i) = refl
ten_placed s bytes a (place.Repeat i) = ten_settled (risen_rows (rows_of s)) a i
ten_placed s bytes a (place.Goes r) = go (ltb (free_cell (rows_of s) (place.Goes r)) s.eit.sets.count)
  where
    go : (b : Bool) → ten (carried s bytes (cond b (plan.Keep (record { arrival = a; room = r; cell = free_cell (rows_of s) (place.Goes r) })) (plan.Leave (answer.Refused refusal.NoCell)))).answer ≡ false
    go true = ten_kept s bytes a r (free_cell (rows_of s) (place.Goes r))
    go false = refl

ten_planned : (s : Store) (bytes : List ℕ) (a : Arrival) → ten (pushed_whole s bytes a).answer ≡ false
unfolding pushed_whole plan_of ten
ten_planned s bytes a = go (ltb s.eit.sets.size (length bytes)) (eqb s.eit.sets.limit 0)
  where
    go : (x y : Bool) → ten (carried s bytes (cond x (plan.Leave (answer.Refused refusal.TooLong)) (cond y (plan.Leave answer.Nothing) (plan_placed s a (place_of (set_store s) a.entry bytes))))).answer ≡ false
    go true y = refl
    go false true = refl
    go false false = ten_placed s bytes a (place_of (set_store s) a.entry bytes)

refused_not : (r : Refusal) (s : Store) → eqb (refusal_no r) 10 ≡ false → refused r ≢ refused refusal.NotWhole
refused_not r s e q = let z : r ≡ refusal.NotWhole = cc in eqb-false (refusal_no r) 10 e (ap refusal_no z)

pub push_not_ten : (s : Store) (input : ℕ) (pid : Option ℕ) (bytes : List ℕ) → WholeStore s → (pushed_of s input pid bytes).told ≢ refused refusal.NotWhole
unfolding pushed_of admitted
push_not_ten s input pid bytes w = rw (store_means s w) (go (counters_full s.eit) (any_without s.eit s.heads s.schedule_heads))
  where
    arrived : (v : Result Arrival Refusal) → eit_arrival input pid bytes ≡ v → (pushed_as s bytes v).told ≢ refused refusal.NotWhole
    arrived (Err r) q = refused_not r s (arrival_refused_by bytes (λ r. eqb (refusal_no r) 10 ≡ false) refl refl refl refl refl refl refl refl refl input pid r q)
    arrived (Ok a) q = not_ten (pushed_whole s bytes a).answer (pushed_whole s bytes a).store (ten_planned s bytes a)

    go : (f n : Bool) → (pushed_as s bytes (cond f (Err refusal.CounterFull) (cond n (Err refusal.NoPid) (eit_arrival input pid bytes)))).told ≢ refused refusal.NotWhole
    go true n = refused_not refusal.CounterFull s refl
    go false true = refused_not refusal.NoPid s refl
    go false false = arrived (eit_arrival input pid bytes) refl
