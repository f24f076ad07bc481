-- One law for each way out.
-- Assumes nothing.
use mathlib.Core.Path.{◌≡◌}
use mathlib.Core.List.{List}
use mathlib.Core.Bool.{Bool, true, false}
use Prim.Native.Nat.{ℕ, ◌+◌, ◌*◌, ◌≤◌, ◌<◌}
use native.Mathlib.Omega.{arith}
use lib.ListN.{length}
use Rattle.rows.specs.declared.Key.{Key}
use Rattle.rows.specs.declared.Entry.{Entry}
use Rattle.arrivals.specs.declared.Arrival.{Arrival}
use Rattle.units.specs.Units.{with_table}
use Rattle.schedules.specs.Schedules.{room_of, scheduled_heads, scheduled_units, tables_there, RoomFits}
use Rattle.schedules.specs.declared.ScheduleRoom.{ScheduleRoom}
use Rattle.schedules.proofs.Laws.{room_may}
use Rattle.eit_state.specs.declared.Eit.{Eit}
use Rattle.eit_state.specs.declared.PushAnswer.{PushAnswer}
use Rattle.eit_state.specs.declared.PushAnswer.TheVariants as answer
use Rattle.eit_state.specs.State.{rows, with_schedules}
use Rattle.eit_becomes.specs.Becoming.{own_table}
use Rattle.eit_enter.specs.Entering.{schedule_entry, entered_answer, Settled, entered_in, entered, SettleOk}

pub entry_made : (a : Arrival) (k : Key) → k ≡ with_table a.entry.key a.kind → ◌≡◌ {A = Entry} (record { key = k; version = 0; last = a.tables; number = 0 }) (schedule_entry a)
entry_made a k e = rw e

pub answer_out : (all : Bool) (row : ℕ) → all ≡ true → answer.Schedule row ≡ entered_answer all row
answer_out all row e = rw e

pub answer_none : (all : Bool) (row : ℕ) → all ≡ false → answer.Nothing ≡ entered_answer all row
answer_none all row e = rw e

room_fits : (e : Eit) (heads slots schedule_heads units : List ℕ) (i : ℕ) (s : Entry) (r : ScheduleRoom) → SettleOk (rows e heads slots schedule_heads units) i
    → r ≡ room_of schedule_heads e.sets.limit e.schedules e.schedule_evictions s → RoomFits e.sets.limit r
room_fits e heads slots schedule_heads units i s r o q =
    let k = o.room in
    let row = o.row in
    room_may schedule_heads e.sets.limit e.schedules e.schedule_evictions s r (omega arith) k.schedules q

module _ (e : Eit) (heads slots schedule_heads units : List ℕ) (i : ℕ) (s : Entry) (r : ScheduleRoom) (o : SettleOk (rows e heads slots schedule_heads units) i)
    (q : r ≡ room_of schedule_heads e.sets.limit e.schedules e.schedule_evictions s) where
  pub room_row : r.room.row < r.room.used
  room_row = (room_fits e heads slots schedule_heads units i s r o q).row

  pub room_heads : r.room.used * 12 ≤ length schedule_heads
  room_heads = let f = room_fits e heads slots schedule_heads units i s r o q in let k = o.room in omega arith

  pub room_units : (u : List ℕ) → length u ≡ length units → (r.room.row * 16 + 16) * 288 ≤ length u
  room_units u l = let f = room_fits e heads slots schedule_heads units i s r o q in let k = o.room in omega arith

pub entered_done : (e : Eit) (heads slots schedule_heads units : List ℕ) (a : Arrival) (i : ℕ) (s : Entry) (r : ScheduleRoom) (t u : List ℕ) (own : ℕ) (all : Bool) (x : PushAnswer) (e' : Eit)
    → s ≡ schedule_entry a → r ≡ room_of schedule_heads e.sets.limit e.schedules e.schedule_evictions s → t ≡ scheduled_heads e.sets.clock r.room s schedule_heads → own ≡ own_table a
    → u ≡ scheduled_units heads slots e.sets.used s own i r units → all ≡ tables_there u r.room.row s → x ≡ entered_answer all r.room.row
    → e' ≡ with_schedules e r.room.used r.room.evictions
    → ◌≡◌ {A = Settled} (record { answer = x; rows = rows e' heads slots t u }) (entered (rows e heads slots schedule_heads units) a i)
unfolding entered entered_in
entered_done e heads slots schedule_heads units a i s r t u own all x e' es er et eo eu ea ex ee = rw (ee, ex, ea, et, eu, eo, er, es)
