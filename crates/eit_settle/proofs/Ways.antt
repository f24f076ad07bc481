-- One law for each way out.
-- Assumes nothing.
use mathlib.Core.Path.{◌≡◌, refl}
use mathlib.Core.List.{List}
use mathlib.Core.Bool.{Bool, true, false}
use Prim.Native.Nat.{ℕ, ◌+◌, ◌*◌}
use lib.ListN.{length, length-set}
use Rattle.answers.specs.declared.Refusal.TheVariants as refusal
use Rattle.rows.specs.Rows.{touched, with_mark}
use Rattle.arrivals.specs.declared.Arrival.{Arrival}
use Rattle.eit_state.specs.declared.Eit.{Eit}
use Rattle.eit_state.specs.declared.PushAnswer.TheVariants as answer
use Rattle.eit_state.specs.State.{rows}
use Rattle.eit_becomes.specs.declared.Becomes.{Becomes}
use Rattle.eit_becomes.specs.declared.Becomes.TheVariants as becomes
use Rattle.eit_becomes.specs.Becoming.{becomes_of, is_marked}
use Rattle.eit_enter.specs.Entering.{Settled, entered, SettleOk}
use Rattle.eit_settle.specs.Settle.{marked_heads, settled_as, settled}

module _ (heads : List ℕ) (b : Bool) (i : ℕ) where
  pub mark_set : (heads' : List ℕ) → b ≡ true → heads' ≡ with_mark i 1 heads → heads' ≡ marked_heads b i heads
  mark_set heads' t e = rw t e

  pub mark_clear : b ≡ false → heads ≡ marked_heads b i heads
  mark_clear t = rw t

pub length_marked : (b : Bool) (i : ℕ) (heads : List ℕ) → length (marked_heads b i heads) ≡ length heads
length_marked true i heads = length-set heads (i * 12 + 8) 1
length_marked false i heads = refl

module _ (e : Eit) (heads slots schedule_heads units : List ℕ) (a : Arrival) (i : ℕ) (b : Becomes) where
  pub as_stays : b ≡ becomes.Stays → ◌≡◌ {A = Settled} (record { answer = answer.Nothing; rows = rows e heads slots schedule_heads units }) (settled_as b (rows e heads slots schedule_heads units) a i)
  as_stays h = rw h

  pub as_out : b ≡ becomes.GoesOut → ◌≡◌ {A = Settled} (record { answer = answer.Set i; rows = rows e heads slots schedule_heads units }) (settled_as b (rows e heads slots schedule_heads units) a i)
  as_out h = rw h

  pub as_range : b ≡ becomes.OutOfRange → ◌≡◌ {A = Settled} (record { answer = answer.Refused refusal.Range; rows = rows e heads slots schedule_heads units }) (settled_as b (rows e heads slots schedule_heads units) a i)
  as_range h = rw h

  pub as_entered : (l : Settled) → b ≡ becomes.Enters → l ≡ entered (rows e heads slots schedule_heads units) a i → l ≡ settled_as b (rows e heads slots schedule_heads units) a i
  as_entered l h g = rw h g

pub settle_done : (e : Eit) (heads slots schedule_heads units : List ℕ) (a : Arrival) (i : ℕ) (h : List ℕ) (b : Becomes) (m : Bool) (h' : List ℕ) (l : Settled)
    → h ≡ touched e.sets.clock i heads → b ≡ becomes_of h slots a i → m ≡ is_marked b → h' ≡ marked_heads m i h → l ≡ settled_as b (rows e h' slots schedule_heads units) a i
    → l ≡ settled (rows e heads slots schedule_heads units) a i
unfolding settled
settle_done e heads slots schedule_heads units a i h b m h' l eh eb em eh' g = rw (← eh, ← eb, ← em, ← eh') g

-- rows of other heads, as many
pub settle_may : (e : Eit) (heads slots schedule_heads units : List ℕ) (i : ℕ) (h : List ℕ) → SettleOk (rows e heads slots schedule_heads units) i → length h ≡ length heads → SettleOk (rows e h slots schedule_heads units) i
settle_may e heads slots schedule_heads units i h o l =
    let r = o.room in
    record {
      row = o.row;
      room = record {
        used = r.used;
        heads_long = rw l r.heads_long;
        slots_long = r.slots_long;
        schedule_heads_long = r.schedule_heads_long;
        units_long = r.units_long;
        schedules = r.schedules;
      };
      counts = o.counts;
    }
