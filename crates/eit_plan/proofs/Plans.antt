-- One law for each way out of the functions that decide what a section does.
-- Assumes nothing.
use mathlib.Core.Path.{◌≡◌, refl, sym, ap, ◌∙◌}
use mathlib.Core.List.{List}
use mathlib.Core.Bool.{Bool, true, false, cond}
use Prim.Native.Nat.{ℕ, ◌+◌, ◌*◌, ◌≤◌, ◌<◌}
use native.Mathlib.Omega.{arith}
use borrow.Author.Tests.{eq-eqb, ne_eqb, lt-ltb, le-ltb}
use lib.Dec.{eqb, ltb}
use lib.ListN.{length}
use Rattle.answers.specs.declared.Refusal.TheVariants as refusal
use Rattle.cells.specs.Cells.{lowest_free}
use Rattle.rows.specs.Rows.{gone_row}
use Rattle.rows.specs.declared.Room.{Room as RoomFound}
use Rattle.store.specs.Store as sets
use Rattle.arrivals.specs.declared.Arrival.{Arrival}
use Rattle.placing.specs.Places.{place_of}
use Rattle.placing.specs.declared.Place.{Place}
use Rattle.placing.specs.declared.Place.TheVariants as place
use Rattle.schedules.specs.Schedules.{taken_anywhere}
use Rattle.eit_state.specs.declared.Eit.{Eit}
use Rattle.eit_state.specs.declared.PushAnswer.TheVariants as answer
use Rattle.eit_state.specs.State.{Store, store, Rows, rows, rows_of, set_store, Whole, CanCount}
use Rattle.eit_plan.specs.declared.Plan.{Plan}
use Rattle.eit_plan.specs.declared.Plan.TheVariants as plan
use Rattle.eit_plan.specs.Plan.{free_cell, plan_at, plan_placed, plan_of}

-- ---- a cell

module _ (r : Rows) (p : Place) where
  pub cell_conflict : (i : ℕ) → p ≡ place.Conflict i → r.eit.sets.count ≡ free_cell r p
  cell_conflict i e = rw e

  pub cell_repeat : (i : ℕ) → p ≡ place.Repeat i → r.eit.sets.count ≡ free_cell r p
  cell_repeat i e = rw e

  pub cell_goes : (room : RoomFound) (gone c : ℕ) → p ≡ place.Goes room → gone ≡ gone_row room r.eit.sets.used
      → c ≡ lowest_free (taken_anywhere r.heads r.slots r.schedule_heads r.units gone r.eit.sets.used r.eit.schedules) r.eit.sets.count
      → c ≡ free_cell r p
  cell_goes room gone c e g q = rw (e, ← g) q

-- ---- the plan

module _ (count : ℕ) (a : Arrival) (p : Place) (c : ℕ) where
  pub at_conflict : (i : ℕ) → p ≡ place.Conflict i → plan.Conflict i ≡ plan_at count a p c
  at_conflict i e = rw e

  pub at_repeat : (i : ℕ) → p ≡ place.Repeat i → plan.Repeat (record { arrival = a; row = i }) ≡ plan_at count a p c
  at_repeat i e = rw e

  pub at_cell : (room : RoomFound) → p ≡ place.Goes room → c < count → plan.Keep (record { arrival = a; room = room; cell = c }) ≡ plan_at count a p c
  at_cell room e h = rw (e, lt-ltb c count h)

  pub at_none : (room : RoomFound) → p ≡ place.Goes room → count ≤ c → plan.Leave (answer.Refused refusal.NoCell) ≡ plan_at count a p c
  at_none room e h = rw (e, le-ltb c count h)

module _ (e : Eit) (heads slots cells schedule_heads units bytes : List ℕ) (a : Arrival) where
  pub plan_long : e.sets.size < length bytes → plan.Leave (answer.Refused refusal.TooLong) ≡ plan_of (store e heads slots cells schedule_heads units) bytes a
  unfolding plan_of
  plan_long h = rw (lt-ltb e.sets.size (length bytes) h)

  pub plan_silent : length bytes ≤ e.sets.size → e.sets.limit ≡ 0 → plan.Leave answer.Nothing ≡ plan_of (store e heads slots cells schedule_heads units) bytes a
  unfolding plan_of
  plan_silent h z = rw (le-ltb e.sets.size (length bytes) h, eq-eqb e.sets.limit 0 z)

  pub plan_placed_lem : (p : Place) (c : ℕ) (q : Plan) → length bytes ≤ e.sets.size → (e.sets.limit ≡ 0 → ⊥) → p ≡ place_of (sets.store e.sets heads slots cells) a.entry bytes
      → c ≡ free_cell (rows e heads slots schedule_heads units) p → q ≡ plan_at e.sets.count a p c → q ≡ plan_of (store e heads slots cells schedule_heads units) bytes a
  unfolding plan_of
  plan_placed_lem p c q h z f g k = rw (le-ltb e.sets.size (length bytes) h, ne_eqb e.sets.limit 0 z, ← f, ← g) k

-- ---- what the parts ask

pub whole_sets : (e : Eit) (heads slots cells schedule_heads units : List ℕ) → Whole (store e heads slots cells schedule_heads units) → sets.Whole e.sets heads slots cells
whole_sets e heads slots cells schedule_heads units w = w.sets

pub sets_count : (e : Eit) → (e.sets.limit ≡ 0 → ⊥) → CanCount e → (0 < e.sets.limit) × (e.sets.evictions < 18446744073709551615)
sets_count e z h = (omega arith, h.sets)

pub few_cells : (e : Eit) (heads slots cells schedule_heads units : List ℕ) → Whole (store e heads slots cells schedule_heads units) → e.sets.count ≤ 65535
few_cells e heads slots cells schedule_heads units w = w.sets.few
