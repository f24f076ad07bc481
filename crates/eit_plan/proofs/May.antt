-- What is decided can be carried out: a plan names rows in use, a cell below count and a section that fits it.
-- Assumes nothing.
use mathlib.Core.Path.{◌≡◌, refl, sym, subst}
use mathlib.Core.List.{List}
use mathlib.Core.Bool.{Bool, true, false, cond}
use Prim.Native.Nat.{ℕ, ◌≤◌, ◌<◌}
use native.Mathlib.Omega.{arith}
use borrow.Author.Tests.{ltb-true, ltb-false, eqb-false}
use lib.Dec.{eqb, ltb}
use lib.ListN.{length}
use Rattle.answers.specs.declared.Refusal.TheVariants as refusal
use Rattle.rows.specs.declared.Room.{Room as RoomFound}
use Rattle.arrivals.specs.Arrivals.{Numbered}
use Rattle.arrivals.specs.declared.Arrival.{Arrival}
use Rattle.placing.specs.Places.{place_of, PlaceOk, RoomOk}
use Rattle.placing.specs.declared.Place.{Place}
use Rattle.placing.specs.declared.Place.TheVariants as place
use Rattle.placing.proofs.Laws.{place_ok}
use Rattle.eit_state.specs.declared.PushAnswer.TheVariants as answer
use Rattle.eit_state.specs.State.{Store, rows_of, set_store, Whole, CanCount}
use Rattle.eit_plan.specs.declared.Plan.{Plan}
use Rattle.eit_plan.specs.declared.Plan.TheVariants as plan
use Rattle.eit_plan.specs.Plan.{free_cell, plan_at, plan_placed, plan_of, PlanOk}

module _ (s : Store) (bytes : List ℕ) (f : Whole s) (n : CanCount s.eit) where
  module _ (l : length bytes ≤ s.eit.sets.size) (a : Arrival) (m : Numbered a.entry) where
    placed_ok : (p : Place) → PlaceOk (set_store s) p → PlanOk s bytes (plan_placed s a p)
    placed_ok (place.Conflict i) k = record { whole = f; row = k; counts = n }
    placed_ok (place.Repeat i) k = record { whole = f; row = k; counts = n }
    placed_ok (place.Goes r) k = go (ltb (free_cell (rows_of s) (place.Goes r)) s.eit.sets.count) refl
      where
        go : (b : Bool) → ltb (free_cell (rows_of s) (place.Goes r)) s.eit.sets.count ≡ b
            → PlanOk s bytes (cond b (plan.Keep (record { arrival = a; room = r; cell = free_cell (rows_of s) (place.Goes r) })) (plan.Leave (answer.Refused refusal.NoCell)))
        go true q = record { whole = f; numbered = m; room = k; cell = ltb-true _ _ q; fits = l; counts = n }
        go false q = tt

  pub plan_ok : (a : Arrival) → Numbered a.entry → PlanOk s bytes (plan_of s bytes a)
  unfolding plan_of
  plan_ok a m = go (ltb s.eit.sets.size (length bytes)) (eqb s.eit.sets.limit 0) refl refl
    where
      go : (x y : Bool) → ltb s.eit.sets.size (length bytes) ≡ x → eqb s.eit.sets.limit 0 ≡ y
          → PlanOk s bytes (cond x (plan.Leave (answer.Refused refusal.TooLong)) (cond y (plan.Leave answer.Nothing) (plan_placed s a (place_of (set_store s) a.entry bytes))))
      go true y p q = tt
      go false true p q = tt
      go false false p q =
          let z = eqb-false s.eit.sets.limit 0 q in
          placed_ok (ltb-false s.eit.sets.size (length bytes) p) a m (place_of (set_store s) a.entry bytes) (place_ok (set_store s) f.sets a.entry bytes (omega arith))

  pub plan_may : (a : Arrival) (p : Plan) → Numbered a.entry → p ≡ plan_of s bytes a → PlanOk s bytes p
  plan_may a p m q = subst (PlanOk s bytes) (sym q) (plan_ok a m)
