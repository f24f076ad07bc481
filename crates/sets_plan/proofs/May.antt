-- What is decided can be carried out: a plan names rows in use, a cell below count and a section that fits it.
-- Assumes nothing.
use mathlib.Core.Path.{◌≡◌, refl, sym, subst}
use mathlib.Core.List.{List}
use mathlib.Core.Bool.{Bool, true, false, cond}
use Prim.Native.Nat.{ℕ, ◌≤◌, ◌<◌}
use native.Mathlib.Omega.{arith}
use borrow.Author.Tests.{ltb-true, ltb-false, eqb-false}
use lib.Dec.{eqb, ltb}
use lib.ListN.{length}
use Rattle.answers.specs.declared.Refusal.TheVariants.{TooLong, NoCell}
use Rattle.cells.specs.Cells.{lowest_free}
use Rattle.rows.specs.Rows.{gone_row, taken_in}
use Rattle.rows.specs.declared.Entry.{Entry}
use Rattle.rows.specs.declared.Room.{Room}
use Rattle.store.specs.Store.{Store}
use Rattle.arrivals.specs.Arrivals.{Taken}
use Rattle.placing.specs.Places.{place_of, RoomOk, PlaceOk}
use Rattle.placing.specs.declared.Place.{Place}
use Rattle.placing.specs.declared.Place.TheVariants as place
use Rattle.placing.proofs.Laws.{place_ok}
use Rattle.sets_plan.specs.declared.Plan.{Plan}
use Rattle.sets_plan.specs.declared.Plan.TheVariants as plan
use Rattle.sets_plan.specs.Plan.{plan_keep, plan_placed, plan_of, Ready, PlanOk}

-- a count that is not at its end can go up
pub counts : (n : ℕ) → (n ≡ 18446744073709551615 → ⊥) → n < 18446744073709551616 → n < 18446744073709551615
counts n ne h = omega arith

module _ (s : Store) (f : Ready s) (e : Entry) (bytes : List ℕ) (t : Taken bytes e) where
  module _ (l : length bytes ≤ s.sets.size) where
    keep_ok : (r : Room) → RoomOk s.sets r → PlanOk s bytes (plan_keep s e r)
    unfolding plan_keep
    keep_ok r k = go (ltb c s.sets.count) refl
      where
        c : ℕ
        c = lowest_free (taken_in s.heads s.slots (gone_row r s.sets.used) s.sets.used) s.sets.count

        go : (b : Bool) → ltb c s.sets.count ≡ b → PlanOk s bytes (cond b (plan.Keep (record { entry = e; room = r; cell = c })) (plan.Refuse NoCell))
        go true q = record { whole = f.whole; numbered = t.numbered; room = k; cell = ltb-true c s.sets.count q; long = t.long; fits = l; runs = f.runs }
        go false q = tt

    placed_ok : (p : Place) → PlaceOk s p → PlanOk s bytes (plan_placed s e p)
    placed_ok (place.Conflict i) o = record { whole = f.whole; row = o; runs = f.runs }
    placed_ok (place.Repeat i) o = record { whole = f.whole; row = o; runs = f.runs }
    placed_ok (place.Goes r) o = keep_ok r o

  pub plan_ok : PlanOk s bytes (plan_of s e bytes)
  unfolding plan_of
  plan_ok = go (ltb s.sets.size (length bytes)) (eqb s.sets.limit 0) refl refl
    where
      go : (a b : Bool) → ltb s.sets.size (length bytes) ≡ a → eqb s.sets.limit 0 ≡ b → PlanOk s bytes (cond a (plan.Refuse TooLong) (cond b plan.Silent (plan_placed s e (place_of s e bytes))))
      go true b p q = tt
      go false true p q = tt
      go false false p q = let z : s.sets.limit ≡ 0 → ⊥ = eqb-false s.sets.limit 0 q in placed_ok (ltb-false s.sets.size (length bytes) p) (place_of s e bytes) (place_ok s f.whole e bytes (omega (arith, z)))

  pub plan_may : (p : Plan) → p ≡ plan_of s e bytes → PlanOk s bytes p
  plan_may p q = subst (PlanOk s bytes) (sym q) plan_ok
