-- What holds of every plan that a section can come to.
-- Assumes nothing.
use mathlib.Core.Path.{◌≡◌, refl}
use mathlib.Core.List.{List}
use mathlib.Core.Bool.{Bool, true, false, cond}
use Prim.Native.Nat.{ℕ}
use lib.Dec.{eqb, ltb}
use lib.ListN.{length}
use Rattle.answers.specs.declared.Refusal.TheVariants.{TooLong}
use Rattle.rows.specs.declared.Entry.{Entry}
use Rattle.rows.specs.declared.Room.{Room}
use Rattle.store.specs.Store.{Store}
use Rattle.placing.specs.Places.{place_of}
use Rattle.placing.specs.declared.Place.{Place}
use Rattle.placing.specs.declared.Place.TheVariants as place
use Rattle.sets_plan.specs.declared.Plan.{Plan}
use Rattle.sets_plan.specs.declared.Plan.TheVariants as plan
use Rattle.sets_plan.specs.Plan.{plan_keep, plan_placed, plan_of}

module _
    (s : Store) (e : Entry) (bytes : List ℕ) (P : Plan → Type 0) (long : P (plan.Refuse TooLong)) (silent : P plan.Silent) (repeat : (i : ℕ) → P (plan.Repeat i))
    (conflict : (i : ℕ) → P (plan.Conflict i)) (keep : (r : Room) → P (plan_keep s e r)) where
  placed_by : (p : Place) → P (plan_placed s e p)
  placed_by (place.Conflict i) = conflict i
  placed_by (place.Repeat i) = repeat i
  placed_by (place.Goes r) = keep r

  pub plan_by : P (plan_of s e bytes)
  unfolding plan_of
  plan_by = go (ltb s.sets.size (length bytes)) (eqb s.sets.limit 0)
    where
      go : (a b : Bool) → P (cond a (plan.Refuse TooLong) (cond b plan.Silent (plan_placed s e (place_of s e bytes))))
      go true b = long
      go false true = silent
      go false false = placed_by (place_of s e bytes)
