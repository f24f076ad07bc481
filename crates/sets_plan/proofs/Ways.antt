-- One law for each way out of a function that decides.
-- Assumes nothing.
use mathlib.Core.Path.{◌≡◌}
use mathlib.Core.List.{List}
use Prim.Native.Nat.{ℕ, ◌≤◌, ◌<◌}
use borrow.Author.Tests.{eq-eqb, ne_eqb, lt-ltb, le-ltb}
use lib.ListN.{length}
use Rattle.answers.specs.declared.Refusal.TheVariants.{TooLong, NoCell}
use Rattle.cells.specs.Cells.{lowest_free}
use Rattle.rows.specs.Rows.{gone_row, taken_in}
use Rattle.rows.specs.declared.Entry.{Entry}
use Rattle.rows.specs.declared.Room.{Room}
use Rattle.store.specs.Store.{Store}
use Rattle.placing.specs.Places.{place_of}
use Rattle.placing.specs.declared.Place.{Place}
use Rattle.placing.specs.declared.Place.TheVariants as place
use Rattle.sets_plan.specs.declared.Plan.{Plan}
use Rattle.sets_plan.specs.declared.Plan.TheVariants as plan
use Rattle.sets_plan.specs.Plan.{plan_keep, plan_placed, plan_of}

-- ---- a cell

module _ (s : Store) (e : Entry) (r : Room) (gone c : ℕ) (p : gone ≡ gone_row r s.sets.used) (q : c ≡ lowest_free (taken_in s.heads s.slots gone s.sets.used) s.sets.count) where
  pub keep_cell : c < s.sets.count → plan.Keep (record { entry = e; room = r; cell = c }) ≡ plan_keep s e r
  unfolding plan_keep
  keep_cell h = rw (← p, ← q, lt-ltb c s.sets.count h)

  pub keep_none : s.sets.count ≤ c → plan.Refuse NoCell ≡ plan_keep s e r
  unfolding plan_keep
  keep_none h = rw (← p, ← q, le-ltb c s.sets.count h)

-- ---- a place

module _ (s : Store) (e : Entry) (p : Place) where
  pub placed_conflict : (i : ℕ) → p ≡ place.Conflict i → plan.Conflict i ≡ plan_placed s e p
  placed_conflict i q = rw q

  pub placed_repeat : (i : ℕ) → p ≡ place.Repeat i → plan.Repeat i ≡ plan_placed s e p
  placed_repeat i q = rw q

  pub placed_keep : (r : Room) (x : Plan) → p ≡ place.Goes r → x ≡ plan_keep s e r → x ≡ plan_placed s e p
  placed_keep r x q f = rw q f

-- ---- 20, limit 0, and the rest

module _ (s : Store) (e : Entry) (bytes : List ℕ) where
  pub plan_long : s.sets.size < length bytes → plan.Refuse TooLong ≡ plan_of s e bytes
  unfolding plan_of
  plan_long h = rw (lt-ltb s.sets.size (length bytes) h)

  pub plan_silent : length bytes ≤ s.sets.size → s.sets.limit ≡ 0 → plan.Silent ≡ plan_of s e bytes
  unfolding plan_of
  plan_silent h z = rw (le-ltb s.sets.size (length bytes) h, eq-eqb s.sets.limit 0 z)

  pub plan_good : (p : Place) (x : Plan) → length bytes ≤ s.sets.size → (s.sets.limit ≡ 0 → ⊥) → p ≡ place_of s e bytes → x ≡ plan_placed s e p → x ≡ plan_of s e bytes
  unfolding plan_of
  plan_good p x h z f q = rw (le-ltb s.sets.size (length bytes) h, ne_eqb s.sets.limit 0 z, ← f) q
