-- A refusal leaves all as before; 22 touches the key, and leaves all else as before.
-- Assumes nothing.
use mathlib.Core.Path.{◌≡◌, refl, sym}
use mathlib.Core.Logic.{◌≢◌, ◌⊎◌, inl, inr}
use mathlib.Core.List.{List}
use mathlib.Core.Bool.{Bool, true, false, cond}
use Prim.Native.Nat.{ℕ, ◌+◌, ◌<◌}
use native.Mathlib.Omega.{arith}
use Rattle.answers.specs.declared.Refusal.{Refusal}
use Rattle.answers.specs.declared.Refusal.TheVariants.{Conflict}
use Rattle.std.specs.Prelude.{Option, Result, Ok, Err}
use Rattle.rows.specs.declared.Entry.{Entry}
use Rattle.rows.specs.Rows.{word, touched}
use Rattle.rows.proofs.Words.{touched_not}
use Rattle.store.specs.Store.{Store, store, risen_sets}
use Rattle.sets_settle.specs.declared.PushAnswer.TheVariants.{Nothing, Set, Refused}
use Rattle.sets_plan.specs.declared.Plan.{Plan}
use Rattle.sets_plan.specs.declared.Plan.TheVariants as plan
use Rattle.sets_plan.specs.Plan.{plan_of}
use Rattle.sets_settle.specs.Settle.{nothing, handed, refused, set_in, answer_of, goes_out, settled_answer, settled_heads, settled, kept_in, carried}
use Rattle.sets_push.specs.Pushing.{whole_pushed, admitted}
use Rattle.sets.specs.Store.{pushed_as, pushed_of}

-- what a row that is settled tells is 4 or 5
settled_tells : (s : Store) (i : ℕ) (r : Refusal) → (settled s i).told ≢ refused r
unfolding settled settled_answer
settled_tells s i r = go (goes_out (touched (s.sets.clock + 1) i s.heads) s.slots i)
  where
    left_it : Store
    left_it = store (risen_sets s.sets) (settled_heads (s.sets.clock + 1) s.heads s.slots i) s.slots s.cells

    go : (b : Bool) → answer_of (cond b (Set i) Nothing) left_it ≢ refused r
    go true q = let t : handed (set_in left_it i) ≡ refused r = q in let z : ◌≡◌ {A = ℕ} 0 1 = cc in omega arith
    go false q = let t : nothing ≡ refused r = q in let z : ◌≡◌ {A = ℕ} 0 1 = cc in omega arith

module _ (s : Store) (bytes : List ℕ) where
  carried_keeps : (p : Plan) (r : Refusal) → (carried s bytes p).told ≡ refused r → r ≢ Conflict → (carried s bytes p).store ≡ s
  carried_keeps (plan.Refuse x) r e k = refl
  carried_keeps plan.Silent r e k = refl
  carried_keeps (plan.Conflict i) r e k = let z : Conflict ≡ r = cc in absurd (k (sym z))
  carried_keeps (plan.Repeat i) r e k = absurd (settled_tells s i r e)
  carried_keeps (plan.Keep m) r e k = absurd (settled_tells (kept_in s bytes m) m.room.row r e)

  pushed_keeps : (a : Result Entry Refusal) (r : Refusal) → (pushed_as s bytes a).told ≡ refused r → r ≢ Conflict → (pushed_as s bytes a).store ≡ s
  unfolding whole_pushed
  pushed_keeps (Err x) r e k = refl
  pushed_keeps (Ok x) r e k = carried_keeps (plan_of s x bytes) r e k

  -- what a conflict leaves: settings, counts, slots and cells, and every word of a head but the ticks; the clock rises
  pub record AsBefore (t : Store) : Type 0 where
    pub sets : (t.sets ≡ s.sets) ⊎ (t.sets ≡ risen_sets s.sets)
    pub slots : t.slots ≡ s.slots
    pub cells : t.cells ≡ s.cells
    pub heads : (j m : ℕ) → m ≢ 9 → m < 12 → word t.heads j m ≡ word s.heads j m

  unchanged : AsBefore s
  unchanged = record { sets = inl refl; slots = refl; cells = refl; heads = λ j m ne h. refl }

  carried_conflicts : (p : Plan) → (carried s bytes p).told ≡ refused Conflict → AsBefore (carried s bytes p).store
  carried_conflicts (plan.Refuse x) e = unchanged
  carried_conflicts plan.Silent e = unchanged
  carried_conflicts (plan.Conflict i) e = record { sets = inr refl; slots = refl; cells = refl; heads = λ j m ne h. touched_not (s.sets.clock + 1) i s.heads j m ne h }
  carried_conflicts (plan.Repeat i) e = absurd (settled_tells s i Conflict e)
  carried_conflicts (plan.Keep m) e = absurd (settled_tells (kept_in s bytes m) m.room.row Conflict e)

  pushed_conflicts : (a : Result Entry Refusal) → (pushed_as s bytes a).told ≡ refused Conflict → AsBefore (pushed_as s bytes a).store
  unfolding whole_pushed
  pushed_conflicts (Err x) e = unchanged
  pushed_conflicts (Ok x) e = carried_conflicts (plan_of s x bytes) e

-- every refusal but 22: the store is as before
pub refusal_keeps : (s : Store) (input : ℕ) (pid : Option ℕ) (bytes : List ℕ) (r : Refusal) → (pushed_of s input pid bytes).told ≡ refused r → r ≢ Conflict → (pushed_of s input pid bytes).store ≡ s
unfolding pushed_of
refusal_keeps s input pid bytes r e k = pushed_keeps s bytes (admitted s input pid bytes) r e k

-- 22
pub conflict_keeps : (s : Store) (input : ℕ) (pid : Option ℕ) (bytes : List ℕ) → (pushed_of s input pid bytes).told ≡ refused Conflict → AsBefore s bytes (pushed_of s input pid bytes).store
unfolding pushed_of
conflict_keeps s input pid bytes e = pushed_conflicts s bytes (admitted s input pid bytes) e
