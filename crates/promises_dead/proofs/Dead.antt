-- Request 2026-10: in no store, whatever it holds, does a section come to one of the two branches; and no call changes the key limit.
-- Assumes nothing.
use mathlib.Core.Path.{◌≡◌, refl, subst}
use mathlib.Core.List.{List}
use mathlib.Core.Bool.{Bool, true, false, cond}
use Prim.Native.Nat.{ℕ, ◌+◌, ◌≤◌}
use native.Mathlib.Omega.{arith}
use borrow.Author.Tests.{eq-eqb}
use lib.Dec.{ltb, eqb}
use lib.ListN.{length}
use Rattle.answers.specs.declared.Refusal.TheVariants as refusal
use Rattle.std.specs.Prelude.{Option, Some, Result, Ok, Err}
use Rattle.answers.specs.declared.Refusal.{Refusal}
use Rattle.rows.specs.Rows.{touched}
use Rattle.eit_section.specs.Eit.{kind_of}
use Rattle.eit_section.specs.declared.Kind.{Kind}
use Rattle.eit_section.specs.declared.Kind.TheVariants as kind
use Rattle.eit_section.proofs.Laws.{schedule_actual_range, schedule_other_range}
use Rattle.arrivals.specs.Arrivals.{kind_number}
use Rattle.arrivals.specs.declared.Arrival.{Arrival}
use Rattle.arrivals.proofs.ByKind.{OfKind, arrived_kind}
use Rattle.placing.specs.Places.{place_of}
use Rattle.units.specs.Units.{first_table}
use Rattle.eit_state.specs.State.{Store, store, Rows, rows, rows_of, risen_rows, set_store, empty_eit, whole_of}
use Rattle.eit_state.specs.declared.PushAnswer.TheVariants as answer
use Rattle.eit_plan.specs.declared.Plan.{Plan}
use Rattle.eit_plan.specs.declared.Plan.TheVariants as plan
use Rattle.eit_plan.specs.Plan.{plan_placed, plan_of}
use Rattle.eit_becomes.specs.declared.Becomes.{Becomes}
use Rattle.eit_becomes.specs.declared.Becomes.TheVariants as becomes
use Rattle.eit_becomes.specs.Becoming.{becomes_of, is_marked}
use Rattle.eit_enter.specs.Entering.{entered_in, entered}
use Rattle.eit_settle.specs.Settle.{marked_heads, settled_as, settled}
use Rattle.eit_carry.specs.Carried.{kept_and_settled, carried, pushed_whole}
use Rattle.eit_drop.specs.declared.Filter.{Filter}
use Rattle.filter.specs.declared.Fields.{Fields}
use Rattle.eit_drop.specs.Drop.{matching_gone}
use Rattle.eit_admit.specs.Admitting.{drop_of, admitted}
use Rattle.eit_pids.specs.Rows.{any_without}
use Rattle.eit.specs.Store.{After, after, done, refused, cleared_of, carried_drop, dropped_of, pushed_as, pushed_of}
use Rattle.promises_dead.specs.Dead.{GoesOnWith, Reaches, BelowItsKind, FullAndEmpty}

-- ---- the first branch

-- a schedule's table_id is one of the 16 from the first of its kind on
in_kind : (t : ℕ) (k : Kind) → kind_of t ≡ Some k → 2 ≤ kind_number k → (first_table (kind_number k) ≤ t) × (t ≤ first_table (kind_number k) + 15)
in_kind t kind.PresentFollowingActual e h = absurd (omega arith)
in_kind t kind.PresentFollowingOther e h = absurd (omega arith)
in_kind t kind.ScheduleActual e h = let r = schedule_actual_range t e in (r.0, omega arith)
in_kind t kind.ScheduleOther e h = let r = schedule_other_range t e in (r.0, omega arith)

of_kind_in : (a : Arrival) (k : Kind) → OfKind a k → 2 ≤ a.kind → (first_table a.kind ≤ a.entry.key.table_id) × (a.entry.key.table_id ≤ first_table a.kind + 15)
of_kind_in a k o h = rw o.number (in_kind a.entry.key.table_id k o.table (subst (λ (n : ℕ). 2 ≤ n) o.number h))

reaches_in : (s : Store) (input : ℕ) (pid : Option ℕ) (bytes : List ℕ) (a : Arrival) → Reaches s input pid bytes a → 2 ≤ a.kind
    → (first_table a.kind ≤ a.entry.key.table_id) × (a.entry.key.table_id ≤ first_table a.kind + 15)
reaches_in s input pid bytes a r h = let k = arrived_kind bytes a input pid r.says in of_kind_in a k.0 k.1 h

-- the store need not be whole for it
pub never_below : (s : Store) (input : ℕ) (pid : Option ℕ) (bytes : List ℕ) (a : Arrival) → Reaches s input pid bytes a → BelowItsKind a → ⊥
never_below s input pid bytes a r b = let n = reaches_in s input pid bytes a r b.0 in let l = b.1 in omega arith

pub never_above : (s : Store) (input : ℕ) (pid : Option ℕ) (bytes : List ℕ) (a : Arrival) → Reaches s input pid bytes a → 2 ≤ a.kind → a.entry.key.table_id ≤ first_table a.kind + 15
never_above s input pid bytes a r h = (reaches_in s input pid bytes a r h).1

-- ---- the second

-- at limit 0 no section goes on: it is answered before
limit_0 : (s : Store) (bytes : List ℕ) (a : Arrival) → s.eit.sets.limit ≡ 0 → GoesOnWith a (plan_of s bytes a) → ⊥
unfolding plan_of
limit_0 s bytes a z = go (ltb s.eit.sets.size (length bytes)) (eqb s.eit.sets.limit 0) (eq-eqb s.eit.sets.limit 0 z)
  where
    go : (b c : Bool) → c ≡ true
        → GoesOnWith a (cond b (plan.Leave (answer.Refused refusal.TooLong)) (cond c (plan.Leave answer.Nothing) (plan_placed s a (place_of (set_store s) a.entry bytes)))) → ⊥
    go true c e g = g
    go false true e g = g
    go false false e g = let n : ◌≡◌ {A = ℕ} 0 1 = cc in omega arith

-- whatever the store holds
pub never_empty_anywhere : (s : Store) (input : ℕ) (pid : Option ℕ) (bytes : List ℕ) (a : Arrival) → Reaches s input pid bytes a → FullAndEmpty s → ⊥
never_empty_anywhere s input pid bytes a r f = let l = f.0 in let n = f.1 in limit_0 s bytes a (omega arith) r.goes_on_lem

-- so in a store that passes check 10
pub never_empty : (s : Store) (input : ℕ) (pid : Option ℕ) (bytes : List ℕ) (a : Arrival) → whole_of s ≡ true → Reaches s input pid bytes a → FullAndEmpty s → ⊥
never_empty s input pid bytes a w r f = never_empty_anywhere s input pid bytes a r f

-- ---- the key limit is fixed at opening: no call changes it

settled_limit : (r : Rows) (a : Arrival) (i : ℕ) → (settled r a i).rows.eit.sets.limit ≡ r.eit.sets.limit
unfolding settled entered entered_in
settled_limit r a i = go (becomes_of (touched r.eit.sets.clock i r.heads) r.slots a i)
  where
    go : (b : Becomes) → (settled_as b (rows r.eit (marked_heads (is_marked b) i (touched r.eit.sets.clock i r.heads)) r.slots r.schedule_heads r.units) a i).rows.eit.sets.limit
        ≡ r.eit.sets.limit
    go becomes.Stays = refl
    go becomes.GoesOut = refl
    go becomes.OutOfRange = refl
    go becomes.Enters = refl

carried_limit : (s : Store) (bytes : List ℕ) (p : Plan) → (carried s bytes p).store.eit.sets.limit ≡ s.eit.sets.limit
unfolding kept_and_settled
carried_limit s bytes (plan.Leave a) = refl
carried_limit s bytes (plan.Conflict i) = refl
carried_limit s bytes (plan.Repeat x) = settled_limit (risen_rows (rows_of s)) x.arrival x.row
carried_limit s bytes (plan.Keep k) = settled_limit _ k.arrival k.room.row

pushed_limit : (s : Store) (bytes : List ℕ) (v : Result Arrival Refusal) → (pushed_as s bytes v).store.eit.sets.limit ≡ s.eit.sets.limit
unfolding pushed_whole
pushed_limit s bytes (Err r) = refl
pushed_limit s bytes (Ok a) = carried_limit s bytes (plan_of s bytes a)

dropped_limit : (s : Store) (d : Result Fields Refusal) → (carried_drop s d).store.eit.sets.limit ≡ s.eit.sets.limit
unfolding matching_gone
dropped_limit s (Err r) = refl
dropped_limit s (Ok f) = refl

pub limit_stays_push : (s : Store) (input : ℕ) (pid : Option ℕ) (bytes : List ℕ) → (pushed_of s input pid bytes).store.eit.sets.limit ≡ s.eit.sets.limit
unfolding pushed_of
limit_stays_push s input pid bytes = pushed_limit s bytes (admitted s input pid bytes)

pub limit_stays_drop : (s : Store) (f : Filter) → (dropped_of s f).store.eit.sets.limit ≡ s.eit.sets.limit
unfolding dropped_of
limit_stays_drop s f = dropped_limit s (drop_of s f)

pub limit_stays_clear : (s : Store) → (cleared_of s).store.eit.sets.limit ≡ s.eit.sets.limit
unfolding cleared_of
limit_stays_clear s = go (whole_of s) (any_without s.eit s.heads s.schedule_heads)
  where
    left : Bool → Bool → After
    left b w =
        cond b
        (cond w (after (refused refusal.NoPid) s) (after done (store (empty_eit s.eit) s.heads s.slots s.cells s.schedule_heads s.units)))
        (after (refused refusal.NotWhole) s)

    go : (b w : Bool) → (left b w).store.eit.sets.limit ≡ s.eit.sets.limit
    go true true = refl
    go true false = refl
    go false w = refl
