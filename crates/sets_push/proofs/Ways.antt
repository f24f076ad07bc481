-- Admitting and pushing: one law for each way out, and what holds of a section that gets in.
-- Assumes nothing.
use mathlib.Core.Path.{◌≡◌, refl, sym, ◌∙◌}
use mathlib.Core.List.{List}
use mathlib.Core.Bool.{Bool, true, false, cond}
use Prim.Native.Nat.{ℕ, ◌*◌, ◌≤◌, ◌<◌}
use native.Mathlib.Omega.{arith}
use lib.ListN.{length, get_or}
use Rattle.answers.specs.declared.Refusal.TheVariants.{NotWhole, CounterFull, NoPid}
use Rattle.std.specs.Prelude.{Option, Result, Ok, Err}
use Rattle.answers.specs.declared.Refusal.{Refusal}
use Rattle.rows.specs.declared.Entry.{Entry}
use Rattle.without_pid.specs.Pids.{without_pid}
use Rattle.store.specs.Store.{Store, store, whole_of, counters_full}
use Rattle.store.specs.declared.Sets.{Sets}
use Rattle.store.proofs.Whole.{whole_means, is_whole_means, evictions_go_on, clock_goes_on}
use Rattle.arrivals.specs.Arrivals.{set_arrival, SetTaken}
use Rattle.arrivals.proofs.Facts.{set_taken}
use Rattle.sets_plan.specs.Plan.{plan_of, Ready}
use Rattle.sets_plan.specs.declared.Plan.{Plan}
use Rattle.sets_settle.specs.Settle.{SetsAfter, carried}
use Rattle.sets_settle.specs.declared.PushAnswer.TheVariants.{Refused}
use Rattle.sets_push.specs.Pushing.{whole_pushed, admitted, AdmittedOk}

-- ---- 10, 11, 41, and what the section says

module _ (s : Store) (input : ℕ) (pid : Option ℕ) (bytes : List ℕ) (w : Bool) (e : w ≡ whole_of s) where
  pub admit_broken : w ≡ false → Err NotWhole ≡ admitted s input pid bytes
  unfolding admitted
  admit_broken t = rw (← e, t)

  module _ (full : Bool) (g : full ≡ counters_full s.sets) (t : w ≡ true) where
    pub admit_full : full ≡ true → Err CounterFull ≡ admitted s input pid bytes
    unfolding admitted
    admit_full h = rw (← e, t, ← g, h)

    pub admit_without : (n : Bool) → full ≡ false → n ≡ without_pid s.heads s.sets.used → n ≡ true → Err NoPid ≡ admitted s input pid bytes
    unfolding admitted
    admit_without n h f y = rw (← e, t, ← g, h, ← f, y)

    pub admit_section : (n : Bool) (a : Result Entry Refusal) → full ≡ false → n ≡ without_pid s.heads s.sets.used → n ≡ false → a ≡ set_arrival input pid bytes → a ≡ admitted s input pid bytes
    unfolding admitted
    admit_section n a h f y q = rw (← e, t, ← g, h, ← f, y) q

-- the heads of a store that is whole have all rows in use
pub rows_lent : (s : Sets) (heads slots cells : List ℕ) (w : Bool) → w ≡ whole_of (store s heads slots cells) → w ≡ true → s.used * 12 ≤ length heads
rows_lent s heads slots cells w e t = let o = is_whole_means s heads slots cells w e t in let u = o.used in let l = o.heads_long in omega (arith, u, l)

-- what arrived at a store that is whole
module _ (s : Store) (bytes : List ℕ) where
  arrived_ok : Ready s → (a : Result Entry Refusal) → SetTaken bytes a → AdmittedOk s bytes a
  arrived_ok r (Err x) t = tt
  arrived_ok r (Ok e) t = (r, t)

  pub admitted_may : (w full : Bool) (a : Result Entry Refusal) → w ≡ whole_of s → w ≡ true → full ≡ counters_full s.sets → full ≡ false → SetTaken bytes a → AdmittedOk s bytes a
  admitted_may w full a e t g h x =
      arrived_ok (record { whole = whole_means s (sym e ∙ t); counts = evictions_go_on s.sets full g h; runs = clock_goes_on s.sets full g h }) a x

  pub admitted_ok : (input : ℕ) (pid : Option ℕ) → get_or bytes 7 0 < 256 → AdmittedOk s bytes (admitted s input pid bytes)
  unfolding admitted
  admitted_ok input pid b = go (whole_of s) (counters_full s.sets) (without_pid s.heads s.sets.used) refl refl
    where
      go : (w t n : Bool) → whole_of s ≡ w → counters_full s.sets ≡ t
          → AdmittedOk s bytes (cond w (cond t (Err CounterFull) (cond n (Err NoPid) (set_arrival input pid bytes))) (Err NotWhole))
      go false t n p q = tt
      go true true n p q = tt
      go true false true p q = tt
      go true false false p q = admitted_may true false (set_arrival input pid bytes) (sym p) refl (sym q) refl (set_taken bytes b input pid)

pub pushed_whole_lem : (s : Store) (e : Entry) (bytes : List ℕ) (p : Plan) (k : SetsAfter) → p ≡ plan_of s e bytes → k ≡ carried s bytes p → k ≡ whole_pushed s e bytes
unfolding whole_pushed
pushed_whole_lem s e bytes p k f q = rw (← f) q
