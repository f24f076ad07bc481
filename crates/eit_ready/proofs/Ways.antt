-- A push into a store that is known to be whole and to have PIDs alone: one law for each way out.
-- Assumes nothing.
use mathlib.Core.Path.{◌≡◌, refl, sym, subst}
use mathlib.Core.List.{List}
use mathlib.Core.Bool.{Bool, true, false}
use Prim.Native.Nat.{ℕ, ◌<◌}
use lib.ListN.{get_or}
use Rattle.answers.specs.declared.Refusal.{Refusal}
use Rattle.answers.specs.declared.Refusal.TheVariants as refusal
use Rattle.std.specs.Prelude.{Option, Result, Ok, Err}
use Rattle.arrivals.specs.Arrivals.{Numbered, eit_arrival, EitTaken}
use Rattle.arrivals.specs.declared.Arrival.{Arrival}
use Rattle.eit_state.specs.declared.Eit.{Eit}
use Rattle.eit_state.specs.declared.Pushed.{Pushed}
use Rattle.eit_state.specs.declared.PushAnswer.TheVariants as answer
use Rattle.eit_state.specs.State.{Store, store, whole_of, counters_full}
use Rattle.eit_carry.specs.Carried.{step, pushed_whole}
use Rattle.eit_admit.proofs.Ways.{admit_full, admit_read}
use Rattle.eit.specs.Store.{After, pushed, pushed_of}
use Rattle.eit.proofs.Calls.{pushed_refused, pushed_done}
use Rattle.eit_keeps.proofs.Stays.{store_means}
use Rattle.eit_keeps.proofs.Pushes.{push_stays}
use Rattle.eit_keeps.proofs.Pids.{has_pids, none_without, push_pids}
use Rattle.eit_ready.specs.Ready.{Pushable}

module _ (e : Eit) (heads slots cells schedule_heads units : List ℕ) (w : Pushable (store e heads slots cells schedule_heads units)) (input : ℕ) (pid : Option ℕ) (bytes : List ℕ) where
  abbrev here : Store
  here = store e heads slots cells schedule_heads units

  whole : true ≡ whole_of here
  whole = sym (store_means here w.whole)

  -- it stays so, by the equation
  pub ready_stays : get_or bytes 7 0 < 256 → (k : After) → k ≡ pushed_of here input pid bytes → Pushable k.store
  ready_stays b k q =
      subst (λ (x : After). Pushable x.store) (sym q)
      (record {
        whole = push_stays here input pid bytes b w.whole;
        pids = none_without (pushed_of here input pid bytes).store (push_pids here input pid bytes b (has_pids here w.pids));
      })

  module _ (full : Bool) (g : full ≡ counters_full e) where
    pub ready_full : full ≡ true → pushed (record { answer = answer.Refused refusal.CounterFull; eit = e }) heads slots cells schedule_heads units ≡ pushed_of here input pid bytes
    ready_full t =
        pushed_refused e heads slots cells schedule_heads units input pid bytes (Err refusal.CounterFull) (admit_full e heads slots cells schedule_heads units input pid bytes true whole refl full g t) refusal.CounterFull refl

    module _ (h : full ≡ false) (v : Result Arrival Refusal) (q : v ≡ eit_arrival input pid bytes) where
      pub ready_refused : (r : Refusal) → v ≡ Err r → pushed (record { answer = answer.Refused r; eit = e }) heads slots cells schedule_heads units ≡ pushed_of here input pid bytes
      ready_refused r k =
          pushed_refused e heads slots cells schedule_heads units input pid bytes v (admit_read e heads slots cells schedule_heads units input pid bytes true whole refl full g h false (sym w.pids) v refl q) r k

      pub ready_arrived : (a : Arrival) → v ≡ Ok a → (r : Pushed) (h l c t u : List ℕ) → step r h l c t u ≡ pushed_whole here bytes a → pushed r h l c t u ≡ pushed_of here input pid bytes
      ready_arrived a k r h' l c t u f =
          pushed_done e heads slots cells schedule_heads units input pid bytes v (admit_read e heads slots cells schedule_heads units input pid bytes true whole refl full g h false (sym w.pids) v refl q) a r h' l c t u k f

-- what the part behind asks of a section that arrived
pub arrived_numbered : (bytes : List ℕ) (v : Result Arrival Refusal) → EitTaken bytes v → (a : Arrival) → v ≡ Ok a → Numbered a.entry
arrived_numbered bytes v t a k = let o : EitTaken bytes (Ok a) = subst (EitTaken bytes) k t in o.numbered
