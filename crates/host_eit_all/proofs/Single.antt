-- Looked at once or at every section, a store tells and leaves the same: a list with a section, over any store.
-- Assumes nothing.
use Prim.Native.Nat.{ℕ, ◌+◌}
use mathlib.Core.Path.{◌≡◌, refl}
use mathlib.Core.List.{List, ◌∷◌}
use mathlib.Core.Bool.{Bool, true, false, cond}
use lib.ListN.{length}
use Rattle.answers.specs.declared.Refusal.TheVariants.{NotWhole, CounterFull, NoPid}
use Rattle.std.specs.Prelude.{Some, Result, Err}
use Rattle.arrivals.specs.declared.Arrival.{Arrival}
use Rattle.answers.specs.declared.Refusal.{Refusal}
use Rattle.arrivals.specs.Arrivals.{eit_arrival}
use Rattle.eit_state.specs.State.{Store, whole_of, counters_full}
use Rattle.eit_pids.specs.Rows.{any_without}
use Rattle.eit_admit.specs.Admitting.{admitted}
use Rattle.eit.specs.Store.{refused, After, pushed_as, pushed_of}
use Rattle.rules_logs.specs.Sections.{Given}
use Rattle.eit_each.specs.Each.{of, AllAfter, all_after, is_nothing, pushed_each}
use Rattle.eit_all.specs.All.{pushed_sections}

-- what is told and the store that is left, whatever was taken
pub record Alike (a b : AllAfter) : Type 0 where
  pub told : a.told ≡ b.told
  pub store : a.store ≡ b.store

pub sections_each : (s : Store) (g : Given) (gs : List Given) → Alike (pushed_sections s (g ∷ gs)) (pushed_each 0 s (g ∷ gs))
unfolding pushed_sections pushed_each pushed_of admitted
sections_each s g gs = go (whole_of s) (counters_full s.eit) (any_without s.eit s.heads s.schedule_heads)
  where
    m : ℕ
    m = 0 + (5 + length g.section)

    admitted_by : (whole full without : Bool) → Result Arrival Refusal
    admitted_by whole full without =
        cond whole
        (cond full (Err CounterFull)
        (cond without (Err NoPid) (eit_arrival g.input (Some g.pid) g.section)))
        (Err NotWhole)

    each : After → AllAfter
    each l = cond (is_nothing l.told) (pushed_each m l.store gs) (all_after (of l.told) l.store m)

    each_by : (whole full without : Bool) → AllAfter
    each_by whole full without = each (pushed_as s g.section (admitted_by whole full without))

    all_by : (whole full without : Bool) → AllAfter → AllAfter
    all_by whole full without e =
        cond whole
        (cond full (all_after (of (refused CounterFull)) s 0)
        (cond without (all_after (of (refused NoPid)) s 0) e))
        (all_after (of (refused NotWhole)) s 0)

    go : (whole full without : Bool) → Alike (all_by whole full without (each_by whole full without)) (each_by whole full without)
    go true true without = record { told = refl; store = refl }
    go true false true = record { told = refl; store = refl }
    go true false false = record { told = refl; store = refl }
    go false full without = record { told = refl; store = refl }
