-- Many at a time is one by one: what a list leaves is what as many single pushes leave as it took sections, and a store that is whole stays whole.
-- Assumes nothing.
use mathlib.Core.Path.{◌≡◌, refl}
use mathlib.Core.Logic.{◌≢◌}
use mathlib.Core.List.{List, [], ◌∷◌}
use mathlib.Core.Bool.{Bool, true, false, cond}
use Prim.Native.Nat.{ℕ, suc, ◌+◌, ◌<◌}
use native.Mathlib.Omega.{arith}
use lib.ListN.{length, get_or, take}
use Rattle.answers.specs.declared.Refusal.TheVariants.{NotWhole}
use Rattle.std.specs.Prelude.{Some}
use Rattle.eit_state.specs.State.{Store}
use Rattle.eit.specs.Store.{refused, pushed_of}
use Rattle.eit_keeps.specs.Keeps.{WholeStore, HasPids}
use Rattle.eit_keeps.proofs.Pushes.{push_stays, push_not_ten}
use Rattle.eit_keeps.proofs.Pids.{push_pids}
use Rattle.rules_logs.specs.Sections.{Given}
use Rattle.eit_each.specs.Each.{of, AllAfter, all_after, is_nothing, pushed_given, pushed_each}

-- the store after each of those sections was pushed in a call of its own
unfoldable pub singly : Store → List Given → Store
singly s [] = s
singly s (g ∷ gs) = singly (pushed_of s g.input (Some g.pid) g.section).store gs

-- how many sections were pushed
unfoldable pub count_each : Store → List Given → ℕ
count_each s [] = 0
count_each s (g ∷ gs) = suc (cond (is_nothing (pushed_given s g).told) (count_each (pushed_given s g).store gs) 0)

-- what a list leaves is what those single pushes leave
pub all_steps : (n : ℕ) (s : Store) (gs : List Given) → (pushed_each n s gs).store ≡ singly s (take (count_each s gs) gs)
unfolding pushed_each count_each singly
all_steps n s [] = refl
all_steps n s (g ∷ gs) = go (is_nothing (pushed_given s g).told) (all_steps m (pushed_given s g).store gs)
  where
    m : ℕ
    m = n + (5 + length g.section)

    go : (f : Bool) → (pushed_each m (pushed_given s g).store gs).store ≡ singly (pushed_given s g).store (take (count_each (pushed_given s g).store gs) gs)
        → (cond f (pushed_each m (pushed_given s g).store gs) (all_after (of (pushed_given s g).told) (pushed_given s g).store m)).store ≡ singly s (take (suc (cond f (count_each (pushed_given s g).store gs) 0)) (g ∷ gs))
    go true r = r
    go false r = refl

-- every section's eighth byte is a byte
abbrev pub AllBytes : List Given → Type 0
AllBytes [] = Unit {0}
AllBytes (g ∷ gs) = (get_or g.section 7 0 < 256) × AllBytes gs

-- a store that is whole, damaged or not, stays whole, and no section answers 10; sets and schedules with PIDs stay such: the looks that are left out would have passed
pub record Sound (a : AllAfter) : Type 0 where
  pub whole : WholeStore a.store
  pub pids : HasPids a.store
  pub not_ten : a.told ≢ of (refused NotWhole)

pub all_sound : (n : ℕ) (s : Store) (gs : List Given) → AllBytes gs → WholeStore s → HasPids s → Sound (pushed_each n s gs)
unfolding pushed_each
all_sound n s [] b w p = record { whole = w; pids = p; not_ten = λ q. absurd (let z : ◌≡◌ {A = ℕ} 0 1 = cc in omega arith) }
all_sound n s (g ∷ gs) b w p = go (is_nothing (pushed_given s g).told) (all_sound m (pushed_given s g).store gs b.1 stays has)
  where
    m : ℕ
    m = n + (5 + length g.section)

    stays : WholeStore (pushed_given s g).store
    stays = push_stays s g.input (Some g.pid) g.section b.0 w

    has : HasPids (pushed_given s g).store
    has = push_pids s g.input (Some g.pid) g.section b.0 p

    no : of (pushed_given s g).told ≢ of (refused NotWhole)
    no q = push_not_ten s g.input (Some g.pid) g.section w cc

    go : (f : Bool) → Sound (pushed_each m (pushed_given s g).store gs) → Sound (cond f (pushed_each m (pushed_given s g).store gs) (all_after (of (pushed_given s g).told) (pushed_given s g).store m))
    go true r = r
    go false r = record { whole = stays; pids = has; not_ten = no }
