-- Many at a time is one by one: what a list leaves is the history of as many single pushes as it took sections, and a store that is whole stays whole.
-- Assumes nothing.
use mathlib.Core.Path.{◌≡◌, refl}
use mathlib.Core.Logic.{◌≢◌}
use mathlib.Core.List.{List, [], ◌∷◌, map}
use mathlib.Core.Bool.{Bool, true, false, cond}
use Prim.Native.Nat.{ℕ, suc, ◌+◌, ◌<◌}
use native.Mathlib.Omega.{arith}
use lib.ListN.{length, get_or, take}
use Rattle.answers.specs.declared.Refusal.TheVariants.{NotWhole}
use Rattle.std.specs.Prelude.{Some}
use Rattle.store.specs.Store.{Store, WholeStore}
use Rattle.sets_settle.specs.Settle.{refused, SetsAfter}
use Rattle.sets.specs.History.{Call, offer, after_all}
use Rattle.sets.proofs.Stays.{push_stays, push_not_ten}
use Rattle.rules_logs.specs.Sections.{Given}
use Rattle.sets_all.specs.All.{of, AllAfter, all_after, is_nothing, pushed_given, pushed_each}

-- a section of a list as a call of its own
abbrev pub single : Given → Call
single g = offer g.input (Some g.pid) g.section

-- how many sections were pushed
unfoldable pub count_each : Store → List Given → ℕ
count_each s [] = 0
count_each s (g ∷ gs) = suc (cond (is_nothing (pushed_given s g).told) (count_each (pushed_given s g).store gs) 0)

-- what a list leaves is what those single pushes leave
pub all_steps : (n : ℕ) (s : Store) (gs : List Given) → (pushed_each n s gs).store ≡ after_all s (map single (take (count_each s gs) gs))
unfolding pushed_each count_each after_all
all_steps n s [] = refl
all_steps n s (g ∷ gs) = go (is_nothing (pushed_given s g).told) (all_steps (n + (5 + length g.section)) (pushed_given s g).store gs)
  where
    l : SetsAfter
    l = pushed_given s g

    m : ℕ
    m = n + (5 + length g.section)

    go : (f : Bool) → (pushed_each m (pushed_given s g).store gs).store ≡ after_all (pushed_given s g).store (map single (take (count_each (pushed_given s g).store gs) gs))
        → (cond f (pushed_each m (pushed_given s g).store gs) (all_after (of (pushed_given s g).told) (pushed_given s g).store m)).store ≡ after_all s (map single (take (suc (cond f (count_each (pushed_given s g).store gs) 0)) (g ∷ gs)))
    go true r = r
    go false r = refl

-- every section's eighth byte is a byte
abbrev pub AllBytes : List Given → Type 0
AllBytes [] = Unit {0}
AllBytes (g ∷ gs) = (get_or g.section 7 0 < 256) × AllBytes gs

-- a store that is whole, damaged or not, stays whole, and no section answers 10: the check that is left out would have passed
pub record Sound (a : AllAfter) : Type 0 where
  pub whole : WholeStore a.store
  pub not_ten : a.told ≢ of (refused NotWhole)

pub all_sound : (n : ℕ) (s : Store) (gs : List Given) → AllBytes gs → WholeStore s → Sound (pushed_each n s gs)
unfolding pushed_each
all_sound n s [] b w = record { whole = w; not_ten = λ q. absurd (let z : ◌≡◌ {A = ℕ} 0 1 = cc in omega arith) }
all_sound n s (g ∷ gs) b w = go (is_nothing (pushed_given s g).told) (all_sound m (pushed_given s g).store gs b.1 stays)
  where
    m : ℕ
    m = n + (5 + length g.section)

    stays : WholeStore (pushed_given s g).store
    stays = push_stays s g.input (Some g.pid) g.section b.0 w

    no : of (pushed_given s g).told ≢ of (refused NotWhole)
    no q = push_not_ten s g.input (Some g.pid) g.section w cc

    go : (f : Bool) → Sound (pushed_each m (pushed_given s g).store gs) → Sound (cond f (pushed_each m (pushed_given s g).store gs) (all_after (of (pushed_given s g).told) (pushed_given s g).store m))
    go true r = r
    go false r = record { whole = stays; not_ten = no }
