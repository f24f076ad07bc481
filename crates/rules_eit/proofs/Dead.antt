-- Request 2026-10: the rules have neither branch. A schedule's table_id is one of the 16 from the first of its kind on, and where a schedule has to
-- leave, at a limit above 0, there is one.
-- Assumes nothing.
use mathlib.Core.Path.{◌≡◌, refl, sym, ap, ◌∙◌}
use mathlib.Core.Logic.{◌≢◌}
use mathlib.Core.Bool.{Bool, true, false, cond, true≢false}
use mathlib.Core.Option.{Option, none, some, some-injective}
use mathlib.Core.List.{[]}
use Prim.Native.Nat.{ℕ, suc, ◌+◌, ◌≤◌}
use native.Mathlib.Omega.{arith}
use borrow.Author.Tests.{leb-true}
use lib.Dec.{leb, eqb}
use lib.ListN.{length}
use Rattle.laws.proofs.Tests.{and_true, none≢some}
use Rattle.rules_shared.specs.Touch.{Rows, leaves, find, evicts}
use Rattle.rules_eit.specs.Keys.{Kind, present_actual, present_other, schedule_actual, schedule_other, between, kind_of, first_of, ScheduleKey, same_schedule}
use Rattle.rules_eit.specs.Rules.{Eit}

pub never_below : (t : ℕ) (k : Kind) (first : ℕ) → kind_of t ≡ some k → first_of k ≡ some first → (first ≤ t) × (t ≤ first + 15)
unfolding kind_of first_of between
never_below t k first h f = go (eqb t 0x4e) (eqb t 0x4f) (between 0x50 t 0x5f) (between 0x60 t 0x6f) refl refl h
  where
    same_first : (j : Kind) (n : ℕ) → some j ≡ some k → first_of j ≡ some n → first ≡ n
    same_first j n e g = some-injective first n (sym f ∙ ap first_of (sym (some-injective j k e)) ∙ g)

    not_present : (j : Kind) → some j ≡ some k → first_of j ≡ none → ⊥
    not_present j e g = none≢some {a = first} (ap first_of (sym (some-injective j k e)) ∙ g) f

    pair : (low high : ℕ) → between low t high ≡ true → (low ≤ t) × (t ≤ high)
    pair low high e = let p = and_true (leb low t) (leb t high) e in (leb-true low t p.0, leb-true t high p.1)

    go : (a b c d : Bool) → between 0x50 t 0x5f ≡ c → between 0x60 t 0x6f ≡ d
        → cond a (some present_actual) (cond b (some present_other) (cond c (some schedule_actual) (cond d (some schedule_other) none))) ≡ some k → (first ≤ t) × (t ≤ first + 15)
    go true b c d r s q = absurd (not_present present_actual q refl)
    go false true c d r s q = absurd (not_present present_other q refl)
    go false false true d r s q = let x = pair 0x50 0x5f r in let e = same_first schedule_actual 0x50 q refl in (omega arith, omega arith)
    go false false false true r s q = let x = pair 0x60 0x6f s in let e = same_first schedule_other 0x60 q refl in (omega arith, omega arith)
    go false false false false r s q = absurd (none≢some refl q)

-- where a key has to leave at a limit above 0, there are as many rows as the limit
evicts_some : {K R : Type 0} (same : K → K → Bool) (n : ℕ) (k : K) (rs : Rows K R) → evicts same (suc n) k rs ≡ true → suc n ≤ length rs
unfolding evicts leaves
evicts_some {R = R} same n k rs h = go (find same k rs) (leb (suc n) (length rs)) refl h
  where
    go : (o : Option R) (b : Bool) → leb (suc n) (length rs) ≡ b → leaves b o ≡ true → suc n ≤ length rs
    go (some v) b e j = absurd (true≢false (sym j))
    go none b e j = leb-true (suc n) (length rs) (e ∙ j)

pub never_empty : (d : Eit) (n : ℕ) (l : ScheduleKey) → evicts same_schedule (suc n) l d.schedules.rows ≡ true → d.schedules.rows ≢ []
never_empty d n l h e =
    let p = evicts_some same_schedule n l d.schedules.rows h in
    let z : length d.schedules.rows ≡ 0 = ap length e in
    omega arith
