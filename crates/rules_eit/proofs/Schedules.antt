-- One schedule: what the refill puts where, and that a schedule which goes out shows each of its tables.
-- Assumes nothing.
use borrow.Author.Tests.{le-leb, lt-leb}
use mathlib.Core.Path.{◌≡◌, refl, sym, ap, ◌∙◌}
use mathlib.Core.Bool.{true, true≢false}
use mathlib.Core.Option.{Option, none, some}
use mathlib.Core.List.{List, [], ◌∷◌}
use Prim.Native.Nat.{ℕ, zero, suc, ◌+◌, ◌-◌, ◌≤◌, ◌<◌}
use native.Mathlib.Omega.{arith}
use lib.ListN.{length, get_or, take}
use Rattle.rules_shared.specs.Slots.{is_held}
use Rattle.rules_shared.specs.Touch.{Rows, find}
use Rattle.rules_eit.specs.Keys.{ScheduleKey, SetKey, same_set}
use Rattle.rules_eit.specs.Segments.{SetOf, held_from}
use Rattle.rules_eit.specs.Schedules.{CopyOf, ScheduleOf, table_of, copied, refill, all_tables, wholes, guide}

-- the refill, place by place: table_id t + n has place n
module _ {A : Type 0} (others : Rows SetKey (SetOf A)) (l : ScheduleKey) (last : ℕ) where
  -- inside the new range, the set that is complete
  pub refill_inside : (m t n : ℕ) → n < m → t + n ≤ last → get_or (refill others l last t m) n none ≡ copied (find same_set (table_of l (t + n)) others)
  unfolding refill
  refill_inside zero t n h k = absurd (omega arith)
  refill_inside (suc m) t zero h k =
      let e : t + 0 ≡ t = omega arith in
      rw (e, le-leb t last (omega arith)) refl
  refill_inside (suc m) t (suc n) h k =
      let e : t + suc n ≡ suc t + n = omega arith in
      rw e (refill_inside m (suc t) n (omega arith) (omega arith))

  -- past it, nothing
  pub refill_past : (m t n : ℕ) → last < t + n → get_or (refill others l last t m) n none ≡ none
  unfolding refill
  refill_past zero t n h = refl
  refill_past (suc m) t zero h = rw (lt-leb t last (omega arith)) refl
  refill_past (suc m) t (suc n) h = refill_past m (suc t) n (omega arith)

module _ {A : Type 0} where
  held_tail : (c : Option (CopyOf A)) (cs : List (Option (CopyOf A))) (a n : ℕ) → held_from (c ∷ cs) (suc a) n ≡ held_from cs a n
  unfolding held_from
  held_tail c cs a zero = refl
  held_tail c cs a (suc n) = rw (held_tail c cs (suc a) n) refl

  shows_each : (l : ScheduleKey) (t n : ℕ) (cs : List (Option (CopyOf A))) → held_from cs 0 n ≡ true → length (wholes l t (take n cs)) ≡ n
  unfolding wholes held_from is_held
  shows_each l t zero cs h = refl
  shows_each l t (suc n) [] h = absurd (true≢false (sym h))
  shows_each l t (suc n) (none ∷ cs) h = absurd (true≢false (sym h))
  shows_each l t (suc n) (some c ∷ cs) h = ap suc (shows_each l (suc t) n cs (sym (held_tail (some c) cs 0 n) ∙ h))

  -- a schedule with all tables shows as many as there are from the first of the kind to last_table_id
  pub all_shown : (l : ScheduleKey) (first : ℕ) (s : ScheduleOf A) → all_tables first s ≡ true → length (guide l first s).tables ≡ suc (s.last_table - first)
  unfolding all_tables guide
  all_shown l first s h = shows_each l first (suc (s.last_table - first)) s.copies h
