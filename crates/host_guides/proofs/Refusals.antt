-- 10, 41, 12 and 33 leave everything that is lent as it was, 34 the list and the words of the tables, 9 and 10 of one section its three words.
-- Assumes nothing.
use Prim.Native.Nat.{ℕ, ◌/◌}
use mathlib.Core.Path.{◌≡◌, refl, sym, ap, ◌∙◌}
use mathlib.Core.List.{List}
use mathlib.Core.Bool.{Bool, true, false, cond}
use native.Mathlib.Omega.{arith}
use lib.ListN.{length}
use lib.Dec.{eqb, ltb}
use borrow.Author.Tests.{ne_eqb}
use Rattle.differences.specs.Rules.{Entry}
use Rattle.guides.specs.Store.{compare_no, set_sides, schedule_sides, told_of, compared_by, list_if, list_by, tables_if, tables_by, set_entries, schedule_entries, schedule_words, compared, listed, compared_schedules, listed_schedules, tables_of, Sides}
use Rattle.std.specs.Prelude.{Ok, Err}
use Rattle.guides.specs.declared.Amiss.TheVariants as amiss
use Rattle.guides.specs.declared.CompareAnswer.TheVariants as answer
use Rattle.host_words.specs.Answers.{words}
use Rattle.host_words.specs.Pids.{maybe_pid}
use Rattle.laid.specs.Laid.{same_version, same_last}
use Rattle.differences.specs.Rules.{versions_agree, lasts_agree}
use Rattle.host_guides.specs.Calls.{tells, comparison, handed, sets_compared, comparisons, handed_tables, schedules_compared, held_by_one}

-- an answer that tells of the entries: no answer of two alike sides is another
told_tells : (room count : ℕ) (v l : Bool) → tells (compare_no (told_of room count v l).answer) ≡ true
told_tells room count v l = go (ltb room count) (eqb count 0)
  where
    go : (a b : Bool) → tells (compare_no (cond a answer.NoRoom (cond b answer.Same answer.Differ))) ≡ true
    go true b = refl
    go false true = refl
    go false false = refl

by_sides :
    (s : Sides) (es : List Entry) (v l : Bool) (list told : List ℕ) (n : ℕ) → n ≡ compare_no (compared_by s (length list / 4) es v l).answer → tells n ≡ false →
    handed (compared_by s (length list / 4) es v l) told (list_by s es list) ≡ comparison n told list
by_sides (Err amiss.NotSets) es v l list told n e h = rw e
by_sides (Err amiss.NoPid) es v l list told n e h = rw e
by_sides (Err amiss.BadPid) es v l list told n e h = rw e
by_sides (Err amiss.OtherKey) es v l list told n e h = rw e
by_sides (Ok u) es v l list told n e h = let z : ◌≡◌ {A = Bool} true false = sym (ap tells e ∙ told_tells (length list / 4) (length es) v l) ∙ h in cc

by_kinds :
    (s : Sides) (es : List Entry) (v l : Bool) (ws tables list told : List ℕ) (n : ℕ) → n ≡ compare_no (compared_by s (length list / 4) es v l).answer → tells n ≡ false →
    handed_tables (compared_by s (length list / 4) es v l) told (tables_by s es (length list / 4) ws tables) (list_by s es list) ≡ comparisons n told tables list
by_kinds (Err amiss.NotSets) es v l ws tables list told n e h = rw e
by_kinds (Err amiss.NoPid) es v l ws tables list told n e h = rw e
by_kinds (Err amiss.BadPid) es v l ws tables list told n e h = rw e
by_kinds (Err amiss.OtherKey) es v l ws tables list told n e h = rw e
by_kinds (Ok u) es v l ws tables list told n e h = let z : ◌≡◌ {A = Bool} true false = sym (ap tells e ∙ told_tells (length list / 4) (length es) v l) ∙ h in cc

module _ (first : List ℕ) (p : ℕ) (second : List ℕ) (q : ℕ) (n : ℕ) where
  -- 10, 41, 12 and 33
  pub compare_refused : (list told : List ℕ) → n ≡ (sets_compared first p second q list told).answer → tells n ≡ false → sets_compared first p second q list told ≡ comparison n told list
  unfolding sets_compared compared listed
  compare_refused list told e h = by_sides (set_sides first (maybe_pid p) second (maybe_pid q)) (set_entries first second) (same_version first second) (same_last first second) list told n e h

  pub compare_schedules_refused :
      (tables list told : List ℕ) → n ≡ (schedules_compared first p second q tables list told).answer → tells n ≡ false → schedules_compared first p second q tables list told ≡ comparisons n told tables list
  unfolding schedules_compared compared_schedules listed_schedules tables_of
  compare_schedules_refused tables list told e h =
      by_kinds (schedule_sides first (maybe_pid p) second (maybe_pid q)) (schedule_entries first second) (versions_agree (schedule_words first second)) (lasts_agree (schedule_words first second)) (schedule_words first second) tables list told n e h

-- 34
full_list : (s : Sides) (es : List Entry) (v l : Bool) (list : List ℕ) → compare_no (compared_by s (length list / 4) es v l).answer ≡ 34 → list_by s es list ≡ list
full_list (Err x) es v l list e = refl
full_list (Ok u) es v l list e = go (ltb (length list / 4) (length es)) refl
  where
    go : (a : Bool) → ltb (length list / 4) (length es) ≡ a → list_if es list ≡ list
    go true z = rw z
    go false z = more (eqb (length es) 0) (ap (λ (a : Bool). compare_no (cond a answer.NoRoom (cond (eqb (length es) 0) answer.Same answer.Differ))) (sym z) ∙ e)
      where
        more : (b : Bool) → compare_no (cond b answer.Same answer.Differ) ≡ 34 → list_if es list ≡ list
        more true k = let y : ◌≡◌ {A = ℕ} 9 34 = k in absurd (omega arith)
        more false k = let y : ◌≡◌ {A = ℕ} 8 34 = k in absurd (omega arith)

full_tables : (s : Sides) (es : List Entry) (v l : Bool) (ws tables list : List ℕ) → compare_no (compared_by s (length list / 4) es v l).answer ≡ 34 → tables_by s es (length list / 4) ws tables ≡ tables
full_tables (Err x) es v l ws tables list e = refl
full_tables (Ok u) es v l ws tables list e = go (ltb (length list / 4) (length es)) refl
  where
    go : (a : Bool) → ltb (length list / 4) (length es) ≡ a → tables_if (length list / 4) es ws tables ≡ tables
    go true z = rw z
    go false z = more (eqb (length es) 0) (ap (λ (a : Bool). compare_no (cond a answer.NoRoom (cond (eqb (length es) 0) answer.Same answer.Differ))) (sym z) ∙ e)
      where
        more : (b : Bool) → compare_no (cond b answer.Same answer.Differ) ≡ 34 → tables_if (length list / 4) es ws tables ≡ tables
        more true k = let y : ◌≡◌ {A = ℕ} 9 34 = k in absurd (omega arith)
        more false k = let y : ◌≡◌ {A = ℕ} 8 34 = k in absurd (omega arith)

module _ (first : List ℕ) (p : ℕ) (second : List ℕ) (q : ℕ) where
  pub compare_no_room : (list told : List ℕ) → (sets_compared first p second q list told).answer ≡ 34 → (sets_compared first p second q list told).list ≡ list
  unfolding sets_compared compared listed
  compare_no_room list told e = full_list (set_sides first (maybe_pid p) second (maybe_pid q)) (set_entries first second) (same_version first second) (same_last first second) list e

  pub compare_schedules_no_room :
      (tables list told : List ℕ) → (schedules_compared first p second q tables list told).answer ≡ 34 →
      ((schedules_compared first p second q tables list told).list ≡ list) × ((schedules_compared first p second q tables list told).tables ≡ tables)
  unfolding schedules_compared compared_schedules listed_schedules tables_of
  compare_schedules_no_room tables list told e = (
    full_list (schedule_sides first (maybe_pid p) second (maybe_pid q)) (schedule_entries first second) (versions_agree (schedule_words first second)) (lasts_agree (schedule_words first second)) list e,
    full_tables (schedule_sides first (maybe_pid p) second (maybe_pid q)) (schedule_entries first second) (versions_agree (schedule_words first second)) (lasts_agree (schedule_words first second)) (schedule_words first second) tables list e,
  )

-- 9 and 10
pub held_refused :
    (first second : List ℕ) (number : ℕ) (held : List ℕ) (n : ℕ) → n ≡ (held_by_one first second number held).answer → (n ≡ 8 → ⊥) → held_by_one first second number held ≡ words n held
unfolding held_by_one
held_refused first second number held n e h = rw (← e, ne_eqb n 8 h)
