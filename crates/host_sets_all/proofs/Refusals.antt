-- Where nothing of a list is taken, every word that is lent but the word of what was taken is as it was, whatever the words hold: 42 and 10 of the list, 10, 11 and 41
-- of the store, and a list of no section. An array of n words is a list of length n.
-- Assumes nothing.
use Prim.Native.Nat.{ℕ, ◌+◌, ◌≤◌}
use mathlib.Core.Path.{◌≡◌, refl, ap, ◌∙◌}
use mathlib.Core.List.{List, [], ◌∷◌}
use mathlib.Core.Bool.{Bool, true, false, cond}
use native.Mathlib.Omega.{arith}
use lib.ListN.{length}
use Rattle.answers.specs.declared.Refusal.TheVariants.{NotWhole, CounterFull, NoPid}
use Rattle.without_pid.specs.Pids.{without_pid}
use Rattle.store.specs.Store.{Store, store, whole_of, counters_full}
use Rattle.sets_settle.specs.Settle.{refused}
use Rattle.rules_logs.specs.Sections.{Given, Listed, too_long, cut, sections, sections_in}
use Rattle.sets_all.specs.All.{AllTold, of, AllAfter, all_after, is_nothing, pushed_given, pushed_each, pushed_sections, pushed_list, pushed_all}
use Rattle.host_words.specs.Answers.{at}
use Rattle.host_sets_words.specs.Words.{sets_of}
use Rattle.host_sets_words.proofs.Same.{sets_same}
use Rattle.host_sets.specs.Calls.{sets_left}
use Rattle.host_sets_all.specs.Calls.{all_left, pushed_all_as, sets_pushed_all}

-- what was taken before stays taken
takes : (n : ℕ) (s : Store) (gs : List Given) → n ≤ (pushed_each n s gs).taken
unfolding pushed_each
takes n s [] = omega arith
takes n s (g ∷ gs) = go (is_nothing (pushed_given s g).told) (takes m (pushed_given s g).store gs)
  where
    m : ℕ
    m = n + (5 + length g.section)

    go : (f : Bool) → m ≤ (pushed_each m (pushed_given s g).store gs).taken → n ≤ (cond f (pushed_each m (pushed_given s g).store gs) (all_after (of (pushed_given s g).told) (pushed_given s g).store m)).taken
    go true h = omega (arith, h)
    go false h = omega arith

-- a section takes five bytes and more
takes_some : (s : Store) (g : Given) (gs : List Given) → 5 ≤ (pushed_each 0 s (g ∷ gs)).taken
unfolding pushed_each
takes_some s g gs = go (is_nothing (pushed_given s g).told) (takes m (pushed_given s g).store gs)
  where
    m : ℕ
    m = 0 + (5 + length g.section)

    go : (f : Bool) → m ≤ (pushed_each m (pushed_given s g).store gs).taken → 5 ≤ (cond f (pushed_each m (pushed_given s g).store gs) (all_after (of (pushed_given s g).told) (pushed_given s g).store m)).taken
    go true h = omega (arith, h)
    go false h = omega arith

module _ (words heads slots cells row : List ℕ) (n : length words ≡ 6) where
  abbrev here : Store
  here = store (sets_of words) heads slots cells

  abbrev Kept : AllAfter → Type 0
  Kept a = (pushed_all_as words row a).left ≡ sets_left (pushed_all_as words row a).left.answer words heads slots cells row

  each_kept : (gs : List Given) → (pushed_each 0 here gs).taken ≡ 0 → Kept (pushed_each 0 here gs)
  unfolding pushed_each
  each_kept [] z = rw (sets_same words n)
  each_kept (g ∷ gs) z = let h = takes_some here g gs in absurd (omega (arith, h, z))

  sections_kept : (gs : List Given) → (pushed_sections here gs).taken ≡ 0 → Kept (pushed_sections here gs)
  unfolding pushed_sections
  sections_kept gs = go (whole_of here) (counters_full here.sets) (without_pid heads here.sets.used)
    where
      by : (whole full without : Bool) → AllAfter
      by whole full without =
          cond whole
          (cond full (all_after (of (refused CounterFull)) here 0)
          (cond without (all_after (of (refused NoPid)) here 0) (pushed_each 0 here gs)))
          (all_after (of (refused NotWhole)) here 0)

      go : (whole full without : Bool) → (by whole full without).taken ≡ 0 → Kept (by whole full without)
      go true true without z = rw (sets_same words n)
      go true false true z = rw (sets_same words n)
      go true false false z = each_kept gs z
      go false full without z = rw (sets_same words n)

  list_kept : (l : Listed) → (pushed_list here l).taken ≡ 0 → Kept (pushed_list here l)
  list_kept too_long z = refl
  list_kept cut z = rw (sets_same words n)
  list_kept (sections gs) z = sections_kept gs z

  pub sets_push_all_untaken :
      (list : List ℕ) (answer : ℕ) → answer ≡ (sets_pushed_all words heads slots cells list row).left.answer →
      (sets_pushed_all words heads slots cells list row).taken ≡ 0 ∷ [] →
      sets_pushed_all words heads slots cells list row ≡ all_left (sets_left answer words heads slots cells row) (0 ∷ [])
  unfolding sets_pushed_all pushed_all
  sets_push_all_untaken list answer e t =
      let k = list_kept (sections_in list) (ap (λ (w : List ℕ). at w 0) t) in
      let f : sets_left (pushed_all_as words row (pushed_list here (sections_in list))).left.answer words heads slots cells row ≡ sets_left answer words heads slots cells row = rw e in
      λ i. record { left = (k ∙ f) i; taken = t i }
