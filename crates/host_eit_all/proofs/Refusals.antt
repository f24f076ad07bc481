-- Where nothing of a list is taken, every word that is lent but the word of what was taken is as it was, whatever the words hold: 42 and 10 of the list, 10, 11 and 41
-- of the store, and a list of no section. An array of n words is a list of length n.
-- Assumes nothing.
use Prim.Native.Nat.{ℕ, ◌+◌, ◌≤◌}
use mathlib.Core.Path.{◌≡◌, refl, ap, ◌∙◌}
use mathlib.Core.List.{List, [], ◌∷◌}
use mathlib.Core.Bool.{Bool, true, false, cond}
use native.Mathlib.Omega.{arith}
use lib.ListN.{length}
use Rattle.answers.specs.declared.Refusal.TheVariants.{NotWhole, CounterFull, NoPid}
use Rattle.eit_state.specs.State.{Store, store, whole_of, counters_full}
use Rattle.eit_pids.specs.Rows.{any_without}
use Rattle.eit.specs.Store.{refused}
use Rattle.rules_logs.specs.Sections.{Given, Listed, too_long, cut, sections, sections_in}
use Rattle.eit_each.specs.Each.{of, AllAfter, all_after, is_nothing, pushed_given, pushed_each}
use Rattle.eit_all.specs.All.{pushed_sections, pushed_list, pushed_all}
use Rattle.host_words.specs.Answers.{at}
use Rattle.host_eit_words.specs.Words.{eit_of}
use Rattle.host_eit_words.proofs.Same.{eit_same}
use Rattle.host_eit.specs.Calls.{eit_left}
use Rattle.host_eit_all.specs.Calls.{all_left, pushed_all_as, eit_pushed_all}

-- what was taken before stays taken
takes : (n : ℕ) (s : Store) (gs : List Given) → n ≤ (pushed_each n s gs).taken
unfolding pushed_each
takes n s [] = omega arith
takes n s (g ∷ gs) = go (is_nothing (pushed_given s g).told) (takes m (pushed_given s g).store gs)
  where
    m : ℕ
    m = n + (5 + length g.section)

    go : (f : Bool) → m ≤ (pushed_each m (pushed_given s g).store gs).taken → n ≤ (cond f (pushed_each m (pushed_given s g).store gs) (all_after (of (pushed_given s g).told) (pushed_given s g).store m)).taken
    go true h = omega (arith, h)
    go false h = omega arith

-- a section takes five bytes and more
takes_some : (s : Store) (g : Given) (gs : List Given) → 5 ≤ (pushed_each 0 s (g ∷ gs)).taken
unfolding pushed_each
takes_some s g gs = go (is_nothing (pushed_given s g).told) (takes m (pushed_given s g).store gs)
  where
    m : ℕ
    m = 0 + (5 + length g.section)

    go : (f : Bool) → m ≤ (pushed_each m (pushed_given s g).store gs).taken → 5 ≤ (cond f (pushed_each m (pushed_given s g).store gs) (all_after (of (pushed_given s g).told) (pushed_given s g).store m)).taken
    go true h = omega (arith, h)
    go false h = omega arith

module _ (words heads slots cells tops units row : List ℕ) (n : length words ≡ 8) where
  abbrev here : Store
  here = store (eit_of words) heads slots cells tops units

  abbrev Kept : AllAfter → Type 0
  Kept a = (pushed_all_as words row a).left ≡ eit_left (pushed_all_as words row a).left.answer words heads slots cells tops units row

  each_kept : (gs : List Given) → (pushed_each 0 here gs).taken ≡ 0 → Kept (pushed_each 0 here gs)
  unfolding pushed_each
  each_kept [] z = rw (eit_same words n)
  each_kept (g ∷ gs) z = let h = takes_some here g gs in absurd (omega (arith, h, z))

  sections_kept : (gs : List Given) → (pushed_sections here gs).taken ≡ 0 → Kept (pushed_sections here gs)
  unfolding pushed_sections
  sections_kept gs = go (whole_of here) (counters_full here.eit) (any_without here.eit heads tops)
    where
      by : (whole full without : Bool) → AllAfter
      by whole full without =
          cond whole
          (cond full (all_after (of (refused CounterFull)) here 0)
          (cond without (all_after (of (refused NoPid)) here 0) (pushed_each 0 here gs)))
          (all_after (of (refused NotWhole)) here 0)

      go : (whole full without : Bool) → (by whole full without).taken ≡ 0 → Kept (by whole full without)
      go true true without z = rw (eit_same words n)
      go true false true z = rw (eit_same words n)
      go true false false z = each_kept gs z
      go false full without z = rw (eit_same words n)

  list_kept : (l : Listed) → (pushed_list here l).taken ≡ 0 → Kept (pushed_list here l)
  list_kept too_long z = refl
  list_kept cut z = rw (eit_same words n)
  list_kept (sections gs) z = sections_kept gs z

  pub eit_push_all_untaken :
      (list : List ℕ) (answer : ℕ) → answer ≡ (eit_pushed_all words heads slots cells tops units list row).left.answer →
      (eit_pushed_all words heads slots cells tops units list row).taken ≡ 0 ∷ [] →
      eit_pushed_all words heads slots cells tops units list row ≡ all_left (eit_left answer words heads slots cells tops units row) (0 ∷ [])
  unfolding eit_pushed_all pushed_all
  eit_push_all_untaken list answer e t =
      let k = list_kept (sections_in list) (ap (λ (w : List ℕ). at w 0) t) in
      let f : eit_left (pushed_all_as words row (pushed_list here (sections_in list))).left.answer words heads slots cells tops units row ≡ eit_left answer words heads slots cells tops units row = rw e in
      λ i. record { left = (k ∙ f) i; taken = t i }
