-- Many sections in one C call answer and leave what one call of `petrizolu_eit_push` after another does, over any words and slices and any list with a section; where
-- the store is neither refused by 10 nor by 11 nor by 41, as many bytes of the list are taken too.
-- Assumes nothing.
use Prim.Native.Nat.{ℕ, ◌+◌, ◌≤◌}
use mathlib.Core.Path.{◌≡◌, refl, sym, ap, ◌∙◌}
use mathlib.Core.List.{List, [], ◌∷◌}
use mathlib.Core.Bool.{Bool, true, false, cond}
use native.Mathlib.Omega.{arith}
use borrow.Author.Tests.{ne_eqb, ltb-false}
use lib.Dec.{eqb}
use lib.ListN.{length}
use Rattle.answers.specs.Answers.{refusal_no}
use Rattle.answers.proofs.Laws.{refused_from_10}
use Rattle.std.specs.Prelude.{Some}
use Rattle.eit_pids.specs.Rows.{any_without}
use Rattle.eit_state.specs.State.{Store, store, whole_of, counters_full}
use Rattle.eit_state.specs.declared.Eit.{Eit}
use Rattle.eit.specs.Store.{Told, done, nothing, a_set, a_schedule, refused, number, After, after}
use Rattle.rules_logs.specs.Sections.{Given, sections, sections_in}
use Rattle.eit_each.specs.Each.{of, AllAfter, all_after, is_nothing, pushed_given, pushed_each}
use Rattle.eit_all.specs.All.{pushed_sections, pushed_all}
use Rattle.host_eit_words.specs.Words.{eit_of, words_after}
use Rattle.host_eit_words.proofs.Same.{eit_same}
use Rattle.host_eit.specs.Calls.{eit_left, pushed_as, eit_pushed}
use Rattle.host_eit_all.specs.Calls.{AllLeft, all_left, left_by, pushed_all_as, eit_pushed_all}
use Rattle.host_eit_all.proofs.Single.{Alike, sections_each}
use Rattle.ties_host.specs.All.{AllSaid}
use Rattle.ties_host.specs.EitAll.{each_called}
use Rattle.ties_host.proofs.All.{input_said, pid_said}
use Rattle.ties_host.proofs.Eit.{counted, pushed_counts}

-- ---- pushing tells what a section tells

pub record Named (a : AllAfter) : Type 0 where
  pub name : Told
  pub told : a.told ≡ of name

named : (n : ℕ) (s : Store) (gs : List Given) → Named (pushed_each n s gs)
unfolding pushed_each
named n s [] = record { name = nothing; told = refl }
named n s (g ∷ gs) = go (is_nothing (pushed_given s g).told) (named m (pushed_given s g).store gs)
  where
    m : ℕ
    m = n + (5 + length g.section)

    go : (f : Bool) → Named (pushed_each m (pushed_given s g).store gs) → Named (cond f (pushed_each m (pushed_given s g).store gs) (all_after (of (pushed_given s g).told) (pushed_given s g).store m))
    go true r = r
    go false r = record { name = (pushed_given s g).told; told = refl }

-- words whose counts were written say the same settings
same_words : (w row : List ℕ) (s : Eit) (a : AllAfter) → Named a → pushed_all_as (words_after w s) row a ≡ pushed_all_as w row a
same_words w row s a n = rw n.told

-- ---- one section, then the others

module _ (w row : List ℕ) (gs : List Given) (m : ℕ) where
  one_then :
      (t : Told) (s : Store) → s.eit ≡ counted (eit_of w) s.eit →
      pushed_all_as (words_after w s.eit) row (pushed_each m (store (counted (eit_of w) s.eit) s.heads s.slots s.cells s.schedule_heads s.units) gs) ≡ each_called m (eit_left 4 (words_after w s.eit) s.heads s.slots s.cells s.schedule_heads s.units row) gs →
      pushed_all_as w row (cond (is_nothing t) (pushed_each m s gs) (all_after (of t) s m)) ≡ cond (eqb (number t) 4) (each_called m (pushed_as w row (after t s)) gs) (all_left (pushed_as w row (after t s)) (m ∷ []))
  one_then done s c r = refl
  one_then nothing s c r =
      let k : pushed_all_as (words_after w s.eit) row (pushed_each m (store s.eit s.heads s.slots s.cells s.schedule_heads s.units) gs) ≡ each_called m (eit_left 4 (words_after w s.eit) s.heads s.slots s.cells s.schedule_heads s.units row) gs =
      ap (λ (x : Eit). pushed_all_as (words_after w s.eit) row (pushed_each m (store x s.heads s.slots s.cells s.schedule_heads s.units) gs)) c ∙ r in
      sym (same_words w row s.eit (pushed_each m s gs) (named m s gs)) ∙ k
  one_then (a_set o) s c r = refl
  one_then (a_schedule o) s c r = refl
  one_then (refused q) s c r =
      let h : 10 ≤ refusal_no q = ltb-false (refusal_no q) 10 (refused_from_10 q) in
      let e : eqb (refusal_no q) 4 ≡ false = ne_eqb (refusal_no q) 4 (λ (z : refusal_no q ≡ 4). omega (arith, h, z)) in
      rw e

each_calls :
    (n : ℕ) (w heads slots cells tops units row : List ℕ) → length w ≡ 8 → (gs : List Given) → AllSaid gs →
    pushed_all_as w row (pushed_each n (store (eit_of w) heads slots cells tops units) gs) ≡ each_called n (eit_left 4 w heads slots cells tops units row) gs
unfolding pushed_each each_called eit_pushed
each_calls n w heads slots cells tops units row h [] b = rw (eit_same w h)
each_calls n w heads slots cells tops units row h (g ∷ gs) b =
    let l : After = pushed_given (store (eit_of w) heads slots cells tops units) g in
    let s : Store = l.store in
    rw (← input_said g.input b.0.input, ← pid_said g.pid b.0.pid)
    (one_then w row gs (n + (5 + length g.section)) l.told s
    (pushed_counts (store (eit_of w) heads slots cells tops units) g.input (Some g.pid) g.section)
    (each_calls (n + (5 + length g.section)) (words_after w s.eit) s.heads s.slots s.cells s.schedule_heads s.units row refl gs b.1))

-- ---- the call

module _ (words heads slots cells tops units list row : List ℕ) (h : length words ≡ 8) (g : Given) (gs : List Given) (e : sections_in list ≡ sections (g ∷ gs)) (b : AllSaid (g ∷ gs)) where
  abbrev here : Store
  here = store (eit_of words) heads slots cells tops units

  abbrev called : AllLeft
  called = each_called 0 (eit_left 4 words heads slots cells tops units row) (g ∷ gs)

  -- over any store
  pub all_calls : (eit_pushed_all words heads slots cells tops units list row).left ≡ called.left
  unfolding eit_pushed_all pushed_all
  all_calls =
      let k : Alike (pushed_sections here (g ∷ gs)) (pushed_each 0 here (g ∷ gs)) = sections_each here g gs in
      let f : left_by words row (pushed_sections here (g ∷ gs)).told (pushed_sections here (g ∷ gs)).store ≡ (pushed_all_as words row (pushed_each 0 here (g ∷ gs))).left = rw (k.told, k.store) in
      rw e (f ∙ ap (λ (x : AllLeft). x.left) (each_calls 0 words heads slots cells tops units row h (g ∷ gs) b))

  -- over one that passes 10, 11 and 41 all of it
  pub all_calls_taken : whole_of here ≡ true → counters_full here.eit ≡ false → any_without here.eit heads tops ≡ false → eit_pushed_all words heads slots cells tops units list row ≡ called
  unfolding eit_pushed_all pushed_all pushed_sections
  all_calls_taken p q r = rw (e, p, q, r) (each_calls 0 words heads slots cells tops units row h (g ∷ gs) b)
