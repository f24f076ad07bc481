-- Many sections in one C call answer and leave what one call of `petrizolu_sets_push` after another does, over any words and slices and any list with a section; where
-- the store is neither refused by 10 nor by 11 nor by 41, as many bytes of the list are taken too.
-- Assumes nothing.
use Prim.Native.Nat.{ℕ, ◌+◌, ◌≤◌, ◌<◌}
use mathlib.Core.Path.{◌≡◌, refl, sym, ap, ◌∙◌}
use mathlib.Core.List.{List, [], ◌∷◌}
use mathlib.Core.Bool.{Bool, true, false, cond}
use native.Mathlib.Omega.{arith}
use borrow.Author.Tests.{ne_eqb, ltb-false}
use lib.Dec.{eqb, ltb}
use lib.ListN.{length}
use Rattle.answers.specs.Answers.{refusal_no}
use Rattle.answers.specs.declared.Refusal.{Refusal}
use Rattle.answers.proofs.Laws.{refused_from_10}
use Rattle.std.specs.Prelude.{Some}
use Rattle.without_pid.specs.Pids.{without_pid}
use Rattle.store.specs.Store.{Store, store, counters_full, whole_of}
use Rattle.store.specs.declared.Sets.{Sets}
use Rattle.sets_settle.specs.Settle.{Told, done, nothing, handed, refused, told_no, SetsAfter, after}
use Rattle.sets.specs.Store.{pushed_of}
use Rattle.rules_logs.specs.Sections.{Given, sections, sections_in}
use Rattle.sets_all.specs.All.{of, AllAfter, all_after, is_nothing, pushed_given, pushed_each, pushed_sections, pushed_all}
use Rattle.host_words.specs.Inputs.{input_number}
use Rattle.host_words.specs.Pids.{pid_number, maybe_pid}
use Rattle.host_words.proofs.Laws.{pid_some}
use Rattle.host_sets_words.specs.Words.{sets_of, words_after}
use Rattle.host_sets_words.proofs.Same.{sets_same}
use Rattle.host_sets.specs.Calls.{SetsLeft, sets_left, pushed_as, sets_pushed}
use Rattle.host_sets_all.specs.Calls.{AllLeft, all_left, left_by, pushed_all_as, sets_pushed_all}
use Rattle.host_sets_all.proofs.Single.{Alike, sections_each}
use Rattle.ties_host.specs.All.{each_called, Said, AllSaid}
use Rattle.ties_host.proofs.Sets.{counted, pushed_counts}

-- ---- inputs and PIDs of a list are what a call takes them for

pub input_said : (i : ℕ) → i < 256 → i ≡ input_number i
input_said i h = go (ltb i 255) refl
  where
    go : (b : Bool) → ltb i 255 ≡ b → i ≡ cond b i 255
    go true e = refl
    go false e = let k = ltb-false i 255 e in omega (arith, h, k)

pub pid_said : (p : ℕ) → p < 65536 → Some p ≡ maybe_pid p
pid_said p h = pid_some p p (λ (e : p ≡ 0xFFFF_FFFF). omega (arith, h, e)) (go (ltb p 65535) refl)
  where
    go : (b : Bool) → ltb p 65535 ≡ b → p ≡ cond b p 65535
    go true e = refl
    go false e = let k = ltb-false p 65535 e in omega (arith, h, k)

-- ---- pushing tells what a section tells

pub record Named (a : AllAfter) : Type 0 where
  pub name : Told
  pub told : a.told ≡ of name

named : (n : ℕ) (s : Store) (gs : List Given) → Named (pushed_each n s gs)
unfolding pushed_each
named n s [] = record { name = nothing; told = refl }
named n s (g ∷ gs) = go (is_nothing (pushed_given s g).told) (named m (pushed_given s g).store gs)
  where
    m : ℕ
    m = n + (5 + length g.section)

    go : (f : Bool) → Named (pushed_each m (pushed_given s g).store gs) → Named (cond f (pushed_each m (pushed_given s g).store gs) (all_after (of (pushed_given s g).told) (pushed_given s g).store m))
    go true r = r
    go false r = record { name = (pushed_given s g).told; told = refl }

-- words whose counts were written say the same settings
same_words : (w row : List ℕ) (s : Sets) (a : AllAfter) → Named a → pushed_all_as (words_after w s) row a ≡ pushed_all_as w row a
same_words w row s a n = rw n.told

-- ---- one section, then the others

module _ (w row : List ℕ) (gs : List Given) (m : ℕ) where
  one_then :
      (t : Told) (s : Store) → s.sets ≡ counted (sets_of w) s.sets →
      pushed_all_as (words_after w s.sets) row (pushed_each m (store (counted (sets_of w) s.sets) s.heads s.slots s.cells) gs) ≡ each_called m (sets_left 4 (words_after w s.sets) s.heads s.slots s.cells row) gs →
      pushed_all_as w row (cond (is_nothing t) (pushed_each m s gs) (all_after (of t) s m)) ≡ cond (eqb (told_no t) 4) (each_called m (pushed_as w row (after t s)) gs) (all_left (pushed_as w row (after t s)) (m ∷ []))
  one_then done s c r = refl
  one_then nothing s c r =
      let k : pushed_all_as (words_after w s.sets) row (pushed_each m (store s.sets s.heads s.slots s.cells) gs) ≡ each_called m (sets_left 4 (words_after w s.sets) s.heads s.slots s.cells row) gs =
      ap (λ (x : Sets). pushed_all_as (words_after w s.sets) row (pushed_each m (store x s.heads s.slots s.cells) gs)) c ∙ r in
      sym (same_words w row s.sets (pushed_each m s gs) (named m s gs)) ∙ k
  one_then (handed h) s c r = refl
  one_then (refused q) s c r =
      let h : 10 ≤ refusal_no q = ltb-false (refusal_no q) 10 (refused_from_10 q) in
      let e : eqb (refusal_no q) 4 ≡ false = ne_eqb (refusal_no q) 4 (λ (z : refusal_no q ≡ 4). omega (arith, h, z)) in
      rw e

each_calls :
    (n : ℕ) (w heads slots cells row : List ℕ) → length w ≡ 6 → (gs : List Given) → AllSaid gs →
    pushed_all_as w row (pushed_each n (store (sets_of w) heads slots cells) gs) ≡ each_called n (sets_left 4 w heads slots cells row) gs
unfolding pushed_each each_called sets_pushed
each_calls n w heads slots cells row h [] b = rw (sets_same w h)
each_calls n w heads slots cells row h (g ∷ gs) b =
    let l : SetsAfter = pushed_given (store (sets_of w) heads slots cells) g in
    let s : Store = l.store in
    rw (← input_said g.input b.0.input, ← pid_said g.pid b.0.pid)
    (one_then w row gs (n + (5 + length g.section)) l.told s
    (pushed_counts (store (sets_of w) heads slots cells) g.input (Some g.pid) g.section)
    (each_calls (n + (5 + length g.section)) (words_after w s.sets) s.heads s.slots s.cells row refl gs b.1))

-- ---- the call

module _ (words heads slots cells list row : List ℕ) (h : length words ≡ 6) (g : Given) (gs : List Given) (e : sections_in list ≡ sections (g ∷ gs)) (b : AllSaid (g ∷ gs)) where
  abbrev here : Store
  here = store (sets_of words) heads slots cells

  abbrev called : AllLeft
  called = each_called 0 (sets_left 4 words heads slots cells row) (g ∷ gs)

  -- over any store
  pub all_calls : (sets_pushed_all words heads slots cells list row).left ≡ called.left
  unfolding sets_pushed_all pushed_all
  all_calls =
      let k : Alike (pushed_sections here (g ∷ gs)) (pushed_each 0 here (g ∷ gs)) = sections_each here g gs in
      let f : left_by words row (pushed_sections here (g ∷ gs)).told (pushed_sections here (g ∷ gs)).store ≡ (pushed_all_as words row (pushed_each 0 here (g ∷ gs))).left = rw (k.told, k.store) in
      rw e (f ∙ ap (λ (x : AllLeft). x.left) (each_calls 0 words heads slots cells row h (g ∷ gs) b))

  -- over one that passes 10, 11 and 41 all of it
  pub all_calls_taken : whole_of here ≡ true → counters_full here.sets ≡ false → without_pid heads here.sets.used ≡ false → sets_pushed_all words heads slots cells list row ≡ called
  unfolding sets_pushed_all pushed_all pushed_sections
  all_calls_taken p q r = rw (e, p, q, r) (each_calls 0 words heads slots cells row h (g ∷ gs) b)
