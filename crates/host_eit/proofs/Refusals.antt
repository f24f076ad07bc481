-- A refusal leaves every word that is lent as it was, whatever the words hold. An array of n words is a list of length n.
-- Assumes nothing.
use Prim.Native.Nat.{ℕ, ◌≤◌}
use mathlib.Core.Path.{◌≡◌, refl, ◌∙◌}
use mathlib.Core.Logic.{◌≢◌}
use mathlib.Core.List.{List}
use mathlib.Core.Bool.{Bool, true, false, cond}
use native.Mathlib.Omega.{arith}
use lib.ListN.{length}
use Rattle.answers.specs.declared.Refusal.TheVariants as refusal
use Rattle.host_words.specs.Answers as answers
use Rattle.host_words.specs.Inputs.{input_number}
use Rattle.host_words.specs.Pids.{maybe_pid}
use Rattle.host_words.proofs.Refusals.{refused_open, refused_next}
use Rattle.eit_state.specs.State.{Store, store, whole_of}
use Rattle.eit_pids.specs.Rows.{any_without}
use Rattle.eit.specs.Store as eit
use Rattle.eit.specs.Store.{Told, a_set, a_schedule, number, After, after, cleared_of, pushed_of, dropped_of, next_of, next_in_of}
use Rattle.eit.proofs.Refusals.{push_keeps, drop_keeps}
use Rattle.host_eit_words.specs.Words.{eit_of, filter_of}
use Rattle.host_eit.specs.Calls.{eit_opened, cleared_as, eit_cleared, eit_left, row_after, pushed_as, eit_pushed, eit_dropped_to, dropped_as, eit_dropped, eit_next, eit_next_in}
use Rattle.host_eit_words.proofs.Same.{eit_same}

-- 13
pub eit_open_refused :
    (words : List ℕ) (limit size count : ℕ) (heads slots cells schedule_heads units : List ℕ) (answer : ℕ) →
    answer ≡ (eit_opened words limit size count heads slots cells schedule_heads units).answer → (answer ≡ 7 → ⊥) →
    eit_opened words limit size count heads slots cells schedule_heads units ≡ answers.words answer words
unfolding eit_opened
eit_open_refused words limit size count heads slots cells schedule_heads units answer e h = refused_open answer _ _ words e h

-- 10 and 41
pub eit_clear_refused :
    (words heads slots cells schedule_heads units : List ℕ) (answer : ℕ) → length words ≡ 8 →
    answer ≡ (eit_cleared words heads slots cells schedule_heads units).answer → (answer ≡ 7 → ⊥) →
    eit_cleared words heads slots cells schedule_heads units ≡ answers.words answer words
unfolding eit_cleared cleared_of
eit_clear_refused words heads slots cells schedule_heads units answer n e h = go (whole_of (store (eit_of words) heads slots cells schedule_heads units)) (any_without (eit_of words) heads schedule_heads) _ e
  where
    before : Store
    before = store (eit_of words) heads slots cells schedule_heads units

    left : (whole without : Bool) → Store → After
    left whole without s = cond whole (cond without (after (eit.refused refusal.NoPid) before) (after eit.done s)) (after (eit.refused refusal.NotWhole) before)

    go : (whole without : Bool) (s : Store) → answer ≡ (cleared_as words (left whole without s)).answer → cleared_as words (left whole without s) ≡ answers.words answer words
    go true true s e = rw (e, eit_same words n)
    go true false s e = absurd (h e)
    go false without s e = rw (e, eit_same words n)

no_row : (t : Told) (row : List ℕ) → 10 ≤ number t → row_after t row ≡ row
no_row eit.done row h = refl
no_row eit.nothing row h = refl
no_row (a_set o) row h = absurd (omega arith)
no_row (a_schedule o) row h = absurd (omega arith)
no_row (eit.refused r) row h = refl

-- every refusal but 22 and 23
pub eit_push_refused :
    (words heads slots cells schedule_heads units : List ℕ) (input pid : ℕ) (section row : List ℕ) (answer : ℕ) → length words ≡ 8 →
    answer ≡ (eit_pushed words heads slots cells schedule_heads units input pid section row).answer → 10 ≤ answer → answer ≢ 22 → answer ≢ 23 →
    eit_pushed words heads slots cells schedule_heads units input pid section row ≡ eit_left answer words heads slots cells schedule_heads units row
unfolding eit_pushed
eit_push_refused words heads slots cells schedule_heads units input pid section row answer n e h j k =
    let s : Store = store (eit_of words) heads slots cells schedule_heads units in
    let l : After = pushed_of s (input_number input) (maybe_pid pid) section in
    let a : 10 ≤ number l.told = rw (← e) h in
    let b : number l.told ≢ 22 = λ (q : number l.told ≡ 22). j (e ∙ q) in
    let c : number l.told ≢ 23 = λ (q : number l.told ≡ 23). k (e ∙ q) in
    go l (push_keeps s (input_number input) (maybe_pid pid) section a b c) a e
  where
    go :
        (l : After) → l.store ≡ store (eit_of words) heads slots cells schedule_heads units → 10 ≤ number l.told → answer ≡ number l.told →
        pushed_as words row l ≡ eit_left answer words heads slots cells schedule_heads units row
    go l q a e = rw (q, e, eit_same words n, no_row l.told row a)

-- 10, 41, 12 and 37
pub eit_drop_refused :
    (words heads slots cells schedule_heads units filter : List ℕ) (answer : ℕ) → length words ≡ 8 →
    answer ≡ (eit_dropped words heads slots cells schedule_heads units filter).answer → 10 ≤ answer →
    eit_dropped words heads slots cells schedule_heads units filter ≡ eit_dropped_to answer words heads slots schedule_heads units
unfolding eit_dropped
eit_drop_refused words heads slots cells schedule_heads units filter answer n e h =
    let s : Store = store (eit_of words) heads slots cells schedule_heads units in
    let l : After = dropped_of s (filter_of filter) in
    let a : 10 ≤ number l.told = rw (← e) h in
    go l (drop_keeps s (filter_of filter) a) e
  where
    go :
        (l : After) → l.store ≡ store (eit_of words) heads slots cells schedule_heads units → answer ≡ number l.told →
        dropped_as words l ≡ eit_dropped_to answer words heads slots schedule_heads units
    go l q e = rw (q, e, eit_same words n)

-- 9, 10 and 41
pub eit_next_refused :
    (words heads slots cells schedule_heads units : List ℕ) (row from : ℕ) (next : List ℕ) (answer : ℕ) →
    answer ≡ (eit_next words heads slots cells schedule_heads units row from next).answer → (answer ≡ 8 → ⊥) →
    eit_next words heads slots cells schedule_heads units row from next ≡ answers.words answer next
unfolding eit_next
eit_next_refused words heads slots cells schedule_heads units row from next answer =
    refused_next (next_of (store (eit_of words) heads slots cells schedule_heads units) row from) next answer

pub eit_next_in_refused :
    (words heads slots cells schedule_heads units : List ℕ) (row table from : ℕ) (next : List ℕ) (answer : ℕ) →
    answer ≡ (eit_next_in words heads slots cells schedule_heads units row table from next).answer → (answer ≡ 8 → ⊥) →
    eit_next_in words heads slots cells schedule_heads units row table from next ≡ answers.words answer next
unfolding eit_next_in
eit_next_in_refused words heads slots cells schedule_heads units row table from next answer =
    refused_next (next_in_of (store (eit_of words) heads slots cells schedule_heads units) row table from) next answer
