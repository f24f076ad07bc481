-- A refusal leaves every word that is lent as it was, whatever the words hold. An array of n words is a list of length n.
-- Assumes nothing.
use Prim.Native.Nat.{ℕ, ◌≤◌}
use mathlib.Core.Path.{◌≡◌, refl, sym, ap, ◌∙◌}
use mathlib.Core.Logic.{◌≢◌}
use mathlib.Core.List.{List}
use mathlib.Core.Bool.{Bool, true, false, cond}
use native.Mathlib.Omega.{arith}
use lib.ListN.{length}
use Rattle.answers.specs.Answers.{refusal_no}
use Rattle.answers.specs.declared.Refusal.{Refusal}
use Rattle.answers.specs.declared.Refusal.TheVariants.{NotWhole, NoPid, Conflict}
use Rattle.host_words.specs.Answers as answers
use Rattle.host_words.specs.Inputs.{input_number}
use Rattle.host_words.specs.Pids.{maybe_pid}
use Rattle.host_words.proofs.Refusals.{refused_open, refused_next}
use Rattle.without_pid.specs.Pids.{without_pid}
use Rattle.store.specs.Store.{Store, store, whole_of}
use Rattle.sets_settle.specs.Settle.{Told, done, nothing, handed, refused, told_no, SetsAfter, after}
use Rattle.sets.specs.Store.{cleared_of, pushed_of, next_of}
use Rattle.sets.proofs.Refusals.{refusal_keeps}
use Rattle.host_sets_words.specs.Words.{sets_of}
use Rattle.host_sets.specs.Calls.{sets_opened, cleared_as, sets_cleared, sets_left, row_after, pushed_as, sets_pushed, sets_next}
use Rattle.host_sets_words.proofs.Same.{sets_same}

-- 13
pub sets_open_refused :
    (words : List ℕ) (limit size count : ℕ) (heads slots cells : List ℕ) (answer : ℕ) →
    answer ≡ (sets_opened words limit size count heads slots cells).answer → (answer ≡ 7 → ⊥) →
    sets_opened words limit size count heads slots cells ≡ answers.words answer words
unfolding sets_opened
sets_open_refused words limit size count heads slots cells answer e h = refused_open answer _ _ words e h

-- 10 and 41
pub sets_clear_refused :
    (words heads slots cells : List ℕ) (answer : ℕ) → length words ≡ 6 →
    answer ≡ (sets_cleared words heads slots cells).answer → (answer ≡ 7 → ⊥) →
    sets_cleared words heads slots cells ≡ answers.words answer words
unfolding sets_cleared cleared_of
sets_clear_refused words heads slots cells answer n e h = go (whole_of (store (sets_of words) heads slots cells)) (without_pid heads (sets_of words).used) _ e
  where
    before : Store
    before = store (sets_of words) heads slots cells

    left : (whole without : Bool) → Store → SetsAfter
    left whole without s = cond whole (cond without (after (refused NoPid) before) (after done s)) (after (refused NotWhole) before)

    go : (whole without : Bool) (s : Store) → answer ≡ (cleared_as words (left whole without s)).answer → cleared_as words (left whole without s) ≡ answers.words answer words
    go true true s e = rw (e, sets_same words n)
    go true false s e = absurd (h e)
    go false without s e = rw (e, sets_same words n)

-- a refusal other than 22 leaves the store and the row's word
kept_as :
    (s : Store) (l : SetsAfter) (row : List ℕ) (t : Told) → l.told ≡ t → ((r : Refusal) → l.told ≡ refused r → r ≢ Conflict → l.store ≡ s) →
    10 ≤ told_no t → told_no t ≢ 22 → (l.store ≡ s) × (row_after t row ≡ row)
kept_as s l row done e f h k = absurd (omega arith)
kept_as s l row nothing e f h k = absurd (omega arith)
kept_as s l row (handed o) e f h k = absurd (omega arith)
kept_as s l row (refused r) e f h k = (f r e (λ (q : r ≡ Conflict). k (ap refusal_no q)), refl)

-- every refusal but 22
pub sets_push_refused :
    (words heads slots cells : List ℕ) (input pid : ℕ) (section row : List ℕ) (answer : ℕ) → length words ≡ 6 →
    answer ≡ (sets_pushed words heads slots cells input pid section row).answer → 10 ≤ answer → answer ≢ 22 →
    sets_pushed words heads slots cells input pid section row ≡ sets_left answer words heads slots cells row
unfolding sets_pushed
sets_push_refused words heads slots cells input pid section row answer n e h k =
    let s : Store = store (sets_of words) heads slots cells in
    let l : SetsAfter = pushed_of s (input_number input) (maybe_pid pid) section in
    let a : 10 ≤ told_no l.told = rw (← e) h in
    let b : told_no l.told ≢ 22 = λ (q : told_no l.told ≡ 22). k (e ∙ q) in
    let q = kept_as s l row l.told refl (refusal_keeps s (input_number input) (maybe_pid pid) section) a b in
    go l q.0 q.1 e
  where
    go :
        (l : SetsAfter) → l.store ≡ store (sets_of words) heads slots cells → row_after l.told row ≡ row → answer ≡ told_no l.told →
        pushed_as words row l ≡ sets_left answer words heads slots cells row
    go l q a e = rw (q, e, sets_same words n, a)

-- 9, 10 and 41
pub sets_next_refused :
    (words heads slots cells : List ℕ) (row from : ℕ) (next : List ℕ) (answer : ℕ) →
    answer ≡ (sets_next words heads slots cells row from next).answer → (answer ≡ 8 → ⊥) →
    sets_next words heads slots cells row from next ≡ answers.words answer next
unfolding sets_next
sets_next_refused words heads slots cells row from next answer = refused_next (next_of (store (sets_of words) heads slots cells) row from) next answer
