-- What each call of the set collector leaves in the words of a host, from what its parts leave.
-- Assumes nothing.
use Prim.Native.Nat.{ℕ}
use mathlib.Core.Path.{◌≡◌, refl, ap}
use mathlib.Core.List.{List}
use mathlib.Core.Bool.{cond}
use lib.Dec.{eqb}
use Rattle.answers.specs.Answers.{outcome_no, Outcome}
use Rattle.std.specs.Prelude.{Option, Ok, Err}
use Rattle.host_words.specs.Answers.{Words, words, Pushes, pushes}
use Rattle.host_words.specs.Inputs.{input_number}
use Rattle.host_words.specs.Pids.{maybe_pid}
use Rattle.host_words.specs.Sections.{tells_next}
use Rattle.host_words.proofs.Refusals.{refused_not_7}
use Rattle.store.specs.Store.{Store, store, asked}
use Rattle.store.specs.declared.Sets.{Sets}
use Rattle.readers.specs.declared.Next.{Next}
use Rattle.sets_settle.specs.Settle.{push_no, told_no, set_in, answer_of, after_push}
use Rattle.sets.specs.Store.{outcome_of, after_open, after_clear, opened_of, pushed_of, cleared_of, next_of}
use Rattle.sets.specs.declared.Opened.{Opened}
use Rattle.sets_settle.specs.declared.Pushed.{Pushed}
use Rattle.sets.specs.declared.Cleared.{Cleared}
use Rattle.sets_settle.specs.declared.PushAnswer.{PushAnswer}
use Rattle.sets_settle.specs.declared.PushAnswer.TheVariants.{Nothing, Set, Refused}
use Rattle.host_sets_words.specs.Words.{sets_of, words_of, words_opened, row_by, tells_opened, tells_pushed, tells_cleared}
use Rattle.host_sets.specs.Calls.{sets_opened, sets_cleared, sets_left, row_after, sets_pushed, sets_next}

outcome_number : (a : Outcome) → outcome_no a ≡ told_no (outcome_of a)
outcome_number (Ok _) = refl
outcome_number (Err r) = refl

opened_words : (a : Outcome) (s : Sets) (w : List ℕ) → words_opened a s w ≡ cond (eqb (told_no (outcome_of a)) 7) (words_of s) w
opened_words (Ok _) s w = refl
opened_words (Err r) s w = rw (refused_not_7 r)

push_number_lem : (a : PushAnswer) (s : Store) → push_no a ≡ told_no (answer_of a s)
push_number_lem Nothing s = refl
push_number_lem (Set i) s = refl
push_number_lem (Refused r) s = refl

push_row : (a : PushAnswer) (s : Store) (row : List ℕ) → row_by a row ≡ row_after (answer_of a s) row
unfolding set_in
push_row Nothing s row = refl
push_row (Set i) s row = refl
push_row (Refused r) s row = refl

module _ (sets heads slots cells : List ℕ) where
  pub sets_opened_lem :
      (limit size count : ℕ) (o : Opened) (ws : List ℕ) (r : ℕ) →
      after_open o heads slots cells ≡ opened_of (store (asked limit size count) heads slots cells) →
      words r ws ≡ tells_opened o sets →
      words r ws ≡ sets_opened sets limit size count heads slots cells
  unfolding sets_opened
  sets_opened_lem limit size count o ws r e t = rw (← e, ap (λ (x : Words). x.answer) t, ap (λ (x : Words). x.now) t, opened_words o.answer o.sets sets, outcome_number o.answer)

  pub sets_cleared_lem :
      (s : Sets) (o : Cleared) (ws : List ℕ) (r : ℕ) →
      s ≡ sets_of sets →
      after_clear o heads slots cells ≡ cleared_of (store s heads slots cells) →
      words r ws ≡ tells_cleared o sets →
      words r ws ≡ sets_cleared sets heads slots cells
  unfolding sets_cleared
  sets_cleared_lem s o ws r h e t = rw (← h, ← e, ap (λ (x : Words). x.answer) t, ap (λ (x : Words). x.now) t, outcome_number o.answer)

  pub sets_pushed_lem :
      (input pid : ℕ) (section row : List ℕ) (s : Sets) (j : ℕ) (p : Option ℕ) (o : Pushed) (hs ss cs ws rs : List ℕ) (r : ℕ) →
      s ≡ sets_of sets → j ≡ input_number input → p ≡ maybe_pid pid →
      after_push o hs ss cs ≡ pushed_of (store s heads slots cells) j p section →
      pushes r ws rs ≡ tells_pushed o sets row →
      sets_left r ws hs ss cs rs ≡ sets_pushed sets heads slots cells input pid section row
  unfolding sets_pushed
  sets_pushed_lem input pid section row s j p o hs ss cs ws rs r h d q e t =
      let l = store o.sets hs ss cs in
      rw (← h, ← d, ← q, ← e, ap (λ (x : Pushes). x.answer) t, push_number_lem o.answer l, ap (λ (x : Pushes). x.now) t, ap (λ (x : Pushes). x.row) t, push_row o.answer l row)

  pub sets_next_lem :
      (row from : ℕ) (next : List ℕ) (s : Sets) (o : Next) (ns : List ℕ) (r : ℕ) →
      s ≡ sets_of sets →
      o ≡ next_of (store s heads slots cells) row from →
      words r ns ≡ tells_next o next →
      words r ns ≡ sets_next sets heads slots cells row from next
  unfolding sets_next
  sets_next_lem row from next s o ns r h e t = rw (← h, ← e, ap (λ (x : Words). x.answer) t, ap (λ (x : Words). x.now) t)
