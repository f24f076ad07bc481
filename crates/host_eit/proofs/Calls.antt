-- What each call of the EIT collector leaves in the words of a host, from what its parts leave.
-- Assumes nothing.
use Prim.Native.Nat.{ℕ}
use mathlib.Core.Path.{◌≡◌, refl, sym, ap}
use mathlib.Core.List.{List}
use mathlib.Core.Bool.{cond}
use lib.Dec.{eqb}
use Rattle.answers.specs.Answers.{outcome_no, Outcome}
use Rattle.std.specs.Prelude.{Option, Ok, Err}
use Rattle.host_words.specs.Answers.{Words, words, Pushes, pushes}
use Rattle.host_words.specs.Inputs.{input_number}
use Rattle.host_words.specs.Pids.{maybe_pid}
use Rattle.host_words.specs.Sections.{tells_next}
use Rattle.host_words.proofs.Refusals.{refused_not_7}
use Rattle.readers.specs.declared.Next.{Next}
use Rattle.eit_state.specs.State.{Store, store, asked, push_number}
use Rattle.eit_state.specs.declared.Eit.{Eit}
use Rattle.eit_state.specs.declared.Turned.{Turned}
use Rattle.eit_state.specs.declared.Pushed.{Pushed}
use Rattle.eit_state.specs.declared.PushAnswer.{PushAnswer}
use Rattle.eit_state.specs.declared.PushAnswer.TheVariants.{Nothing, Set, Schedule, Refused}
use Rattle.eit_drop.specs.declared.Filter.{Filter}
use Rattle.eit.specs.Store.{number, outcome_of, set_out_lem, schedule_out, answer_of, turned, pushed, opened_of, pushed_of, cleared_of, dropped_of, next_of, next_in_of}
use Rattle.eit.proofs.Refusals.{told_number}
use Rattle.host_eit_words.specs.Words.{eit_of, words_of, words_opened, row_by, tells_opened, tells_pushed, tells_turned, filter_of}
use Rattle.host_eit.specs.Calls.{eit_opened, eit_cleared, eit_left, row_after, eit_pushed, eit_dropped_to, eit_dropped, eit_next, eit_next_in}

outcome_number : (a : Outcome) → outcome_no a ≡ number (outcome_of a)
outcome_number (Ok _) = refl
outcome_number (Err r) = refl

opened_words : (a : Outcome) (e : Eit) (w : List ℕ) → words_opened a e w ≡ cond (eqb (number (outcome_of a)) 7) (words_of e) w
opened_words (Ok _) e w = refl
opened_words (Err r) e w = rw (refused_not_7 r)

push_row : (a : PushAnswer) (s : Store) (row : List ℕ) → row_by a row ≡ row_after (answer_of a s) row
unfolding set_out_lem schedule_out
push_row Nothing s row = refl
push_row (Set i) s row = refl
push_row (Schedule k) s row = refl
push_row (Refused r) s row = refl

module _ (eit heads slots cells schedule_heads units : List ℕ) where
  pub eit_opened_lem :
      (limit size count : ℕ) (o : Turned) (ws : List ℕ) (r : ℕ) →
      turned o heads slots cells schedule_heads units ≡ opened_of (store (asked limit size count) heads slots cells schedule_heads units) →
      words r ws ≡ tells_opened o eit →
      words r ws ≡ eit_opened eit limit size count heads slots cells schedule_heads units
  unfolding eit_opened
  eit_opened_lem limit size count o ws r e t = rw (← e, ap (λ (x : Words). x.answer) t, ap (λ (x : Words). x.now) t, opened_words o.answer o.eit eit, outcome_number o.answer)

  pub eit_cleared_lem :
      (s : Eit) (o : Turned) (ws : List ℕ) (r : ℕ) →
      s ≡ eit_of eit →
      turned o heads slots cells schedule_heads units ≡ cleared_of (store s heads slots cells schedule_heads units) →
      words r ws ≡ tells_turned o eit →
      words r ws ≡ eit_cleared eit heads slots cells schedule_heads units
  unfolding eit_cleared
  eit_cleared_lem s o ws r h e t = rw (← h, ← e, ap (λ (x : Words). x.answer) t, ap (λ (x : Words). x.now) t, outcome_number o.answer)

  pub eit_pushed_lem :
      (input pid : ℕ) (section row : List ℕ) (s : Eit) (j : ℕ) (p : Option ℕ) (o : Pushed) (hs ss cs ts us ws rs : List ℕ) (r : ℕ) →
      s ≡ eit_of eit → j ≡ input_number input → p ≡ maybe_pid pid →
      pushed o hs ss cs ts us ≡ pushed_of (store s heads slots cells schedule_heads units) j p section →
      pushes r ws rs ≡ tells_pushed o eit row →
      eit_left r ws hs ss cs ts us rs ≡ eit_pushed eit heads slots cells schedule_heads units input pid section row
  unfolding eit_pushed
  eit_pushed_lem input pid section row s j p o hs ss cs ts us ws rs r h d q e t =
      let l = store o.eit hs ss cs ts us in
      rw (← h, ← d, ← q, ← e, ap (λ (x : Pushes). x.answer) t, sym (told_number o.answer l), ap (λ (x : Pushes). x.now) t, ap (λ (x : Pushes). x.row) t, push_row o.answer l row)

  pub eit_dropped_lem :
      (filter : List ℕ) (s : Eit) (f : Filter) (o : Turned) (hs ss ts us ws : List ℕ) (r : ℕ) →
      s ≡ eit_of eit → f ≡ filter_of filter →
      turned o hs ss cells ts us ≡ dropped_of (store s heads slots cells schedule_heads units) f →
      words r ws ≡ tells_turned o eit →
      eit_dropped_to r ws hs ss ts us ≡ eit_dropped eit heads slots cells schedule_heads units filter
  unfolding eit_dropped
  eit_dropped_lem filter s f o hs ss ts us ws r h q e t = rw (← h, ← q, ← e, ap (λ (x : Words). x.answer) t, ap (λ (x : Words). x.now) t, outcome_number o.answer)

  pub eit_next_lem :
      (row from : ℕ) (next : List ℕ) (s : Eit) (o : Next) (ns : List ℕ) (r : ℕ) →
      s ≡ eit_of eit →
      o ≡ next_of (store s heads slots cells schedule_heads units) row from →
      words r ns ≡ tells_next o next →
      words r ns ≡ eit_next eit heads slots cells schedule_heads units row from next
  unfolding eit_next
  eit_next_lem row from next s o ns r h e t = rw (← h, ← e, ap (λ (x : Words). x.answer) t, ap (λ (x : Words). x.now) t)

  pub eit_next_in_lem :
      (row table from : ℕ) (next : List ℕ) (s : Eit) (o : Next) (ns : List ℕ) (r : ℕ) →
      s ≡ eit_of eit →
      o ≡ next_in_of (store s heads slots cells schedule_heads units) row table from →
      words r ns ≡ tells_next o next →
      words r ns ≡ eit_next_in eit heads slots cells schedule_heads units row table from next
  unfolding eit_next_in
  eit_next_in_lem row table from next s o ns r h e t = rw (← h, ← e, ap (λ (x : Words). x.answer) t, ap (λ (x : Words). x.now) t)
