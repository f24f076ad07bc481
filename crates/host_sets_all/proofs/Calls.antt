-- What the call leaves in the words of a host, from what its parts leave.
-- Assumes nothing.
use Prim.Native.Nat.{ℕ}
use mathlib.Core.Path.{◌≡◌, refl, ap}
use mathlib.Core.List.{List, [], ◌∷◌}
use Rattle.store.specs.Store.{store}
use Rattle.store.specs.declared.Sets.{Sets}
use Rattle.sets_settle.specs.Settle.{set_in}
use Rattle.sets_settle.specs.declared.PushAnswer.{PushAnswer}
use Rattle.sets_settle.specs.declared.PushAnswer.TheVariants as push_answer
use Rattle.sets_all.specs.All.{told_by, after_all, pushed_all}
use Rattle.sets_all.specs.declared.AllAnswer.{AllAnswer}
use Rattle.sets_all.specs.declared.AllAnswer.TheVariants as answer
use Rattle.sets_all.specs.declared.AllPushed.{AllPushed}
use Rattle.host_words.specs.Answers.{Pushes, pushes}
use Rattle.host_sets_words.specs.Words.{sets_of, tells_pushed}
use Rattle.host_sets.specs.Calls.{sets_left}
use Rattle.host_sets_all.specs.Calls.{tells_all, all_left, left_by, sets_pushed_all}

module _ (a : AllAnswer) (s : Sets) (w row : List ℕ) where
  pub told_pushed : (b : PushAnswer) (r : ℕ) (ws rs : List ℕ) → a ≡ answer.Pushed b → pushes r ws rs ≡ tells_pushed (record { answer = b; sets = s }) w row → pushes r ws rs ≡ tells_all a s w row
  told_pushed b r ws rs h e = rw h e

  pub told_long : a ≡ answer.TooLong → pushes 42 w row ≡ tells_all a s w row
  told_long h = rw h

left_as_lem :
    (a : AllAnswer) (s : Sets) (w row heads slots cells : List ℕ) →
    sets_left (tells_all a s w row).answer (tells_all a s w row).now heads slots cells (tells_all a s w row).row ≡ left_by w row (told_by a (store s heads slots cells)) (store s heads slots cells)
unfolding set_in
left_as_lem (answer.Pushed push_answer.Nothing) s w row heads slots cells = refl
left_as_lem (answer.Pushed (push_answer.Set i)) s w row heads slots cells = refl
left_as_lem (answer.Pushed (push_answer.Refused r)) s w row heads slots cells = refl
left_as_lem answer.TooLong s w row heads slots cells = refl

pub all_left_lem :
    (sets heads slots cells list row : List ℕ) (s : Sets) (o : AllPushed) (hs ss cs ws rs ts : List ℕ) (r : ℕ) →
    s ≡ sets_of sets →
    after_all o hs ss cs ≡ pushed_all (store s heads slots cells) list →
    ts ≡ o.taken ∷ [] →
    pushes r ws rs ≡ tells_all o.answer o.sets sets row →
    all_left (sets_left r ws hs ss cs rs) ts ≡ sets_pushed_all sets heads slots cells list row
unfolding sets_pushed_all
all_left_lem sets heads slots cells list row s o hs ss cs ws rs ts r h e t p =
    rw (← h, ← e, t, ← left_as_lem o.answer o.sets sets row hs ss cs, ap (λ (x : Pushes). x.answer) p, ap (λ (x : Pushes). x.now) p, ap (λ (x : Pushes). x.row) p)
