-- What the call leaves in the words of a host, from what its parts leave.
-- Assumes nothing.
use Prim.Native.Nat.{ℕ}
use mathlib.Core.Path.{◌≡◌, refl, ap}
use mathlib.Core.List.{List, [], ◌∷◌}
use Rattle.eit_state.specs.State.{store}
use Rattle.eit_state.specs.declared.Eit.{Eit}
use Rattle.eit_state.specs.declared.PushAnswer.{PushAnswer}
use Rattle.eit_state.specs.declared.PushAnswer.TheVariants as push_answer
use Rattle.eit.specs.Store.{set_out_lem, schedule_out}
use Rattle.eit_each.specs.Each.{told_by, after_all}
use Rattle.eit_each.specs.declared.AllAnswer.{AllAnswer}
use Rattle.eit_each.specs.declared.AllAnswer.TheVariants as answer
use Rattle.eit_each.specs.declared.AllPushed.{AllPushed}
use Rattle.eit_all.specs.All.{pushed_all}
use Rattle.host_words.specs.Answers.{Pushes, pushes}
use Rattle.host_eit_words.specs.Words.{eit_of, tells_pushed}
use Rattle.host_eit.specs.Calls.{eit_left}
use Rattle.host_eit_all.specs.Calls.{tells_all, all_left, left_by, eit_pushed_all}

module _ (a : AllAnswer) (s : Eit) (w row : List ℕ) where
  pub told_pushed : (b : PushAnswer) (r : ℕ) (ws rs : List ℕ) → a ≡ answer.Pushed b → pushes r ws rs ≡ tells_pushed (record { answer = b; eit = s }) w row → pushes r ws rs ≡ tells_all a s w row
  told_pushed b r ws rs h e = rw h e

  pub told_long : a ≡ answer.TooLong → pushes 42 w row ≡ tells_all a s w row
  told_long h = rw h

left_as_lem :
    (a : AllAnswer) (s : Eit) (w row heads slots cells tops units : List ℕ) →
    eit_left (tells_all a s w row).answer (tells_all a s w row).now heads slots cells tops units (tells_all a s w row).row ≡ left_by w row (told_by a (store s heads slots cells tops units)) (store s heads slots cells tops units)
unfolding set_out_lem schedule_out
left_as_lem (answer.Pushed push_answer.Nothing) s w row heads slots cells tops units = refl
left_as_lem (answer.Pushed (push_answer.Set i)) s w row heads slots cells tops units = refl
left_as_lem (answer.Pushed (push_answer.Schedule k)) s w row heads slots cells tops units = refl
left_as_lem (answer.Pushed (push_answer.Refused r)) s w row heads slots cells tops units = refl
left_as_lem answer.TooLong s w row heads slots cells tops units = refl

pub all_left_lem :
    (eit heads slots cells tops units list row : List ℕ) (s : Eit) (o : AllPushed) (hs ss cs hs₂ us ws rs ts : List ℕ) (r : ℕ) →
    s ≡ eit_of eit →
    after_all o hs ss cs hs₂ us ≡ pushed_all (store s heads slots cells tops units) list →
    ts ≡ o.taken ∷ [] →
    pushes r ws rs ≡ tells_all o.answer o.eit eit row →
    all_left (eit_left r ws hs ss cs hs₂ us rs) ts ≡ eit_pushed_all eit heads slots cells tops units list row
unfolding eit_pushed_all
all_left_lem eit heads slots cells tops units list row s o hs ss cs hs₂ us ws rs ts r h e t p =
    rw (← h, ← e, t, ← left_as_lem o.answer o.eit eit row hs ss cs hs₂ us, ap (λ (x : Pushes). x.answer) p, ap (λ (x : Pushes). x.now) p, ap (λ (x : Pushes). x.row) p)
