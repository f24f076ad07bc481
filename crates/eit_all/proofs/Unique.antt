-- The promise of `push_all` names one result and one content of each lent slice.
-- Assumes nothing.
use Prim.Native.Nat.{ℕ}
use mathlib.Core.Path.{◌≡◌, refl, sym, ap, ◌∙◌}
use mathlib.Core.List.{List}
use Rattle.eit_state.specs.State.{Store}
use Rattle.eit_state.specs.declared.PushAnswer.TheVariants as push_answer
use Rattle.eit.specs.Store.{done, nothing, a_set, a_schedule, refused, set_out_lem, schedule_out}
use Rattle.eit.proofs.Unique.{Same}
use Rattle.eit_each.specs.declared.AllAnswer.{AllAnswer}
use Rattle.eit_each.specs.declared.AllAnswer.TheVariants as answer
use Rattle.eit_each.specs.declared.AllPushed.{AllPushed}
use Rattle.eit_each.specs.Each.{AllTold, of, overlong, AllAfter, told_by, after_all}

-- the answer, from what it tells
answer_in : AllTold → AllAnswer
answer_in (of done) = answer.TooLong
answer_in (of nothing) = answer.Pushed push_answer.Nothing
answer_in (of (a_set x)) = answer.Pushed (push_answer.Set x.row)
answer_in (of (a_schedule x)) = answer.Pushed (push_answer.Schedule x.row)
answer_in (of (refused r)) = answer.Pushed (push_answer.Refused r)
answer_in overlong = answer.TooLong

answer_in_lem : (a : AllAnswer) (s : Store) → answer_in (told_by a s) ≡ a
unfolding answer_in set_out_lem schedule_out
answer_in_lem (answer.Pushed push_answer.Nothing) s = refl
answer_in_lem (answer.Pushed (push_answer.Set i)) s = refl
answer_in_lem (answer.Pushed (push_answer.Schedule k)) s = refl
answer_in_lem (answer.Pushed (push_answer.Refused r)) s = refl
answer_in_lem answer.TooLong s = refl

pub unique_push_all : (a : AllAfter) (p q : AllPushed) (h l c t u h' l' c' t' u' : List ℕ) → after_all p h l c t u ≡ a → after_all q h' l' c' t' u' ≡ a → (p ≡ q) × Same h l c t u h' l' c' t' u'
unique_push_all a p q h l c t u h' l' c' t' u' x y =
    let e : after_all p h l c t u ≡ after_all q h' l' c' t' u' = x ∙ sym y in
    let n : p.answer ≡ q.answer = sym (answer_in_lem p.answer _) ∙ ap (λ (k : AllAfter). answer_in k.told) e ∙ answer_in_lem q.answer _ in
    let v : p.eit ≡ q.eit = ap (λ (k : AllAfter). k.store.eit) e in
    let m : p.taken ≡ q.taken = ap (λ (k : AllAfter). k.taken) e in (
      (λ i. record { answer = n i; eit = v i; taken = m i }),
      record { heads = ap (λ (k : AllAfter). k.store.heads) e; slots = ap (λ (k : AllAfter). k.store.slots) e; cells = ap (λ (k : AllAfter). k.store.cells) e; schedule_heads = ap (λ (k : AllAfter). k.store.schedule_heads) e; units = ap (λ (k : AllAfter). k.store.units) e },
    )
