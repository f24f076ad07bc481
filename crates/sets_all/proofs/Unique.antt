-- The promise of `push_all` names one result and one content of each lent slice.
-- Assumes nothing.
use Prim.Native.Nat.{ℕ}
use mathlib.Core.Path.{◌≡◌, refl, sym, ap, ◌∙◌}
use mathlib.Core.List.{List}
use Rattle.store.specs.Store.{Store}
use Rattle.sets_settle.specs.declared.PushAnswer.TheVariants as push_answer
use Rattle.sets_settle.specs.Settle.{done, nothing, handed, refused, set_in}
use Rattle.sets_all.specs.declared.AllAnswer.{AllAnswer}
use Rattle.sets_all.specs.declared.AllAnswer.TheVariants as answer
use Rattle.sets_all.specs.declared.AllPushed.{AllPushed}
use Rattle.sets_all.specs.All.{AllTold, of, overlong, AllAfter, told_by, after_all}

-- the answer, from what it tells
answer_in : AllTold → AllAnswer
answer_in (of done) = answer.TooLong
answer_in (of nothing) = answer.Pushed push_answer.Nothing
answer_in (of (handed h)) = answer.Pushed (push_answer.Set h.row)
answer_in (of (refused r)) = answer.Pushed (push_answer.Refused r)
answer_in overlong = answer.TooLong

answer_in_lem : (a : AllAnswer) (s : Store) → answer_in (told_by a s) ≡ a
unfolding answer_in set_in
answer_in_lem (answer.Pushed push_answer.Nothing) s = refl
answer_in_lem (answer.Pushed (push_answer.Set i)) s = refl
answer_in_lem (answer.Pushed (push_answer.Refused r)) s = refl
answer_in_lem answer.TooLong s = refl

pub unique_push_all : (l : AllAfter) (p q : AllPushed) (h h' s s' c c' : List ℕ) → after_all p h s c ≡ l → after_all q h' s' c' ≡ l → (p ≡ q) × (h ≡ h') × (s ≡ s') × (c ≡ c')
unique_push_all l p q h h' s s' c c' a b =
    let e : after_all p h s c ≡ after_all q h' s' c' = a ∙ sym b in
    let n : p.answer ≡ q.answer = sym (answer_in_lem p.answer _) ∙ ap (λ (k : AllAfter). answer_in k.told) e ∙ answer_in_lem q.answer _ in
    let t : p.sets ≡ q.sets = ap (λ (k : AllAfter). k.store.sets) e in
    let m : p.taken ≡ q.taken = ap (λ (k : AllAfter). k.taken) e in
    (λ i. record { answer = n i; sets = t i; taken = m i }, ap (λ (k : AllAfter). k.store.heads) e, ap (λ (k : AllAfter). k.store.slots) e, ap (λ (k : AllAfter). k.store.cells) e)
