-- Many calls of a host: where each call tells and leaves what the call that is made of it does, all of them do.
-- Assumes nothing.
use mathlib.Core.Path.{◌≡◌, refl, ap, ◌∙◌}
use mathlib.Core.List.{List, [], ◌∷◌, map}
use Rattle.laws.specs.Runs.{answers, store_after}

module _ {L S I J A B : Type 0} (view : L → S) (made : I → J) (no : A → B) (tells : L → I → B) (acts : L → I → L) (tells' : S → J → A) (acts' : S → J → S)
    (told : (l : L) (i : I) → tells l i ≡ no (tells' (view l) (made i))) (left : (l : L) (i : I) → view (acts l i) ≡ acts' (view l) (made i)) where
  pub same_answers : (calls : List I) (l : L) → answers tells acts l calls ≡ map no (answers tells' acts' (view l) (map made calls))
  unfolding answers
  same_answers [] l = refl
  same_answers (i ∷ is) l =
      let q = same_answers is (acts l i) ∙ ap (λ (s : S). map no (answers tells' acts' s (map made is))) (left l i) in
      λ k. told l i k ∷ q k

  pub same_store : (calls : List I) (l : L) → view (store_after acts l calls) ≡ store_after acts' (view l) (map made calls)
  unfolding store_after
  same_store [] l = refl
  same_store (i ∷ is) l = same_store is (acts l i) ∙ ap (λ (s : S). store_after acts' s (map made is)) (left l i)

pub map_same : {A : Type 0} (xs : List A) → map (λ (x : A). x) xs ≡ xs
map_same [] = refl
map_same (x ∷ xs) = ap (λ (l : List _). x ∷ l) (map_same xs)
