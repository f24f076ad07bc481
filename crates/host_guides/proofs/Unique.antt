-- Each call has one answer and one content of each array and slice that is lent to it to write, for every input: two that meet its promise are equal.
-- Assumes nothing.
use Prim.Native.Nat.{ℕ}
use mathlib.Core.Path.{◌≡◌, ap}
use mathlib.Core.List.{List}
use Rattle.laws.proofs.Unique.{one_result}
use Rattle.host_words.specs.Answers.{words}
use Rattle.host_words.proofs.Unique.{words_one}
use Rattle.host_guides.specs.Calls.{Comparison, comparison, sets_compared, Comparisons, comparisons, schedules_compared, held_by_one}

module _ (first : List ℕ) (p : ℕ) (second : List ℕ) (q : ℕ) (r s : ℕ) (w v : List ℕ) where
  pub unique_compare :
      (list told l k : List ℕ) → comparison r w l ≡ sets_compared first p second q list told → comparison s v k ≡ sets_compared first p second q list told → (r ≡ s) × (w ≡ v) × (l ≡ k)
  unique_compare list told l k a b =
      let e : comparison r w l ≡ comparison s v k = one_result (sets_compared first p second q list told) a b in
      (ap (λ (t : Comparison). t.answer) e, ap (λ (t : Comparison). t.told) e, ap (λ (t : Comparison). t.list) e)

  pub unique_compare_schedules :
      (tables list told t u l k : List ℕ) → comparisons r w t l ≡ schedules_compared first p second q tables list told → comparisons s v u k ≡ schedules_compared first p second q tables list told →
      (r ≡ s) × (w ≡ v) × (t ≡ u) × (l ≡ k)
  unique_compare_schedules tables list told t u l k a b =
      let e : comparisons r w t l ≡ comparisons s v u k = one_result (schedules_compared first p second q tables list told) a b in (
        ap (λ (x : Comparisons). x.answer) e,
        ap (λ (x : Comparisons). x.told) e,
        ap (λ (x : Comparisons). x.tables) e,
        ap (λ (x : Comparisons). x.list) e,
      )

pub unique_held_by_one :
    (first second : List ℕ) (number : ℕ) (held : List ℕ) (r s : ℕ) (w v : List ℕ) →
    words r w ≡ held_by_one first second number held → words s v ≡ held_by_one first second number held → (r ≡ s) × (w ≡ v)
unique_held_by_one first second number held = words_one (held_by_one first second number held)
