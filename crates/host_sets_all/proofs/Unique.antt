-- The call has one answer and one content of each array and slice that is lent, for every input: two answers and exit contents that meet its promise
-- are equal.
-- Assumes nothing.
use Prim.Native.Nat.{ℕ}
use mathlib.Core.Path.{◌≡◌, ap}
use mathlib.Core.List.{List}
use Rattle.laws.proofs.Unique.{one_result}
use Rattle.host_sets.specs.Calls.{sets_left}
use Rattle.host_sets_all.specs.Calls.{AllLeft, all_left, sets_pushed_all}

pub unique_sets_push_all :
    (sets heads slots cells list row : List ℕ) (r s : ℕ) (w x h i k l c d n m t u : List ℕ) →
    all_left (sets_left r w h k c n) t ≡ sets_pushed_all sets heads slots cells list row → all_left (sets_left s x i l d m) u ≡ sets_pushed_all sets heads slots cells list row →
    (r ≡ s) × (w ≡ x) × (h ≡ i) × (k ≡ l) × (c ≡ d) × (n ≡ m) × (t ≡ u)
unique_sets_push_all sets heads slots cells list row r s w x h i k l c d n m t u a b =
    let e : all_left (sets_left r w h k c n) t ≡ all_left (sets_left s x i l d m) u = one_result (sets_pushed_all sets heads slots cells list row) a b in (
      ap (λ (z : AllLeft). z.left.answer) e,
      ap (λ (z : AllLeft). z.left.sets) e,
      ap (λ (z : AllLeft). z.left.heads) e,
      ap (λ (z : AllLeft). z.left.slots) e,
      ap (λ (z : AllLeft). z.left.cells) e,
      ap (λ (z : AllLeft). z.left.row) e,
      ap (λ (z : AllLeft). z.taken) e,
    )
