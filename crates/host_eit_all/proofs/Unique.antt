-- The call has one answer and one content of each array and slice that is lent, for every input: two answers and exit contents that meet its promise
-- are equal.
-- Assumes nothing.
use Prim.Native.Nat.{ℕ}
use mathlib.Core.Path.{◌≡◌, ap}
use mathlib.Core.List.{List}
use Rattle.laws.proofs.Unique.{one_result}
use Rattle.host_eit.specs.Calls.{eit_left}
use Rattle.host_eit_all.specs.Calls.{AllLeft, all_left, eit_pushed_all}

pub unique_eit_push_all :
    (eit heads slots cells tops units list row : List ℕ) (r s : ℕ) (w x h i k l c d o p y z n m t u : List ℕ) →
    all_left (eit_left r w h k c o y n) t ≡ eit_pushed_all eit heads slots cells tops units list row → all_left (eit_left s x i l d p z m) u ≡ eit_pushed_all eit heads slots cells tops units list row →
    (r ≡ s) × (w ≡ x) × (h ≡ i) × (k ≡ l) × (c ≡ d) × (o ≡ p) × (y ≡ z) × (n ≡ m) × (t ≡ u)
unique_eit_push_all eit heads slots cells tops units list row r s w x h i k l c d o p y z n m t u a b =
    let e : all_left (eit_left r w h k c o y n) t ≡ all_left (eit_left s x i l d p z m) u = one_result (eit_pushed_all eit heads slots cells tops units list row) a b in (
      ap (λ (q : AllLeft). q.left.answer) e,
      ap (λ (q : AllLeft). q.left.eit) e,
      ap (λ (q : AllLeft). q.left.heads) e,
      ap (λ (q : AllLeft). q.left.slots) e,
      ap (λ (q : AllLeft). q.left.cells) e,
      ap (λ (q : AllLeft). q.left.schedule_heads) e,
      ap (λ (q : AllLeft). q.left.units) e,
      ap (λ (q : AllLeft). q.left.row) e,
      ap (λ (q : AllLeft). q.taken) e,
    )
