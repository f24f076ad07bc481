-- Each call has one answer and one content of each array and slice that is lent, for every input: two answers and exit contents that meet its
-- promise are equal.
-- Assumes nothing.
use Prim.Native.Nat.{ℕ}
use mathlib.Core.Path.{◌≡◌, ap}
use mathlib.Core.List.{List}
use Rattle.laws.proofs.Unique.{one_result}
use Rattle.host_words.specs.Answers.{words}
use Rattle.host_words.proofs.Unique.{words_one}
use Rattle.host_eit.specs.Calls.{eit_opened, eit_cleared, EitLeft, eit_left, eit_pushed, EitDropped, eit_dropped_to, eit_dropped, eit_next, eit_next_in}

pub unique_eit_open :
    (eit : List ℕ) (limit size count : ℕ) (heads slots cells tops units : List ℕ) (r s : ℕ) (w x : List ℕ) →
    words r w ≡ eit_opened eit limit size count heads slots cells tops units → words s x ≡ eit_opened eit limit size count heads slots cells tops units →
    (r ≡ s) × (w ≡ x)
unique_eit_open eit limit size count heads slots cells tops units = words_one (eit_opened eit limit size count heads slots cells tops units)

pub unique_eit_clear :
    (eit heads slots cells tops units : List ℕ) (r s : ℕ) (w x : List ℕ) →
    words r w ≡ eit_cleared eit heads slots cells tops units → words s x ≡ eit_cleared eit heads slots cells tops units → (r ≡ s) × (w ≡ x)
unique_eit_clear eit heads slots cells tops units = words_one (eit_cleared eit heads slots cells tops units)

pub unique_eit_push :
    (eit heads slots cells tops units : List ℕ) (input pid : ℕ) (section row : List ℕ) (r s : ℕ) (w x h i k l c d t u y z n m : List ℕ) →
    eit_left r w h k c t y n ≡ eit_pushed eit heads slots cells tops units input pid section row →
    eit_left s x i l d u z m ≡ eit_pushed eit heads slots cells tops units input pid section row →
    (r ≡ s) × (w ≡ x) × (h ≡ i) × (k ≡ l) × (c ≡ d) × (t ≡ u) × (y ≡ z) × (n ≡ m)
unique_eit_push eit heads slots cells tops units input pid section row r s w x h i k l c d t u y z n m a b =
    let e : eit_left r w h k c t y n ≡ eit_left s x i l d u z m = one_result (eit_pushed eit heads slots cells tops units input pid section row) a b in (
      ap (λ (o : EitLeft). o.answer) e,
      ap (λ (o : EitLeft). o.eit) e,
      ap (λ (o : EitLeft). o.heads) e,
      ap (λ (o : EitLeft). o.slots) e,
      ap (λ (o : EitLeft). o.cells) e,
      ap (λ (o : EitLeft). o.schedule_heads) e,
      ap (λ (o : EitLeft). o.units) e,
      ap (λ (o : EitLeft). o.row) e,
    )

pub unique_eit_drop :
    (eit heads slots cells tops units filter : List ℕ) (r s : ℕ) (w x h i k l t u y z : List ℕ) →
    eit_dropped_to r w h k t y ≡ eit_dropped eit heads slots cells tops units filter → eit_dropped_to s x i l u z ≡ eit_dropped eit heads slots cells tops units filter →
    (r ≡ s) × (w ≡ x) × (h ≡ i) × (k ≡ l) × (t ≡ u) × (y ≡ z)
unique_eit_drop eit heads slots cells tops units filter r s w x h i k l t u y z a b =
    let e : eit_dropped_to r w h k t y ≡ eit_dropped_to s x i l u z = one_result (eit_dropped eit heads slots cells tops units filter) a b in (
      ap (λ (o : EitDropped). o.answer) e,
      ap (λ (o : EitDropped). o.eit) e,
      ap (λ (o : EitDropped). o.heads) e,
      ap (λ (o : EitDropped). o.slots) e,
      ap (λ (o : EitDropped). o.schedule_heads) e,
      ap (λ (o : EitDropped). o.units) e,
    )

pub unique_eit_next :
    (eit heads slots cells tops units : List ℕ) (row from : ℕ) (next : List ℕ) (r s : ℕ) (w x : List ℕ) →
    words r w ≡ eit_next eit heads slots cells tops units row from next → words s x ≡ eit_next eit heads slots cells tops units row from next → (r ≡ s) × (w ≡ x)
unique_eit_next eit heads slots cells tops units row from next = words_one (eit_next eit heads slots cells tops units row from next)

pub unique_eit_next_in_schedule :
    (eit heads slots cells tops units : List ℕ) (row table from : ℕ) (next : List ℕ) (r s : ℕ) (w x : List ℕ) →
    words r w ≡ eit_next_in eit heads slots cells tops units row table from next → words s x ≡ eit_next_in eit heads slots cells tops units row table from next →
    (r ≡ s) × (w ≡ x)
unique_eit_next_in_schedule eit heads slots cells tops units row table from next = words_one (eit_next_in eit heads slots cells tops units row table from next)
