-- Each call has one answer and one content of each array and slice that is lent, for every input: two answers and exit contents that meet its
-- promise are equal.
-- Assumes nothing.
use Prim.Native.Nat.{ℕ}
use mathlib.Core.Path.{◌≡◌, ap}
use mathlib.Core.List.{List}
use Rattle.laws.proofs.Unique.{one_result}
use Rattle.host_words.specs.Answers.{words}
use Rattle.host_words.proofs.Unique.{words_one}
use Rattle.host_sets.specs.Calls.{sets_opened, sets_cleared, SetsLeft, sets_left, sets_pushed, sets_next}

pub unique_sets_open :
    (sets : List ℕ) (limit size count : ℕ) (heads slots cells : List ℕ) (r s : ℕ) (w x : List ℕ) →
    words r w ≡ sets_opened sets limit size count heads slots cells → words s x ≡ sets_opened sets limit size count heads slots cells → (r ≡ s) × (w ≡ x)
unique_sets_open sets limit size count heads slots cells = words_one (sets_opened sets limit size count heads slots cells)

pub unique_sets_clear :
    (sets heads slots cells : List ℕ) (r s : ℕ) (w x : List ℕ) →
    words r w ≡ sets_cleared sets heads slots cells → words s x ≡ sets_cleared sets heads slots cells → (r ≡ s) × (w ≡ x)
unique_sets_clear sets heads slots cells = words_one (sets_cleared sets heads slots cells)

pub unique_sets_push :
    (sets heads slots cells : List ℕ) (input pid : ℕ) (section row : List ℕ) (r s : ℕ) (w x h i k l c d n m : List ℕ) →
    sets_left r w h k c n ≡ sets_pushed sets heads slots cells input pid section row → sets_left s x i l d m ≡ sets_pushed sets heads slots cells input pid section row →
    (r ≡ s) × (w ≡ x) × (h ≡ i) × (k ≡ l) × (c ≡ d) × (n ≡ m)
unique_sets_push sets heads slots cells input pid section row r s w x h i k l c d n m a b =
    let e : sets_left r w h k c n ≡ sets_left s x i l d m = one_result (sets_pushed sets heads slots cells input pid section row) a b in (
      ap (λ (t : SetsLeft). t.answer) e,
      ap (λ (t : SetsLeft). t.sets) e,
      ap (λ (t : SetsLeft). t.heads) e,
      ap (λ (t : SetsLeft). t.slots) e,
      ap (λ (t : SetsLeft). t.cells) e,
      ap (λ (t : SetsLeft). t.row) e,
    )

pub unique_sets_next :
    (sets heads slots cells : List ℕ) (row from : ℕ) (next : List ℕ) (r s : ℕ) (w x : List ℕ) →
    words r w ≡ sets_next sets heads slots cells row from next → words s x ≡ sets_next sets heads slots cells row from next → (r ≡ s) × (w ≡ x)
unique_sets_next sets heads slots cells row from next = words_one (sets_next sets heads slots cells row from next)
