-- The promise of each public call names one result, and one content of each slice that it is lent to write.
-- Assumes nothing.
use mathlib.Core.Path.{◌≡◌}
use mathlib.Core.List.{List}
use Prim.Native.Nat.{ℕ}
use Rattle.laws.proofs.Unique.{one_result}
use Rattle.std.specs.Prelude.{Option}
use Rattle.guides.specs.Store.{compare_no, held_no, compared, listed, compared_schedules, listed_schedules, tables_of, held_by, section_of, table_part}
use Rattle.guides.specs.declared.Compared.{Compared}
use Rattle.guides.specs.declared.CompareAnswer.{CompareAnswer}
use Rattle.guides.specs.declared.HeldAnswer.{HeldAnswer}
use Rattle.guides.specs.declared.Holder.{Holder}

module _ (a : List ℕ) (p : Option ℕ) (b : List ℕ) (q : Option ℕ) (room : ℕ) where
  pub unique_compare : (list : List ℕ) (r s : Compared) (l m : List ℕ) → r ≡ compared a p b q room → s ≡ compared a p b q room → l ≡ listed a p b q list → m ≡ listed a p b q list → (r ≡ s) × (l ≡ m)
  unique_compare list r s l m c d e f = (one_result (compared a p b q room) c d, one_result (listed a p b q list) e f)

  pub unique_schedules : (list tables : List ℕ) (r s : Compared) (l m t u : List ℕ) → r ≡ compared_schedules a p b q room → s ≡ compared_schedules a p b q room
      → l ≡ listed_schedules a p b q list → m ≡ listed_schedules a p b q list → t ≡ tables_of a p b q room tables → u ≡ tables_of a p b q room tables → (r ≡ s) × (l ≡ m) × (t ≡ u)
  unique_schedules list tables r s l m t u c d e f g h =
      (one_result (compared_schedules a p b q room) c d, one_result (listed_schedules a p b q list) e f, one_result (tables_of a p b q room tables) g h)

pub unique_held : (a b : List ℕ) (n : ℕ) (r s : Holder) → r ≡ held_by a b n → s ≡ held_by a b n → r ≡ s
unique_held a b n r s = one_result (held_by a b n)

-- of a part its bytes
pub unique_section : (a b : List ℕ) (n : ℕ) (r s : List ℕ) → r ≡ section_of a b n → s ≡ section_of a b n → r ≡ s
unique_section a b n r s = one_result (section_of a b n)

pub unique_table : (s : List ℕ) (t : ℕ) (r q : List ℕ) → r ≡ table_part s t → q ≡ table_part s t → r ≡ q
unique_table s t r q = one_result (table_part s t)

pub unique_compare_number : (a : CompareAnswer) (r s : ℕ) → r ≡ compare_no a → s ≡ compare_no a → r ≡ s
unique_compare_number a r s = one_result (compare_no a)

pub unique_held_number : (a : HeldAnswer) (r s : ℕ) → r ≡ held_no a → s ≡ held_no a → r ≡ s
unique_held_number a r s = one_result (held_no a)
