-- What is told of the slots of a row is what two passes over them say: which is refused first, and what they list.
-- Assumes nothing.
use mathlib.Core.Path.{◌≡◌, refl, sym, ap₂, ◌∙◌}
use mathlib.Core.Bool.{Bool, true, false, cond}
use Prim.Native.Nat.{ℕ, zero, suc, ◌+◌, ◌*◌, ◌-◌, ◌<◌}
use native.Mathlib.Omega.{arith}
use mathlib.Core.List.{List, [], ◌∷◌, ◌++◌}
use lib.ListN.{length, get_or}
use lib.Dec.{eqb}
use borrow.Author.Tests.{eqb-true, eqb-false}
use Rattle.cells.specs.Cells.{cell_number, filled, kept}
use Rattle.rules_networks.specs.declared.Table.{Table}
use Rattle.rules_networks.specs.Networks.{fault_of, entries_of, Told, other_table, broken_loop, entries, told_by, read_at, and_then}
use Rattle.network_sets.specs.Sets.{slot_told, slots_told, slot_fault, FirstFault, fault_at, slots_fault, slot_entries, slots_entries}

-- these entries, and then what is told
then_told : (c d : Bool) (xs ys : List (List ℕ)) (section place : ℕ) → and_then (entries xs) (cond c (entries ys) (cond d (other_table section) (broken_loop section place))) ≡ cond c (entries (xs ++ ys)) (cond d (other_table section) (broken_loop section place))
then_told true d xs ys section place = refl
then_told false true xs ys section place = refl
then_told false false xs ys section place = refl

stays_told : (d : Bool) (section place : ℕ) (t : Told) → and_then (cond d (other_table section) (broken_loop section place)) t ≡ cond d (other_table section) (broken_loop section place)
stays_told true section place t = refl
stays_told false section place t = refl

-- one section and then others
abbrev both : (number a : ℕ) → FirstFault → FirstFault
both number a f = cond (eqb a 0) f (fault_at number a)

one_then : (number a : ℕ) (xs ys : List (List ℕ)) (f : FirstFault) → and_then (told_by number a xs) (told_by f.section f.fault ys) ≡ told_by (both number a f).section (both number a f).fault (xs ++ ys)
one_then number a xs ys f = go (eqb a 0) refl
  where
    go : (c : Bool) → eqb a 0 ≡ c
        → and_then (cond c (entries xs) (cond (eqb a 1) (other_table number) (broken_loop number (a - 1)))) (told_by f.section f.fault ys)
        ≡ told_by (cond c f (fault_at number a)).section (cond c f (fault_at number a)).fault (xs ++ ys)
    go true e = then_told (eqb f.fault 0) (eqb f.fault 1) xs ys f.section (f.fault - 1)
    go false e = stays_told (eqb a 1) number (a - 1) (told_by f.section f.fault ys) ∙ sym (rw e)

module _ (t : Table) (cells : List ℕ) (size : ℕ) where
  slot_told_lem : (w number : ℕ) → slot_told t cells size w number ≡ told_by number (slot_fault t cells size w) (slot_entries t cells size w number)
  unfolding slot_told slot_fault slot_entries read_at
  slot_told_lem w number = go (filled w)
    where
      go : (b : Bool) → cond b (read_at t (cell_number w * size) number (kept cells size w)) (entries []) ≡ told_by number (cond b (fault_of t (kept cells size w)) 0) (cond b (entries_of t (cell_number w * size) number (kept cells size w)) [])
      go true = refl
      go false = refl

  pub slots_told_lem : (slots : List ℕ) (number : ℕ) → slots_told t cells size slots number
      ≡ told_by (slots_fault t cells size slots number).section (slots_fault t cells size slots number).fault (slots_entries t cells size slots number)
  unfolding slots_told slots_fault slots_entries
  slots_told_lem [] number = refl
  slots_told_lem (w ∷ ws) number =
      ap₂ and_then (slot_told_lem w number) (slots_told_lem ws (number + 1))
      ∙ one_then number (slot_fault t cells size w) (slot_entries t cells size w number) (slots_entries t cells size ws (number + 1)) (slots_fault t cells size ws (number + 1))

  -- where none is refused, each is taken
  first_none : (a : ℕ) (f : FirstFault) (number : ℕ) → (both number a f).fault ≡ 0 → (a ≡ 0) × (f.fault ≡ 0)
  first_none a f number = go (eqb a 0) refl
    where
      go : (c : Bool) → eqb a 0 ≡ c → (cond c f (fault_at number a)).fault ≡ 0 → (a ≡ 0) × (f.fault ≡ 0)
      go true e h = (eqb-true a 0 e, h)
      go false e h = absurd (eqb-false a 0 e h)

  pub all_taken : (slots : List ℕ) (number : ℕ) → (slots_fault t cells size slots number).fault ≡ 0 → (j : ℕ) → j < length slots → slot_fault t cells size (get_or slots j 0) ≡ 0
  unfolding slots_fault
  all_taken [] number e j h = absurd (omega arith)
  all_taken (w ∷ ws) number e zero h = (first_none (slot_fault t cells size w) (slots_fault t cells size ws (number + 1)) number e).0
  all_taken (w ∷ ws) number e (suc j) h = all_taken ws (number + 1) (first_none (slot_fault t cells size w) (slots_fault t cells size ws (number + 1)) number e).1 j (omega arith)
