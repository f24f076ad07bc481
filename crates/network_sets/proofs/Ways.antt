-- One law for each way out of the functions that read the slots of a row.
-- Assumes nothing.
use mathlib.Core.Path.{◌≡◌, refl, sym, ap, ◌∙◌}
use mathlib.Core.Logic.{◌≢◌}
use mathlib.Core.Bool.{Bool, true, false, cond, true≢false}
use Prim.Native.Nat.{ℕ, suc, ◌+◌, ◌*◌, ◌-◌, ◌≤◌, ◌<◌}
use native.Mathlib.Nat.{add-zero, mul-le-mul_right}
use native.Mathlib.Numerals.{add-one}
use native.Mathlib.Omega.{arith}
use mathlib.Core.List.{List}
use lib.ListN.{length, get_or, take, drop, drop_of_length-le}
use lib.Seq.{drop-cons}
use lib.Dec.{eqb}
use borrow.Author.Tests.{ne_eqb, eqb-true, eqb-false, not-true}
use Rattle.laws.proofs.Search.{every_get}
use Rattle.cells.specs.Cells.{kept_length, cell_number, filled, slot_whole}
use Rattle.placing.proofs.Fits.{slot_bounds}
use Rattle.listing.specs.Store.{put_all}
use Rattle.rules_networks.specs.declared.Table.{Table}
use Rattle.rules_networks.specs.Networks.{fault_of, entries_of, other_table, broken_loop, told_by}
use Rattle.network_entries.specs.Entries.{listed_from, SectionIn}
use Rattle.network_entries.proofs.Ways.{listed_then}
use Rattle.network_sets.specs.declared.Read.{Read}
use Rattle.std.specs.Prelude.{Result, Ok, Err}
use Rattle.network_faults.specs.declared.Fault.{Fault}
use Rattle.network_faults.specs.declared.Fault.TheVariants as why
use Rattle.network_faults.specs.Faults.{fault_kind, judged_by}
use Rattle.network_faults.proofs.Ways.{is_taken, err_of, taken_zero, refused_more, refused_kind}
use Rattle.network_sets.specs.declared.RefusedSection.{RefusedSection}
use Rattle.network_sets.specs.Sets.{ended_at, refused_as, said_of, SlotIn, SlotsIn, AllTaken, slot_fault, FirstFault, fault_at, slots_fault, first_refused, slot_entries, slots_entries, slots_told}
use Rattle.network_sets.proofs.Passes.{slots_told_lem, all_taken}

-- ---- what is told

-- the answer to a number of a fault is the same as what is told of a section
pub refused_by : (d : Bool) (skip section fault : ℕ) (list : List ℕ)
    → (refused_as section (cond d why.OtherTable (why.BrokenLoop (fault - 1))), list) ≡ said_of skip (cond d (other_table section) (broken_loop section (fault - 1))) list
refused_by true skip section fault list = refl
refused_by false skip section fault list = refl

-- ---- a slot

module _ (t : Table) (cells : List ℕ) (size w : ℕ) (b : Bool) (e : b ≡ filled w) where
  pub fault_empty : b ≡ false → Ok tt ≡ judged_by (slot_fault t cells size w)
  unfolding slot_fault
  fault_empty z = rw (← e, z)

  pub entries_empty : b ≡ false → (number skip k : ℕ) (list : List ℕ) → (k, list) ≡ listed_from skip k (slot_entries t cells size w number) list
  unfolding slot_entries listed_from put_all
  entries_empty z number skip k list = rw (← e, z, add-zero)

  module _ (z : b ≡ true) (start n : ℕ) (p : start ≡ cell_number w * size) (q : n ≡ kept_length w) where
    pub slot_end : SlotIn (length cells) size w → start + n ≤ length cells
    slot_end i =
        let k = slot_bounds i.count size w i.whole (eqb-false (kept_length w) 0 (not-true (eqb (kept_length w) 0) (sym e ∙ z))) in
        let h : (cell_number w + 1) * size ≤ i.count * size = mul-le-mul_right size (omega (arith, k.1)) in
        let r = i.room in
        omega (arith, k.0)

    pub fault_filled : (r : Result Unit Fault) → r ≡ judged_by (fault_of t (take (start + n - start) (drop start cells))) → r ≡ judged_by (slot_fault t cells size w)
    unfolding slot_fault
    fault_filled r f = let m : start + n - start ≡ n = omega arith in rw (← e, z, ← p, ← q) (rw m at f)

    pub slot_section : SlotIn (length cells) size w → start < 4294836224 → n < 65536 → (number k : ℕ) → number < 256 → k ≤ number * 65536 → SectionIn (length cells) start n number k
    slot_section i a c number k h l = record { within = slot_end i; short = omega arith; numbered = h; few = omega arith }

    pub slot_taken : slot_fault t cells size w ≡ 0 → fault_of t (take n (drop start cells)) ≡ 0
    unfolding slot_fault
    slot_taken f = rw (p, q) (rw (← e, z) at f)

    pub slot_listed : (number skip k : ℕ) (list : List ℕ) (r : ℕ) (l : List ℕ) → (r, l) ≡ listed_from skip k (entries_of t start number (take n (drop start cells))) list
        → (r, l) ≡ listed_from skip k (slot_entries t cells size w number) list
    unfolding slot_entries
    slot_listed number skip k list r l f = rw (← e, z, ← p, ← q) f

-- ---- the slots of a row

pub slot_in : (long size : ℕ) (slots : List ℕ) (j : ℕ) → SlotsIn long size slots → j < length slots → SlotIn long size (get_or slots j 0)
slot_in long size slots j i h = record { count = i.count; whole = every_get (slot_whole i.count size) slots 0 j i.whole h; room = i.room; small = i.small }

module _ (t : Table) (cells : List ℕ) (size : ℕ) (slots : List ℕ) where
  module _ (j : ℕ) (whole : FirstFault) (q : slots_fault t cells size (drop j slots) j ≡ whole) where
    module _ (h : j < length slots) (r : Result Unit Fault) (e : r ≡ judged_by (slot_fault t cells size (get_or slots j 0))) where
      pub fault_on : (v : Unit) → r ≡ Ok v → slots_fault t cells size (drop (j + 1) slots) (j + 1) ≡ whole
      unfolding slots_fault
      fault_on v z =
          let n : ℕ = slot_fault t cells size (get_or slots j 0) in
          let s : slots_fault t cells size (drop j slots) j ≡ slots_fault t cells size (drop (j + 1) slots) (j + 1) = rw (drop-cons slots j 0 h, taken_zero n r v e z, add-one j) in
          sym s ∙ q

      pub fault_stop : (f : Fault) → r ≡ Err f → Err (record { section = j; fault = f }) ≡ first_refused whole
      unfolding slots_fault
      fault_stop f z =
          let n : ℕ = slot_fault t cells size (get_or slots j 0) in
          let m : n ≢ 0 = refused_more n r f e z in
          let s : slots_fault t cells size (drop j slots) j ≡ fault_at j n = rw (drop-cons slots j 0 h, ne_eqb n 0 m) in
          rw (← q, s, ne_eqb n 0 m, refused_kind n r f e z)

    pub fault_end : length slots ≤ j → Ok tt ≡ first_refused whole
    unfolding slots_fault
    fault_end h = rw (← q, drop_of_length-le slots h)

  module _ (skip j k : ℕ) (list : List ℕ) where
    pub entries_on : j < length slots → (r : ℕ) (l : List ℕ) → (r, l) ≡ listed_from skip k (slot_entries t cells size (get_or slots j 0) j) list
        → listed_from skip k (slots_entries t cells size (drop j slots) j) list ≡ listed_from skip r (slots_entries t cells size (drop (j + 1) slots) (j + 1)) l
    unfolding slots_entries
    entries_on h r l e =
        let w : ℕ = get_or slots j 0 in
        rw (drop-cons slots j 0 h, add-one j) (listed_then skip k (slot_entries t cells size w j) (slots_entries t cells size (drop (suc j) slots) (suc j)) list r l e)

    pub entries_end : length slots ≤ j → listed_from skip k (slots_entries t cells size (drop j slots) j) list ≡ (k, list)
    unfolding slots_entries listed_from put_all
    entries_end h = rw (drop_of_length-le slots h, add-zero)

  -- ---- both passes

  told_is : slots_told t cells size slots 0 ≡ told_by (slots_fault t cells size slots 0).section (slots_fault t cells size slots 0).fault (slots_entries t cells size slots 0)
  told_is = slots_told_lem t cells size slots 0

  module _ (first : Result Unit RefusedSection) (e : first ≡ first_refused (slots_fault t cells size slots 0)) where
    abbrev found : FirstFault
    found = slots_fault t cells size slots 0

    module _ (v : Unit) (h : first ≡ Ok v) where
      none : (b : Bool) → eqb found.fault 0 ≡ b → is_taken {E = RefusedSection} (cond b (Ok tt) (Err (record { section = found.section; fault = fault_kind found.fault }))) ≡ true → found.fault ≡ 0
      none true q z = eqb-true found.fault 0 q
      none false q z = absurd (true≢false (sym z))

      no_fault : found.fault ≡ 0
      no_fault = none (eqb found.fault 0) refl (ap is_taken (sym e ∙ h))

      pub none_refused : AllTaken t cells size slots
      none_refused = record { each = all_taken t cells size slots 0 no_fault }

      pub said_listed : (skip : ℕ) (list : List ℕ) (n : ℕ) (l : List ℕ) (r : Read) → (n, l) ≡ listed_from skip 0 (slots_entries t cells size slots 0) list → r ≡ ended_at skip n
          → (r, l) ≡ said_of skip (slots_told t cells size slots 0) list
      unfolding listed_from
      said_listed skip list n l r g k =
          let a : n ≡ length (slots_entries t cells size slots 0) = ap (λ (x : ℕ × List ℕ). x.0) g ∙ omega arith in
          rw (told_is, no_fault, k, ap (λ (x : ℕ × List ℕ). x.1) g, a)

    module _ (x : RefusedSection) (h : first ≡ Err x) where
      some_fault : found.fault ≢ 0
      some_fault z = true≢false (ap is_taken (sym (rw z at e) ∙ h))

      which : x ≡ record { section = found.section; fault = fault_kind found.fault }
      which = ap (err_of x) (sym h ∙ e) ∙ rw (ne_eqb found.fault 0 some_fault)

      pub said_refused : (skip : ℕ) (list : List ℕ) (r : Read) → r ≡ refused_as x.section x.fault → (r, list) ≡ said_of skip (slots_told t cells size slots 0) list
      said_refused skip list r g =
          ap (λ (y : Read). (y, list)) (g ∙ ap (λ (y : RefusedSection). refused_as y.section y.fault) which)
          ∙ rw (told_is, ne_eqb found.fault 0 some_fault) (refused_by (eqb found.fault 1) skip found.section found.fault list)
