-- One law for each way out of the two calls, and what they ask of their parts.
-- Assumes nothing.
use mathlib.Core.Path.{◌≡◌, refl, ap, ◌∙◌}
use mathlib.Core.Bool.{Bool, true, false, cond, not, true≢false}
use Prim.Native.Nat.{ℕ, ◌+◌, ◌*◌, ◌≤◌, ◌<◌}
use native.Mathlib.Nat.{zero-add}
use native.Mathlib.Omega.{arith}
use mathlib.Core.List.{List}
use lib.ListN.{length, take, drop, length-take}
use lib.Seq.{take_all}
use lib.Dec.{ltb, eqb}
use borrow.Author.Tests.{ne_eqb, eqb-true, ltb-false}
use Rattle.laws.specs.Lists.{any}
use Rattle.answers.specs.declared.Refusal.TheVariants as refusal
use Rattle.section.specs.Header.{byte_at, section_length}
use Rattle.rows.specs.Rows.{row_slots, slots_at, slot_count, last_of}
use Rattle.rows.proofs.Whole.{rows_get}
use Rattle.without_pid.specs.Pids.{without_pid}
use Rattle.store.specs.Store.{Store, store, whole_of, Whole}
use Rattle.store.specs.declared.Sets.{Sets}
use Rattle.store.proofs.Whole.{is_whole_means}
use Rattle.handed.specs.Handed.{set_out_lem}
use Rattle.handed.proofs.Ways.{in_use}
use Rattle.rules_networks.specs.declared.Table.{Table}
use Rattle.rules_networks.specs.declared.Table.TheVariants.{Nit, Bat, Sdt, None}
use Rattle.rules_networks.specs.Networks.{length_wrong, fault_of, entries_of, read_at, read_as}
use Rattle.rules_networks.proofs.Nit.{nit_passed}
use Rattle.rules_networks.proofs.Sdt.{sdt_passed}
use Rattle.std.specs.Prelude.{Result, Ok, Err}
use Rattle.network_faults.specs.declared.Fault.{Fault}
use Rattle.network_faults.specs.Faults.{judged_by}
use Rattle.network_faults.proofs.Ways.{taken_zero, refused_more, refused_kind}
use Rattle.network_sets.proofs.Ways.{refused_by}
use Rattle.network_entries.specs.Entries.{listed_from, SectionIn}
use Rattle.network_entries.proofs.Ways.{nit_none, bat_none, sdt_none}
use Rattle.network_sets.specs.declared.Read.{Read}
use Rattle.network_sets.specs.declared.ReadAnswer.TheVariants.{No, Refused}
use Rattle.network_sets.specs.Sets.{nothing_read, ended_at, refused_as, said_of, slots_told, SlotsIn}
use Rattle.networks.specs.Store.{read_section, read_set}

-- ---- section_length

no_reader : (s : List ℕ) → fault_of None s ≡ 0 → length_wrong s ≡ false
unfolding fault_of any
no_reader s e = absurd (let z : ◌≡◌ {A = ℕ} 1 0 = e in omega arith)

exact : (t : Table) (s : List ℕ) → fault_of t s ≡ 0 → length_wrong s ≡ false
exact Nit s e = (nit_passed s (nit_none Nit s e refl)).exact
exact Bat s e = (nit_passed s (bat_none Bat s e refl)).exact
exact Sdt s e = (sdt_passed s (sdt_none Sdt s e refl)).0
exact None s e = no_reader s e

module _ (t : Table) (s : List ℕ) (e : fault_of t s ≡ 0) where
  right_by : (b c : Bool) → ltb (length s) 3 ≡ b → eqb (length s) (3 + section_length s) ≡ c → cond b true (not c) ≡ false → (3 ≤ length s) × (length s ≡ 3 + section_length s)
  right_by true c x y z = absurd (true≢false z)
  right_by false false x y z = absurd (true≢false z)
  right_by false true x y z = (ltb-false (length s) 3 x, eqb-true (length s) (3 + section_length s) y)

  right : (3 ≤ length s) × (length s ≡ 3 + section_length s)
  unfolding length_wrong
  right = right_by (ltb (length s) 3) (eqb (length s) (3 + section_length s)) refl refl (exact t s e)

  pub three : 3 ≤ length s
  three = right.0

  pub length_is : (n : ℕ) → n ≡ section_length s → 3 + n ≡ length s
  length_is n g = let r = right.1 in omega arith

-- ---- a section

-- what the listing of a section asks: it is all that is lent
pub section_in : (s : List ℕ) (size number : ℕ) → size ≡ length s → size ≤ 4098 → number < 256 → SectionIn (length s) 0 size number 0
section_in s size number e h k = record { within = omega arith; short = omega arith; numbered = k; few = omega arith }

module _ (t : Table) (s : List ℕ) (judged : Result Unit Fault) (f : judged ≡ judged_by (fault_of t s)) where
  pub section_taken : (v : Unit) → judged ≡ Ok v → fault_of t s ≡ 0
  section_taken v z = taken_zero (fault_of t s) judged v f z

  pub section_whole : (v : Unit) → judged ≡ Ok v → (size : ℕ) → size ≡ length s → fault_of t (take size (drop 0 s)) ≡ 0
  section_whole v z size e = rw (e, take_all (length s) s (omega arith)) (section_taken v z)

module _ (t : Table) (s : List ℕ) (skip : ℕ) (list : List ℕ) (number : ℕ) (judged : Result Unit Fault) (g : number ≡ byte_at s 6) (f : judged ≡ judged_by (fault_of t s)) where
  pub section_refused : (x : Fault) → judged ≡ Err x → (r : Read) → r ≡ refused_as number x → (r, list) ≡ read_section t s skip list
  unfolding read_section read_as read_at
  section_refused x h r e =
      let n : ℕ = fault_of t s in
      ap (λ (y : Read). (y, list)) (e ∙ ap (refused_as number) (refused_kind n judged x f h))
      ∙ rw (← g, ne_eqb n 0 (refused_more n judged x f h)) (refused_by (eqb n 1) skip number n list)

  pub section_listed_lem : (v : Unit) → judged ≡ Ok v → (size n : ℕ) (l : List ℕ) (r : Read) → size ≡ length s → (n, l) ≡ listed_from skip 0 (entries_of t 0 number (take size (drop 0 s))) list → r ≡ ended_at skip n
      → (r, l) ≡ read_section t s skip list
  unfolding read_section read_as read_at listed_from
  section_listed_lem v z size n l r k e h =
      let q : take size (drop 0 s) ≡ s = rw k (take_all (length s) s (omega arith)) in
      let e' = rw q at e in
      let a : n ≡ length (entries_of t 0 number s) = ap (λ (x : ℕ × List ℕ). x.0) e' ∙ zero-add (length (entries_of t 0 number s)) in
      rw (← g, taken_zero (fault_of t s) judged v f z, h, ap (λ (x : ℕ × List ℕ). x.1) e', a)

-- ---- a set

length_row : (heads slots : List ℕ) (i : ℕ) → length (row_slots heads slots i) ≤ 256
unfolding row_slots
length_row heads slots i = let e = length-take (slot_count (last_of heads i)) (drop (slots_at i) slots) in omega arith

module _ (s : Sets) (heads slots cells : List ℕ) (b : Bool) (q : b ≡ whole_of (store s heads slots cells)) (t : b ≡ true) where
  whole : Whole s heads slots cells
  whole = is_whole_means s heads slots cells b q t

  pub heads_there : s.used * 12 ≤ length heads
  heads_there = let w = whole in omega arith

  module _ (row : ℕ) (o : Bool) (p : o ≡ set_out_lem heads s.used row) (y : o ≡ true) where
    pub head_there : row * 12 + 12 ≤ length heads
    head_there = let w = whole in let h = in_use heads s.used row o p y in omega arith

    pub slots_there : row * 288 + 288 ≤ length slots
    slots_there = let w = whole in let h = in_use heads s.used row o p y in omega arith

    pub slots_in : (part : List ℕ) → part ≡ row_slots heads slots row → SlotsIn (length cells) s.size part
    slots_in part f =
        let w = whole in
        rw f (record {
          count = s.count;
          whole = rows_get heads slots s.count s.size s.used row w.rows (in_use heads s.used row o p y);
          room = w.cells_long;
          small = w.size_high;
          few = length_row heads slots row;
        })

module _ (t : Table) (s : Store) (row skip : ℕ) (list : List ℕ) (b : Bool) (e : b ≡ whole_of s) where
  pub set_refused : b ≡ false → (r : Read) → r ≡ nothing_read (Refused refusal.NotWhole) → (r, list) ≡ read_set t s row skip list
  unfolding read_set
  set_refused z r f = rw (← e, z, f)

  pub set_without : b ≡ true → (w : Bool) → w ≡ without_pid s.heads s.sets.used → w ≡ true → (r : Read) → r ≡ nothing_read (Refused refusal.NoPid) → (r, list) ≡ read_set t s row skip list
  unfolding read_set
  set_without z w p v r f = rw (← e, z, ← p, v, f)

  module _ (z : b ≡ true) (w : Bool) (p : w ≡ without_pid s.heads s.sets.used) (v : w ≡ false) (o : Bool) (g : o ≡ set_out_lem s.heads s.sets.used row) where
    pub set_none : o ≡ false → (r : Read) → r ≡ nothing_read No → (r, list) ≡ read_set t s row skip list
    unfolding read_set
    set_none y r f = rw (← e, z, ← p, v, ← g, y, f)

    pub set_read_lem : o ≡ true → (part : List ℕ) → part ≡ row_slots s.heads s.slots row → (r : Read) (l : List ℕ)
        → (r, l) ≡ said_of skip (slots_told t s.cells s.sets.size part 0) list → (r, l) ≡ read_set t s row skip list
    unfolding read_set
    set_read_lem y part q r l f = rw (← e, z, ← p, v, ← g, y, ← q) f
