-- What the two calls come to: `entries` answers neither 35 nor 36 exactly where the section is whole, and then lists the entries of its loops; the place of 36 is the first in
-- byte order; 10, 41, 35 and 36 leave the list.
-- Assumes nothing.
use mathlib.Core.Path.{◌≡◌, refl, sym, ap, ◌∙◌}
use mathlib.Core.Logic.{◌≢◌}
use mathlib.Core.Bool.{Bool, true, false, cond, ◌||◌, true≢false}
use Prim.Native.Nat.{ℕ, zero, suc, ◌*◌, ◌-◌, ◌/◌}
use native.Mathlib.Omega.{arith}
use mathlib.Core.List.{List, ◌++◌}
use lib.ListN.{length, drop}
use lib.Dec.{eqb, ltb}
use borrow.Author.Tests.{ne_eqb}
use Rattle.laws.specs.Lists.{any}
use Rattle.answers.specs.declared.Refusal.TheVariants as refusal
use Rattle.section.specs.Header.{byte_at}
use Rattle.rows.specs.Rows.{row_slots}
use Rattle.without_pid.specs.Pids.{without_pid}
use Rattle.store.specs.Store.{Store, whole_of}
use Rattle.handed.specs.Handed.{set_out_lem}
use Rattle.listing.specs.Rules.{page, joined}
use Rattle.rules_networks.specs.declared.Table.{Table}
use Rattle.rules_networks.specs.declared.Table.TheVariants.{Nit, Bat, Sdt, None}
use Rattle.rules_networks.specs.Networks.{is_of, length_wrong, NitWhole, SdtWhole, NitBreaks, SdtBreaks, broken_of, fault_of, entries_of, Told, other_table, broken_loop, entries, told_by, read_at, read_as}
use Rattle.rules_networks.proofs.Nit.{nit_whole, nit_laid_out}
use Rattle.rules_networks.proofs.Sdt.{sdt_whole, sdt_laid_out}
use Rattle.rules_networks.proofs.Broken.{First, nit_first_broken, sdt_first_broken}
use Rattle.network_sets.specs.declared.Read.{Read}
use Rattle.network_sets.specs.declared.ReadAnswer.TheVariants.{Yes, No, Refused}
use Rattle.network_sets.specs.Sets.{read_number, nothing_read, ended_at, said_of, slots_told, is_refused}
use Rattle.network_sets.proofs.Order.{as_before_lem, entries_twelve, read_window}
use Rattle.networks.specs.Store.{read_section, read_set}

-- ---- whole sections

-- the concatenation of its parts
abbrev pub WholeAs : Table → List ℕ → Type 0
WholeAs Nit s = NitWhole s
WholeAs Bat s = NitWhole s
WholeAs Sdt s = SdtWhole s
WholeAs None s = ⊥

-- a table_id of the reader's, 3 + section_length bytes, and every loop ends where its length says
pub record Taken (t : Table) (s : List ℕ) : Type 0 where
  pub own : is_of t (byte_at s 0) ≡ true
  pub exact : length_wrong s ≡ false
  pub whole : WholeAs t s

whole_unbroken : (t : Table) (s : List ℕ) → length_wrong s ≡ false → WholeAs t s → broken_of t s ≡ 0
whole_unbroken Nit s e w = nit_whole s e w
whole_unbroken Bat s e w = nit_whole s e w
whole_unbroken Sdt s e w = sdt_whole s e w
whole_unbroken None s e w = absurd w

pub taken_faultless : (t : Table) (s : List ℕ) → Taken t s → fault_of t s ≡ 0
unfolding fault_of
taken_faultless t s k = rw k.own (whole_unbroken t s k.exact k.whole)

unbroken_whole : (t : Table) (s : List ℕ) → is_of t (byte_at s 0) ≡ true → broken_of t s ≡ 0 → Taken t s
unfolding any
unbroken_whole Nit s o e = let p = nit_laid_out s e in record { own = o; exact = p.0; whole = p.1 }
unbroken_whole Bat s o e = let p = nit_laid_out s e in record { own = o; exact = p.0; whole = p.1 }
unbroken_whole Sdt s o e = let p = sdt_laid_out s e in record { own = o; exact = p.0; whole = p.1 }
unbroken_whole None s o e = absurd (true≢false (sym o))

pub faultless_taken : (t : Table) (s : List ℕ) → fault_of t s ≡ 0 → Taken t s
unfolding fault_of
faultless_taken t s e = go (is_of t (byte_at s 0)) refl e
  where
    go : (b : Bool) → is_of t (byte_at s 0) ≡ b → cond b (broken_of t s) 1 ≡ 0 → Taken t s
    go true o f = unbroken_whole t s o f
    go false o f = absurd (let z : ◌≡◌ {A = ℕ} 1 0 = f in omega arith)

-- ---- what is answered

abbrev pub answer_of : Read × List ℕ → ℕ
answer_of x = read_number x.0.answer

-- 35 or 36
abbrev pub is_fault : (answer : ℕ) → Bool
is_fault n = eqb n 35 || eqb n 36

ended_number : (skip count : ℕ) → is_fault (read_number (ended_at skip count).answer) ≡ false
ended_number skip count = go (ltb skip count)
  where
    go : (b : Bool) → is_fault (read_number (cond b Yes No)) ≡ false
    go true = refl
    go false = refl

module _ (t : Table) (s : List ℕ) (skip : ℕ) (list : List ℕ) where
  -- a whole section: its entries, in the list's window
  pub section_listed_lem : Taken t s
      → read_section t s skip list ≡ (
        ended_at skip (length (entries_of t 0 (byte_at s 6) s)),
        joined (page skip (length list / 12) (entries_of t 0 (byte_at s 6) s)) ++ drop (length (page skip (length list / 12) (entries_of t 0 (byte_at s 6) s)) * 12) list,
      )
  unfolding read_section read_as read_at
  section_listed_lem k =
      rw (taken_faultless t s k)
      (ap (λ (l : List ℕ). (ended_at skip (length (entries_of t 0 (byte_at s 6) s)), l)) (read_window skip list (entries_twelve t 0 (byte_at s 6) s)))

  -- neither 35 nor 36 where the section is whole ..
  pub whole_answers : Taken t s → is_fault (answer_of (read_section t s skip list)) ≡ false
  whole_answers k = rw (section_listed_lem k) (ended_number skip (length (entries_of t 0 (byte_at s 6) s)))

  fault_number : (fault : ℕ) → fault ≢ 0 → is_fault (answer_of (said_of skip (told_by (byte_at s 6) fault (entries_of t 0 (byte_at s 6) s)) list)) ≡ true
  fault_number fault z = rw (ne_eqb fault 0 z) (go (eqb fault 1))
    where
      go : (b : Bool) → is_fault (answer_of (said_of skip (cond b (other_table (byte_at s 6)) (broken_loop (byte_at s 6) (fault - 1))) list)) ≡ true
      go true = refl
      go false = refl

  -- .. and only there
  pub only_whole : is_fault (answer_of (read_section t s skip list)) ≡ false → Taken t s
  unfolding read_section read_as read_at
  only_whole e = go (fault_of t s) refl
    where
      go : (n : ℕ) → fault_of t s ≡ n → Taken t s
      go zero f = faultless_taken t s f
      go (suc n) f = absurd (true≢false (sym (fault_number (fault_of t s) (λ (z : fault_of t s ≡ 0). let q : suc n ≡ 0 = sym f ∙ z in omega arith)) ∙ e))

-- ---- the place of 36

abbrev pub BreaksOf : Table → List ℕ → ℕ → Type 0
BreaksOf Nit s place = NitBreaks s place
BreaksOf Bat s place = NitBreaks s place
BreaksOf Sdt s place = SdtBreaks s place
BreaksOf None s place = ⊥

first_of_lem : (t : Table) (s : List ℕ) (place : ℕ) → broken_of t s ≡ suc place → First (BreaksOf t s) place
first_of_lem Nit s place e = nit_first_broken s place e
first_of_lem Bat s place e = nit_first_broken s place e
first_of_lem Sdt s place e = sdt_first_broken s place e
first_of_lem None s place e = absurd (omega arith)

-- a 36 tells the first place, in byte order, where something does not end where its length says
pub first_broken : (t : Table) (s : List ℕ) (section place : ℕ) → read_as t s ≡ broken_loop section place → First (BreaksOf t s) place
unfolding read_as read_at fault_of
first_broken t s section place e = own (is_of t (byte_at s 0)) (broken_of t s) refl e
  where
    -- what a 36 tells, and 1
    place_of : Told → ℕ
    place_of (other_table n) = 0
    place_of (broken_loop n p) = suc p
    place_of (entries es) = 0

    last : (n : ℕ) → broken_of t s ≡ suc (suc n) → told_by (byte_at s 6) (suc (suc n)) (entries_of t 0 (byte_at s 6) s) ≡ broken_loop section place → First (BreaksOf t s) place
    last n f g =
        let h = rw (ne_eqb (suc (suc n)) 0 (λ (z : suc (suc n) ≡ 0). omega arith), ne_eqb (suc (suc n)) 1 (λ (z : suc (suc n) ≡ 1). omega arith)) at g in
        let q : suc (suc (suc n) - 1) ≡ suc place = ap place_of h in
        first_of_lem t s place (f ∙ omega arith)

    own : (b : Bool) (n : ℕ) → broken_of t s ≡ n → told_by (byte_at s 6) (cond b n 1) (entries_of t 0 (byte_at s 6) s) ≡ broken_loop section place → First (BreaksOf t s) place
    own false n f g = absurd (let z : ◌≡◌ {A = ℕ} 0 (suc place) = ap place_of g in omega arith)
    own true zero f g = absurd (let z : ◌≡◌ {A = ℕ} 0 (suc place) = ap place_of g in omega arith)
    own true (suc zero) f g = absurd (let z : ◌≡◌ {A = ℕ} 0 (suc place) = ap place_of g in omega arith)
    own true (suc (suc n)) f g = last n f g

-- ---- what is left

told_fault : (skip : ℕ) (t : Told) (list : List ℕ) → is_fault (answer_of (said_of skip t list)) ≡ true → is_refused t ≡ true
told_fault skip (other_table section) list e = refl
told_fault skip (broken_loop section place) list e = refl
told_fault skip (entries es) list e = absurd (true≢false (sym e ∙ ended_number skip (length es)))

-- 35 and 36 leave the list
pub section_as_before : (t : Table) (s : List ℕ) (skip : ℕ) (list : List ℕ) → is_fault (answer_of (read_section t s skip list)) ≡ true → (read_section t s skip list).1 ≡ list
unfolding read_section
section_as_before t s skip list e = as_before_lem skip (read_as t s) list (told_fault skip (read_as t s) list e)

-- so do 10, 41, 35 and 36 of a set
abbrev pub is_not : (answer : ℕ) → Bool
is_not n = eqb n 10 || (eqb n 41 || is_fault n)

ended_not : (skip count : ℕ) → is_not (read_number (ended_at skip count).answer) ≡ false
ended_not skip count = go (ltb skip count)
  where
    go : (b : Bool) → is_not (read_number (cond b Yes No)) ≡ false
    go true = refl
    go false = refl

told_not : (skip : ℕ) (t : Told) (list : List ℕ) → is_not (answer_of (said_of skip t list)) ≡ true → (said_of skip t list).1 ≡ list
told_not skip (other_table section) list e = refl
told_not skip (broken_loop section place) list e = refl
told_not skip (entries es) list e = absurd (true≢false (sym e ∙ ended_not skip (length es)))

pub set_as_before : (t : Table) (s : Store) (row skip : ℕ) (list : List ℕ) → is_not (answer_of (read_set t s row skip list)) ≡ true → (read_set t s row skip list).1 ≡ list
unfolding read_set
set_as_before t s row skip list e = go (whole_of s) (without_pid s.heads s.sets.used) (set_out_lem s.heads s.sets.used row) e
  where
    told : Told
    told = slots_told t s.cells s.sets.size (row_slots s.heads s.slots row) 0

    said : (b w c : Bool) → Read × List ℕ
    said b w c =
        cond b
        (cond w (nothing_read (Refused refusal.NoPid), list) (cond c (said_of skip told list) (nothing_read No, list)))
        (nothing_read (Refused refusal.NotWhole), list)

    go : (b w c : Bool) → is_not (answer_of (said b w c)) ≡ true → (said b w c).1 ≡ list
    go true true c f = refl
    go true false true f = told_not skip told list f
    go true false false f = refl
    go false w c f = refl
