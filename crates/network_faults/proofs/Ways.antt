-- One law for each way out of the functions that judge a section.
-- Assumes nothing.
use mathlib.Core.Path.{◌≡◌, refl, sym, ap, ◌∙◌}
use mathlib.Core.Logic.{◌≢◌}
use mathlib.Core.Bool.{Bool, true, false, cond, not, ◌||◌, true≢false}
use Prim.Native.Nat.{ℕ, zero, suc, ◌+◌, ◌-◌, ◌≤◌, ◌<◌}
use native.Mathlib.Nat.{sub-zero}
use native.Mathlib.Omega.{arith}
use mathlib.Core.List.{List, [], ◌∷◌}
use lib.ListN.{length, take, drop, get_or}
use lib.Dec.{ltb, eqb}
use borrow.Author.Tests.{lt-ltb, le-ltb, eqb-true, eq-eqb, ne_eqb, not-false}
use Rattle.laws.specs.Lists.{any}
use Rattle.section.specs.Header.{byte_at, section_length}
use Rattle.listing.specs.declared.Walked.{Walked}
use Rattle.laws.specs.Entries.{counted}
use Rattle.listing.specs.Store.{Found, done, past, entry, descriptor, walk, found_from, end_of, listing}
use Rattle.rules_networks.specs.declared.Table.{Table}
use Rattle.rules_networks.specs.declared.Table.TheVariants.{Nit, Bat, Sdt, None}
use Rattle.rules_networks.specs.Networks.{is_of, length_wrong, broken_in, nit_broken, sdt_broken, broken_of, fault_of}
use Rattle.std.specs.Prelude.{Result, Ok, Err}
use Rattle.network_faults.specs.declared.Fault.{Fault}
use Rattle.network_faults.specs.declared.Fault.TheVariants.{OtherTable, BrokenLoop}
use Rattle.network_faults.specs.Faults.{Short, Inside, count12, fault_kind, judged_by, past_place, nit_loops}

-- ---- what a number of a fault answers

abbrev pub is_taken : {E : Type 0} → Result Unit E → Bool
is_taken (Ok v) = true
is_taken (Err f) = false

abbrev pub err_of : {E : Type 0} → E → Result Unit E → E
err_of d (Ok v) = d
err_of d (Err e) = e

module _ (n : ℕ) where
  pub taken_zero : (r : Result Unit Fault) (v : Unit) → r ≡ judged_by n → r ≡ Ok v → n ≡ 0
  taken_zero r v e h = go (eqb n 0) refl (ap is_taken (sym e ∙ h))
    where
      go : (b : Bool) → eqb n 0 ≡ b → is_taken (cond b (Ok tt) (Err (fault_kind n))) ≡ true → n ≡ 0
      go true q t = eqb-true n 0 q
      go false q t = absurd (true≢false (sym t))

  pub refused_more : (r : Result Unit Fault) (f : Fault) → r ≡ judged_by n → r ≡ Err f → n ≢ 0
  refused_more r f e h z = true≢false (ap is_taken (sym (rw z at e) ∙ h))

  pub refused_kind : (r : Result Unit Fault) (f : Fault) → r ≡ judged_by n → r ≡ Err f → f ≡ fault_kind n
  refused_kind r f e h = ap (err_of f) (sym h ∙ e) ∙ rw (ne_eqb n 0 (refused_more r f e h))

-- a place behind table_id
pub at_place : (at : ℕ) → 0 < at → ◌≡◌ {A = Result Unit Fault} (Err (BrokenLoop at)) (judged_by (at + 1))
at_place at h = let z : at + 1 - 1 ≡ at = omega arith in rw (ne_eqb (at + 1) 0 (omega arith), ne_eqb (at + 1) 1 (omega arith), z)

-- ---- table_ids

either : (a b : Bool) → (a || b) ≡ (a || (b || false))
either true b = refl
either false true = refl
either false false = refl

alone : (a : Bool) → a ≡ (a || false)
alone true = refl
alone false = refl

module _ (t : Table) (id : ℕ) where
  pub is_nit : t ≡ Nit → (eqb id 0x40 || eqb id 0x41) ≡ is_of t id
  unfolding any
  is_nit e = rw e (either (eqb id 0x40) (eqb id 0x41))

  pub is_bat : t ≡ Bat → eqb id 0x4A ≡ is_of t id
  unfolding any
  is_bat e = rw e (alone (eqb id 0x4A))

  pub is_sdt : t ≡ Sdt → (eqb id 0x42 || eqb id 0x46) ≡ is_of t id
  unfolding any
  is_sdt e = rw e (either (eqb id 0x42) (eqb id 0x46))

  pub is_none : t ≡ None → false ≡ is_of t id
  unfolding any
  is_none e = rw e

-- ---- section_length

module _ (s : List ℕ) where
  pub wrong_short : length s < 3 → (true ≡ length_wrong s) × Short true (length s)
  unfolding length_wrong
  wrong_short h = (rw (lt-ltb (length s) 3 h), λ (e : true ≡ false). omega arith)

  pub wrong_other : (n : ℕ) → 3 ≤ length s → n ≡ section_length s → n < 4096 → (not (eqb (length s) (3 + n)) ≡ length_wrong s) × Short (not (eqb (length s) (3 + n))) (length s)
  unfolding length_wrong
  wrong_other n h e k =
      (rw (le-ltb (length s) 3 h, e), λ (z : not (eqb (length s) (3 + n)) ≡ false). let f = eqb-true (length s) (3 + n) (not-false (eqb (length s) (3 + n)) z) in omega arith)

-- ---- a loop

-- what runs past starts in the loop
module _ (n : ℕ) where
  either_inside : (b : Bool) (x y : Found) (k : ℕ) → Inside (end_of k x) → Inside (end_of k y) → Inside (end_of k (cond b x y))
  either_inside true x y k p q = p
  either_inside false x y k p q = q

  inside : (r : List ℕ) (pass left at k : ℕ) → 0 < at → Inside (end_of k (walk n r pass left at))
  unfolding walk end_of
  inside [] pass left at k h = tt
  inside (b ∷ t) (suc pass) left at k h = inside t pass left (suc at) k (omega arith)
  inside (b ∷ t) zero zero at k h =
      either_inside (ltb (length (b ∷ t)) n) (past at) _ k h
      (either_inside (ltb (length (b ∷ t) - n) (counted n (b ∷ t))) (past at) _ k h
      (inside t (n - 1) (counted n (b ∷ t)) (suc at) (k + 1) (omega arith)))
  inside (b ∷ t) zero (suc left) at k h =
      either_inside (ltb (suc left) 2) (past at) _ k h
      (either_inside (ltb (suc left - 2) (get_or t 0 0)) (past at) _ k h
      (inside t (1 + get_or t 0 0) (suc left - 2 - get_or t 0 0) (suc at) (k + 1) (omega arith)))

  starts_inside : (s : List ℕ) (at left k : ℕ) → 0 < at → Inside (end_of k (found_from n s at left))
  unfolding found_from
  starts_inside s at left k h = inside (drop at s) 0 left at k h

place_is : (f : Found) (k : ℕ) → past_place (end_of k f) ≡ broken_in f
unfolding end_of broken_in
place_is done k = refl
place_is (past at) k = omega arith
place_is (entry at header f) k = place_is f (k + 1)
place_is (descriptor at tag size f) k = place_is f (k + 1)

module _ (s : List ℕ) (header at left end : ℕ) (list : List ℕ) (w : Walked) (l : List ℕ) where
  -- the part is `&s[0..end]`
  abbrev walks : Type 0
  walks = (w, l) ≡ listing (record { header = header; network = 0; number = 0; skip = 0 }) (take (end - 0) (drop 0 s)) at left list 0

  pub loop_inside : 0 < at → walks → Inside w
  unfolding listing
  loop_inside h e = rw (ap (λ (p : Walked × List ℕ). p.0) e) (starts_inside header (take (end - 0) (drop 0 s)) at left 0 h)

  pub loop_told : walks → (r : Result Unit Fault) → r ≡ judged_by (past_place w) → r ≡ judged_by (broken_in (found_from header (take end s) at left))
  unfolding listing
  loop_told e' r g =
      let e = rw (sub-zero end) at e' in
      g ∙ ap (λ (p : Walked × List ℕ). judged_by (past_place p.0)) e ∙ ap judged_by (place_is (found_from header (take end s) at left) 0)

-- ---- NIT and BAT

module _ (s : List ℕ) (n : ℕ) (first : Result Unit Fault) (e : first ≡ judged_by (broken_in (found_from 6 (take (10 + n) s) 10 n))) where
  pub loops_first : (f : Fault) → first ≡ Err f → Err f ≡ judged_by (nit_loops s n)
  unfolding nit_loops
  loops_first f h =
      let b : ℕ = broken_in (found_from 6 (take (10 + n) s) 10 n) in
      let q : b ≡ nit_loops s n = rw (ne_eqb b 0 (refused_more b first f e h)) in
      sym h ∙ e ∙ ap judged_by q

  module _ (v : Unit) (h : first ≡ Ok v) (m : ℕ) (g : m ≡ count12 s (10 + n)) where
    no_first : broken_in (found_from 6 (take (10 + n) s) 10 n) ≡ 0
    no_first = taken_zero (broken_in (found_from 6 (take (10 + n) s) 10 n)) first v e h

    pub loops_second : 10 + n + 2 + m ≢ length s - 4 → Err (BrokenLoop (10 + n)) ≡ judged_by (nit_loops s n)
    unfolding nit_loops
    loops_second k = at_place (10 + n) (omega arith) ∙ let z : 10 + n + 1 ≡ suc (10 + n) = omega arith in rw (no_first, ← g, ne_eqb (10 + n + 2 + m) (length s - 4) k, z)

    pub loops_streams : 10 + n + 2 + m ≡ length s - 4 → (r : Result Unit Fault) → r ≡ judged_by (broken_in (found_from 6 (take (length s - 4) s) (10 + n + 2) 0)) → r ≡ judged_by (nit_loops s n)
    unfolding nit_loops
    loops_streams k r f = f ∙ rw (no_first, ← g, k, eq-eqb (length s - 4) (length s - 4) refl)

pub small : (s : List ℕ) (b : Bool) → Short b (length s) → b ≡ false → length s ≤ 4098
small s b f t = f t

pub end_small : (s : List ℕ) (b : Bool) → Short b (length s) → b ≡ false → length s - 4 < 4294967296
end_small s b f t = let h = f t in omega arith

module _ (s : List ℕ) (b : Bool) (e : b ≡ length_wrong s) where
  pub nit_length : b ≡ true → Err (BrokenLoop 1) ≡ judged_by (nit_broken s)
  unfolding nit_broken
  nit_length t = rw (← e, t)

  pub sdt_length : b ≡ true → Err (BrokenLoop 1) ≡ judged_by (sdt_broken s)
  unfolding sdt_broken
  sdt_length t = rw (← e, t)

  module _ (t : b ≡ false) where
    pub nit_short : length s < 16 → Err (BrokenLoop 8) ≡ judged_by (nit_broken s)
    unfolding nit_broken
    nit_short h = rw (← e, t, lt-ltb (length s) 16 h)

    pub nit_no_second : 16 ≤ length s → (n : ℕ) → n ≡ count12 s 8 → length s < 16 + n → Err (BrokenLoop 8) ≡ judged_by (nit_broken s)
    unfolding nit_broken
    nit_no_second h n g l = rw (← e, t, le-ltb (length s) 16 h, ← g, lt-ltb (length s - 4) (10 + n + 2) (omega arith))

    pub nit_judged : 16 ≤ length s → (n : ℕ) → n ≡ count12 s 8 → 16 + n ≤ length s → (r : Result Unit Fault) → r ≡ judged_by (nit_loops s n) → r ≡ judged_by (nit_broken s)
    unfolding nit_broken nit_loops
    nit_judged h n g l r f = f ∙ rw (← e, t, le-ltb (length s) 16 h, ← g, le-ltb (length s - 4) (10 + n + 2) (omega arith))

    -- ---- SDT

    pub sdt_short : length s < 15 → Err (BrokenLoop 11) ≡ judged_by (sdt_broken s)
    unfolding sdt_broken
    sdt_short h = rw (← e, t, lt-ltb (length s) 15 h)

    pub sdt_judged : 15 ≤ length s → (r : Result Unit Fault) → r ≡ judged_by (broken_in (found_from 5 (take (length s - 4) s) 11 0)) → r ≡ judged_by (sdt_broken s)
    unfolding sdt_broken
    sdt_judged h r f = f ∙ rw (← e, t, le-ltb (length s) 15 h)

-- ---- the reader's

module _ (t : Table) (s : List ℕ) (r : Result Unit Fault) where
  pub loops_nit : t ≡ Nit → r ≡ judged_by (nit_broken s) → r ≡ judged_by (broken_of t s)
  loops_nit e f = rw e f

  pub loops_bat : t ≡ Bat → r ≡ judged_by (nit_broken s) → r ≡ judged_by (broken_of t s)
  loops_bat e f = rw e f

  pub loops_sdt : t ≡ Sdt → r ≡ judged_by (sdt_broken s) → r ≡ judged_by (broken_of t s)
  loops_sdt e f = rw e f

module _ (t : Table) (s : List ℕ) (b : Bool) (id : ℕ) (g : id ≡ byte_at s 0) (e : b ≡ is_of t id) where
  pub judged_other : b ≡ false → Err OtherTable ≡ judged_by (fault_of t s)
  unfolding fault_of
  judged_other z = rw (← g, ← e, z)

  pub judged_own : b ≡ true → (r : Result Unit Fault) → r ≡ judged_by (broken_of t s) → r ≡ judged_by (fault_of t s)
  unfolding fault_of
  judged_own z r f = rw (← g, ← e, z) f
