-- One law for each way out of the functions that list a section.
-- Assumes nothing.
use mathlib.Core.Path.{◌≡◌, refl, sym, ap, ap₂, ◌∙◌}
use mathlib.Core.Bool.{Bool, true, false, cond, not, ◌||◌}
use Prim.Native.Nat.{ℕ, suc, ◌+◌, ◌*◌, ◌-◌, ◌≤◌, ◌<◌}
use native.Mathlib.Nat.{add-zero, sub-zero, add_assoc}
use native.Mathlib.Omega.{arith}
use mathlib.Core.List.{List, [], ◌∷◌, ◌++◌}
use lib.ListN.{length, get_or, take, drop, length-append, length-drop}
use lib.Seq.{length-take-le, take-take, drop-drop, get_or-take, get_or-drop}
use lib.Dec.{eqb}
use Rattle.laws.proofs.Lists.{drop_take}
use Rattle.section.specs.Header.{byte_at, word16}
use Rattle.listing.specs.declared.Loop.{Loop}
use Rattle.listing.specs.declared.Walked.{Walked}
use Rattle.listing.specs.declared.Walked.TheVariants.{Done, Past}
use Rattle.listing.specs.Store.{Found, done, past, entry, descriptor, walk, found_from, put_all, words_of, end_of, listing}
use Rattle.listing.proofs.Bounds.{two_bytes_from}
use Rattle.listing.proofs.Window.{put_append}
use Rattle.rules_networks.specs.declared.Table.{Table}
use Rattle.rules_networks.specs.declared.Table.TheVariants.{Nit, Bat, Sdt, None}
use Rattle.rules_networks.specs.Networks.{crc_at, first_length, second_at, loop_length, network_found, streams_found, services_found, network_of, placed, nit_broken, sdt_broken, is_of, broken_of, fault_of, nit_entries, sdt_entries, entries_of}
use Rattle.rules_networks.proofs.Listed.{placed_walk}
use Rattle.rules_networks.proofs.Nit.{Passed, nit_passed}
use Rattle.rules_networks.proofs.Sdt.{sdt_passed}
use Rattle.network_faults.specs.Faults.{LoopIn, count12}
use Rattle.network_entries.specs.Entries.{count_of, listed_from, SectionIn}

-- ---- a loop

count_is : (network number : ℕ) (f : Found) (k : ℕ) → count_of (end_of k f) ≡ k + length (words_of network number f)
unfolding end_of words_of
count_is network number done k = omega arith
count_is network number (past at) k = omega arith
count_is network number (entry at header f) k = count_is network number f (k + 1) ∙ omega arith
count_is network number (descriptor at tag size f) k = count_is network number f (k + 1) ∙ omega arith

module _ (bytes : List ℕ) (of : Loop) (at left end : ℕ) (list : List ℕ) (k : ℕ) (w : Walked) (l : List ℕ) (r : ℕ) (i : LoopIn (length bytes) of.header at left end)
    (e : (w, l) ≡ listing of (take (end - 0) (drop 0 bytes)) at left list k) (g : r ≡ count_of w) where
  abbrev words : List (List ℕ)
  words = words_of of.network of.number (found_from of.header (take end bytes) at left)

  same : (w, l) ≡ listing of (take end bytes) at left list k
  same = rw (sub-zero end) at e

  counted_is : r ≡ k + length words
  unfolding listing
  counted_is = g ∙ ap (λ (p : Walked × List ℕ). count_of p.0) same ∙ count_is of.network of.number (found_from of.header (take end bytes) at left) k

  pub loop_listed : (r, l) ≡ listed_from of.skip k words list
  unfolding listing listed_from
  loop_listed = ap₂ (λ (x : ℕ) (y : List ℕ). (x, y)) counted_is (ap (λ (p : Walked × List ℕ). p.1) same)

  pub loop_few : r ≤ k + (end - at)
  loop_few =
      let z : length (take end bytes) ≡ end = length-take-le end bytes i.there in
      let h = i.within in
      let b = two_bytes_from of.network of.number of.header (let q = i.low in omega arith) (take end bytes) at left (omega arith) in
      let c = counted_is in
      omega arith

-- ---- entries that follow each other

pub listed_then : (skip k : ℕ) (xs ys : List (List ℕ)) (list : List ℕ) (then : ℕ) (l : List ℕ) → (then, l) ≡ listed_from skip k xs list → listed_from skip k (xs ++ ys) list ≡ listed_from skip then ys l
unfolding listed_from
listed_then skip k xs ys list then l e =
    let a : then ≡ k + length xs = ap (λ (p : ℕ × List ℕ). p.0) e in
    let b : l ≡ put_all list skip k xs = ap (λ (p : ℕ × List ℕ). p.1) e in
    let z : length (xs ++ ys) ≡ length xs + length ys = length-append xs ys in
    ap₂ (λ (x : ℕ) (y : List ℕ). (x, y)) (omega arith) (put_append xs ys list skip k ∙ ap₂ (λ (q : List ℕ) (j : ℕ). put_all q skip j ys) (sym b) (sym a))

-- ---- a section inside lent bytes

module _ (bytes : List ℕ) (start size number k : ℕ) (i : SectionIn (length bytes) start size number k) where
  abbrev part : List ℕ
  part = take size (drop start bytes)

  part_long : length part ≡ size
  part_long = let h = i.within in length-take-le size (drop start bytes) (simp length-drop (omega arith))

  part_byte : (j : ℕ) → j < size → byte_at part j ≡ byte_at bytes (start + j)
  part_byte j h = get_or-take size (drop start bytes) j 0 h ∙ get_or-drop start bytes j 0

  same_bytes_lem : (at e : ℕ) → e ≤ size → drop (start + at) (take (start + e) bytes) ≡ drop at (take e part)
  same_bytes_lem at e h =
      sym (drop-drop at start (take (start + e) bytes))
      ∙ ap (drop at) (drop_take start e bytes ∙ sym (take-take e size (drop start bytes) h))

  -- what is found there is what the section has, so much further on
  found_placed : (n at left e : ℕ) → e ≤ size → found_from n (take (start + e) bytes) (start + at) left ≡ placed start (found_from n (take e part) at left)
  unfolding found_from
  found_placed n at left e h =
      ap (λ (q : List ℕ). walk n q 0 left (start + at)) (same_bytes_lem at e h) ∙ sym (placed_walk start n (drop at (take e part)) 0 left at)

  -- ---- NIT and BAT

  module _ (e : nit_broken part ≡ 0) where
    nit_long : 16 ≤ size
    nit_long = let p = nit_passed part e in let z = part_long in let h = p.long in omega arith

    pub count_there : start + 8 + 2 ≤ length bytes
    count_there = let h = nit_long in let a = i.within in omega arith

    pub count_small : start + 8 < 4294967296
    count_small = let h = nit_long in let b = i.short in omega arith

    pub nit_end : 4 ≤ start + size
    nit_end = let h = nit_long in omega arith

    module _ (n : ℕ) (g : n ≡ count12 bytes (start + 8)) where
      first_is : first_length part ≡ n
      first_is =
          let h = nit_long in
          let z : start + 9 ≡ start + 8 + 1 = omega arith in
          rw (part_byte 8 (omega arith), part_byte 9 (omega arith), z) (sym g)

      fits : (16 + n ≤ size) × (10 + n + 2 + loop_length part ≡ size - 4)
      fits =
          let p = nit_passed part e in
          let z = part_long in
          let f = first_is in
          let a = p.room in
          let b = p.ends in
          let h = p.long in
          (omega arith, omega arith)

      pub first_in_lem : LoopIn (length bytes) 6 (start + 10) n (start + 10 + n)
      first_in_lem = let f = fits.0 in let a = i.within in let b = i.short in record { low = omega arith; small = omega arith; within = omega arith; there = omega arith; short = omega arith }

      pub second_in : LoopIn (length bytes) 6 (start + 10 + n + 2) 0 (start + size - 4)
      second_in = let f = fits.0 in let a = i.within in let b = i.short in record { low = omega arith; small = omega arith; within = omega arith; there = omega arith; short = omega arith }

      pub then_few : (then : ℕ) → then ≤ k + (start + 10 + n - (start + 10)) → then < 8589934592
      then_few then h = let a = i.few in let b = i.short in let f = fits.0 in omega arith

      first_found : found_from 6 (take (start + 10 + n) bytes) (start + 10) n ≡ placed start (network_found part)
      first_found =
          let z : start + 10 + n ≡ start + (10 + n) = omega arith in
          let f = fits.0 in
          ap (λ (x : ℕ). found_from 6 (take x bytes) (start + 10) n) z
          ∙ found_placed 6 10 n (10 + n) (omega arith)
          ∙ ap (λ (x : ℕ). placed start (found_from 6 (take (10 + x) part) 10 x)) (sym first_is)

      second_found : found_from 6 (take (start + size - 4) bytes) (start + 10 + n + 2) 0 ≡ placed start (streams_found part)
      second_found =
          let f = fits in
          let x : start + size - 4 ≡ start + (size - 4) = omega (arith, f.0) in
          let y : start + 10 + n + 2 ≡ start + (10 + n + 2) = omega arith in
          ap₂ (λ (a b : ℕ). found_from 6 (take a bytes) b 0) x y
          ∙ found_placed 6 (10 + n + 2) 0 (size - 4) (omega arith)
          ∙ ap₂ (λ (a b : ℕ). placed start (found_from 6 (take a part) b 0)) (sym f.1) (ap (λ (q : ℕ). 10 + q + 2) (sym first_is))
          ∙ ap (λ (q : ℕ). placed start (found_from 6 (take (10 + q + 2 + loop_length part) part) (second_at part + 2) 0)) (sym first_is)

      module _ (skip : ℕ) (list : List ℕ) (then : ℕ) (l : List ℕ) (r : ℕ) (m : List ℕ) where
        pub nit_listed : (then, l) ≡ listed_from skip k (words_of 0 number (found_from 6 (take (start + 10 + n) bytes) (start + 10) n)) list
            → (r, m) ≡ listed_from skip then (words_of 0 number (found_from 6 (take (start + size - 4) bytes) (start + 10 + n + 2) 0)) l
            → (r, m) ≡ listed_from skip k (nit_entries start number part) list
        unfolding nit_entries
        nit_listed a b =
            (rw second_found at b)
            ∙ sym (listed_then skip k (words_of 0 number (placed start (network_found part))) (words_of 0 number (placed start (streams_found part))) list then l (rw first_found at a))

        pub nit_few : then ≤ k + (start + 10 + n - (start + 10)) → r ≤ then + (start + size - 4 - (start + 10 + n + 2)) → r ≤ k + size
        nit_few a b = let f = fits.0 in omega arith

  -- ---- SDT

  module _ (e : sdt_broken part ≡ 0) where
    sdt_long : 15 ≤ size
    sdt_long = let p = (sdt_passed part e).1 in let z = part_long in omega arith

    pub word_in : start + 8 + 1 < length bytes
    word_in = let h = sdt_long in let a = i.within in omega arith

    pub sdt_end : 4 ≤ start + size
    sdt_end = let h = sdt_long in omega arith

    pub services_in : LoopIn (length bytes) 5 (start + 11) 0 (start + size - 4)
    services_in = let h = sdt_long in let a = i.within in let b = i.short in record { low = omega arith; small = omega arith; within = omega arith; there = omega arith; short = omega arith }

    services_found_lem : found_from 5 (take (start + size - 4) bytes) (start + 11) 0 ≡ placed start (services_found part)
    services_found_lem =
        let h = sdt_long in
        let x : start + size - 4 ≡ start + (size - 4) = omega arith in
        ap (λ (a : ℕ). found_from 5 (take a bytes) (start + 11) 0) x
        ∙ found_placed 5 11 0 (size - 4) (omega arith)
        ∙ ap (λ (a : ℕ). placed start (found_from 5 (take (a - 4) part) 11 0)) (sym part_long)

    network_is : word16 (byte_at bytes (start + 8)) (byte_at bytes (start + 8 + 1)) ≡ network_of part
    network_is =
        let h = sdt_long in
        let z : start + 9 ≡ start + 8 + 1 = omega arith in
        rw (part_byte 8 (omega arith), part_byte 9 (omega arith), z)

    module _ (skip : ℕ) (list : List ℕ) (network : ℕ) (g : network ≡ word16 (byte_at bytes (start + 8)) (byte_at bytes (start + 8 + 1))) (r : ℕ) (m : List ℕ) where
      pub sdt_listed : (r, m) ≡ listed_from skip k (words_of network number (found_from 5 (take (start + size - 4) bytes) (start + 11) 0)) list
          → (r, m) ≡ listed_from skip k (sdt_entries start number part) list
      unfolding sdt_entries
      sdt_listed a = a ∙ ap₂ (λ (f : Found) (n : ℕ). listed_from skip k (words_of n number f) list) services_found_lem (g ∙ network_is)

    pub sdt_few : (r : ℕ) → r ≤ k + (start + size - 4 - (start + 11)) → r ≤ k + size
    sdt_few r a = let h = sdt_long in omega arith

-- ---- a reader's

own : (b : Bool) (n : ℕ) → cond b n 1 ≡ 0 → n ≡ 0
own true n h = h
own false n h = absurd (omega arith)

module _ (t : Table) (s : List ℕ) (f : fault_of t s ≡ 0) where
  pub broken_none : broken_of t s ≡ 0
  unfolding fault_of
  broken_none = own (is_of t (byte_at s 0)) (broken_of t s) f

  pub nit_none : t ≡ Nit → nit_broken s ≡ 0
  nit_none e = rw e at broken_none

  pub bat_none : t ≡ Bat → nit_broken s ≡ 0
  bat_none e = rw e at broken_none

  pub sdt_none : t ≡ Sdt → sdt_broken s ≡ 0
  sdt_none e = rw e at broken_none

module _ (t : Table) (start number : ℕ) (s : List ℕ) (skip k : ℕ) (list : List ℕ) (r : ℕ) (l : List ℕ) where
  pub section_nit : t ≡ Nit → (r, l) ≡ listed_from skip k (nit_entries start number s) list → (r, l) ≡ listed_from skip k (entries_of t start number s) list
  section_nit e f = rw e f

  pub section_bat : t ≡ Bat → (r, l) ≡ listed_from skip k (nit_entries start number s) list → (r, l) ≡ listed_from skip k (entries_of t start number s) list
  section_bat e f = rw e f

  pub section_sdt : t ≡ Sdt → (r, l) ≡ listed_from skip k (sdt_entries start number s) list → (r, l) ≡ listed_from skip k (entries_of t start number s) list
  section_sdt e f = rw e f

pub section_none : (t : Table) (start number : ℕ) (s : List ℕ) (skip k : ℕ) (list : List ℕ) → t ≡ None → (k, list) ≡ listed_from skip k (entries_of t start number s) list
unfolding listed_from put_all
section_none t start number s skip k list e = rw (e, add-zero)
