-- The reader of networks and bouquets refuses nothing exactly where the section is laid out as the standard says.
-- Assumes nothing.
use mathlib.Core.Path.{◌≡◌, refl, sym, ap, ap₂, ◌∙◌, subst}
use mathlib.Core.Bool.{Bool, true, false, cond, ◌||◌}
use Prim.Native.Nat.{ℕ, zero, suc, ◌+◌, ◌*◌, ◌%◌, ◌-◌, ◌≤◌, ◌<◌}
use native.Mathlib.Omega.{arith}
use mathlib.Core.List.{List, [], ◌∷◌, ◌++◌, append-nil, append_assoc}
use lib.ListN.{length, get_or, take, drop, length-append, length-drop, take-append-drop, get_or-append}
use lib.Seq.{take-append-add, drop_at, take_at, length-take-le, drop-drop, get_or-take, get_or-drop, get_or-append-add}
use lib.Dec.{ltb, eqb}
use borrow.Author.Tests.{ltb-false, le-ltb, eqb-true, eq-eqb, ne_eqb}
use Rattle.laws.specs.Entries.{counted}
use Rattle.laws.proofs.Lists.{drop_take}
use Rattle.laws.proofs.Tests.{or_false}
use Rattle.section.specs.Header.{byte_at}
use Rattle.listing.specs.Rules.{Part, Item, Laid, Breaks, Whole}
use Rattle.listing.specs.Store.{Found, done, past, walk, found_from}
use Rattle.listing.proofs.Parts.{Judged, is_laid, is_broken, judged}
use Rattle.listing.proofs.Listed.{found_parts, found_items, whole_found, descriptors_laid, descriptors_broken}
use Rattle.rules_networks.specs.Networks.{length_wrong, crc_at, first_length, second_at, loop_length, first_loop, network_found, streams_found, broken_in, first_of, nit_broken, NitWhole, nit_laid}
use Rattle.rules_networks.proofs.Listed.{streams_listed, parts_broken, items_broken}

-- ---- the first loop

module _ (s : List ℕ) (h : second_at s ≤ length s) where
  pub first_long : length (first_loop s) ≡ first_length s
  unfolding first_loop
  first_long = length-drop 10 (take (second_at s) s) ∙ ap (λ (n : ℕ). n - 10) (length-take-le (second_at s) s h) ∙ omega arith

  pub network_is : network_found s ≡ walk 6 (first_loop s ++ []) 0 (length (first_loop s)) 10
  unfolding found_from first_loop
  network_is = ap₂ (λ (q : List ℕ) (n : ℕ). walk 6 q 0 n 10) (sym (append-nil (first_loop s))) (sym first_long)

  pub laid_found : (ds : List Part) → Laid 1 2 (first_loop s) ds → broken_in (network_found s) ≡ 0
  unfolding broken_in walk
  laid_found ds d = ap broken_in (network_is ∙ descriptors_laid 6 d [] 10) ∙ parts_broken 10 ds done

  pub broken_found : (ds : List Part) (place : ℕ) → Breaks 1 2 (first_loop s) ds place → broken_in (network_found s) ≡ suc (10 + place)
  unfolding broken_in
  broken_found ds place d = ap broken_in (network_is ∙ descriptors_broken 6 d [] 10) ∙ parts_broken 10 ds (past (10 + place))

pub record FirstLaid (s : List ℕ) : Type 0 where
  pub parts : List Part
  pub laid : Laid 1 2 (first_loop s) parts

pub first_by : (s : List ℕ) → second_at s ≤ length s → broken_in (network_found s) ≡ 0 → Judged 1 2 (first_loop s) → FirstLaid s
first_by s h e (is_laid ds d) = record { parts = ds; laid = d }
first_by s h e (is_broken ds place d) = absurd (let q = broken_found s h ds place d in omega arith)

-- ---- from the test to the layout

pub record Passed (s : List ℕ) : Type 0 where
  pub exact : length_wrong s ≡ false
  pub long : 16 ≤ length s
  pub room : second_at s + 2 ≤ crc_at s
  pub first : broken_in (network_found s) ≡ 0
  pub ends : second_at s + 2 + loop_length s ≡ crc_at s
  pub second : broken_in (streams_found s) ≡ 0

passed_by_lem : (s : List ℕ) (a b c d : Bool) (n m : ℕ) → cond a 2 (cond (b || c) 9 (first_of n (cond d m (suc (second_at s))))) ≡ 0
    → (a ≡ false) × (b ≡ false) × (c ≡ false) × (n ≡ 0) × (d ≡ true) × (m ≡ 0)
passed_by_lem s true b c d n m e = absurd (omega arith)
passed_by_lem s false true c d n m e = absurd (omega arith)
passed_by_lem s false false true d n m e = absurd (omega arith)
passed_by_lem s false false false d (suc n) m e =
    let q : eqb (suc n) 0 ≡ false = ne_eqb (suc n) 0 (λ (z : suc n ≡ 0). omega arith) in
    let r = rw q at e in
    absurd (omega arith)
passed_by_lem s false false false true zero m e = (refl, refl, refl, refl, refl, e)
passed_by_lem s false false false false zero m e = absurd (omega arith)

pub nit_passed : (s : List ℕ) → nit_broken s ≡ 0 → Passed s
unfolding nit_broken
nit_passed s e =
    let p = passed_by_lem s (length_wrong s) (ltb (length s) 16) (ltb (crc_at s) (second_at s + 2)) (eqb (second_at s + 2 + loop_length s) (crc_at s)) (broken_in (network_found s)) (broken_in (streams_found s)) e in
    record {
      exact = p.0;
      long = ltb-false (length s) 16 p.1;
      room = ltb-false (crc_at s) (second_at s + 2) p.2;
      first = p.3;
      ends = eqb-true (second_at s + 2 + loop_length s) (crc_at s) p.4;
      second = p.5;
    }

-- the bytes from a to b, and then those from b on
piece : (s : List ℕ) (a b : ℕ) → a ≤ b → drop a (take b s) ++ drop b s ≡ drop a s
piece s a b h =
    let e : a + (b - a) ≡ b = omega arith in
    let x : drop a (take b s) ≡ take (b - a) (drop a s) = ap (λ (n : ℕ). drop a (take n s)) (sym e) ∙ drop_take a (b - a) s in
    let y : drop b s ≡ drop (b - a) (drop a s) = ap (λ (n : ℕ). drop n s) (sym e) ∙ sym (drop-drop (b - a) a s) in
    rw (x, y) (take-append-drop (b - a) (drop a s))

piece_long : (s : List ℕ) (a b : ℕ) → a ≤ b → b ≤ length s → length (drop a (take b s)) ≡ b - a
piece_long s a b h l = length-drop a (take b s) ∙ ap (λ (n : ℕ). n - a) (length-take-le b s l)

module _ (s : List ℕ) (p : Passed s) where
  abbrev streams_at : ℕ
  streams_at = second_at s + 2

  abbrev end_at : ℕ
  end_at = second_at s + 2 + loop_length s

  together : take 10 s ++ (drop 10 (take (second_at s) s) ++ (drop (second_at s) (take streams_at s) ++ (drop streams_at (take end_at s) ++ drop end_at s))) ≡ s
  together =
      rw (piece s streams_at end_at (omega arith), piece s (second_at s) streams_at (omega arith), piece s 10 (second_at s) (omega arith), take-append-drop 10 s)

  within : (length s ≡ end_at + 4) × (end_at ≤ length s) × (streams_at ≤ length s) × (second_at s ≤ length s)
  within = let h = p.long in let e = p.ends in (omega arith, omega arith, omega arith, omega arith)

  first_count : length (drop 10 (take (second_at s) s)) ≡ counted 10 (take 10 s)
  first_count =
      piece_long s 10 (second_at s) (omega arith) within.3
      ∙ rw (get_or-take 10 s 8 0 (omega arith), get_or-take 10 s 9 0 (omega arith)) (omega arith)

  byte_of : (j : ℕ) → j < 2 → get_or (drop (second_at s) (take streams_at s)) j 0 ≡ byte_at s (second_at s + j)
  byte_of j h = get_or-drop (second_at s) (take streams_at s) j 0 ∙ get_or-take streams_at s (second_at s + j) 0 (omega arith)

  second_count : length (drop streams_at (take end_at s)) ≡ counted 2 (drop (second_at s) (take streams_at s))
  second_count =
      let z : second_at s + 0 ≡ second_at s = omega arith in
      piece_long s streams_at end_at (omega arith) within.1
      ∙ rw (byte_of 0 (omega arith), byte_of 1 (omega arith), z) (omega arith)

  pub passed_laid : NitWhole s
  unfolding first_loop
  passed_laid =
      let w = within in
      let f = first_by s w.3 p.first (judged 1 2 (omega arith) (first_loop s)) in
      let t = streams_listed s 0 0 p.second in
      subst NitWhole together
      (nit_laid (take 10 s) (drop 10 (take (second_at s) s)) (drop (second_at s) (take streams_at s)) (drop streams_at (take end_at s)) (drop end_at s) f.parts t.items
      (length-take-le 10 s (omega arith)) first_count f.laid (piece_long s (second_at s) streams_at (omega arith) w.2 ∙ omega arith) second_count t.whole
      (length-drop end_at s ∙ omega arith))

-- a section that is not refused is laid out so
pub nit_laid_out : (s : List ℕ) → nit_broken s ≡ 0 → (length_wrong s ≡ false) × NitWhole s
nit_laid_out s e = let p = nit_passed s e in (p.exact, passed_laid s p)

-- ---- and back

module _ (head first second loop crc : List ℕ) (h : length head ≡ 10) (f : length first ≡ counted 10 head) (k : length second ≡ 2) (l : length loop ≡ counted 2 second) (c : length crc ≡ 4) where
  abbrev rest : List ℕ
  rest = second ++ (loop ++ crc)

  abbrev all : List ℕ
  all = head ++ (first ++ rest)

  first_is : first_length all ≡ length first
  first_is = rw (get_or-append head (first ++ rest) 0 8 (omega arith), get_or-append head (first ++ rest) 0 9 (omega arith)) (sym f)

  behind : (j : ℕ) → j < 2 → byte_at all (10 + length first + j) ≡ get_or second j 0
  behind j m =
      let e : 10 + length first + j ≡ length head + (length first + j) = omega arith in
      ap (λ (n : ℕ). get_or all n 0) e ∙ get_or-append-add head (first ++ rest) (length first + j) 0 ∙ get_or-append-add first rest j 0 ∙ get_or-append second (loop ++ crc) 0 j (omega arith)

  loop_is : loop_length all ≡ length loop
  loop_is =
      let z : 10 + length first + 0 ≡ 10 + length first = omega arith in
      let a : byte_at all (10 + length first) ≡ get_or second 0 0 = ap (λ (n : ℕ). byte_at all n) (sym z) ∙ behind 0 (omega arith) in
      rw (first_is, a, behind 1 (omega arith)) (sym l)

  long_is : length all ≡ 10 + (length first + (2 + (length loop + 4)))
  long_is =
      length-append head (first ++ rest)
      ∙ ap₂ (λ (i j : ℕ). i + j) h (length-append first rest ∙ ap (λ (i : ℕ). length first + i) (length-append second (loop ++ crc) ∙ ap₂ (λ (i j : ℕ). i + j) k (length-append loop crc ∙ ap (λ (i : ℕ). length loop + i) c)))

  first_there : first_loop all ≡ first
  unfolding first_loop
  first_there =
      let n : second_at all ≡ length head + length first = ap (λ (i : ℕ). 10 + i) first_is ∙ omega arith in
      rw (n, take-append-add head (first ++ rest) (length first), take_at first rest (length first) refl) (drop_at head first 10 h)

  streams_there : drop (second_at all + 2) (take (second_at all + 2 + loop_length all) all) ≡ loop
  streams_there =
      let q : List ℕ = head ++ (first ++ second) in
      let e : all ≡ q ++ (loop ++ crc) = ap (λ (x : List ℕ). head ++ x) (sym (append_assoc first second (loop ++ crc))) ∙ sym (append_assoc head (first ++ second) (loop ++ crc)) in
      let n : length q ≡ 10 + length first + 2 = length-append head (first ++ second) ∙ ap₂ (λ (i j : ℕ). i + j) h (length-append first second ∙ ap (λ (i : ℕ). length first + i) k) ∙ omega arith in
      let m : 10 + length first + 2 + length loop ≡ length q + length loop = omega arith in
      rw (loop_is, first_is, m)
      (ap (λ (x : List ℕ). drop (10 + length first + 2) (take (length q + length loop) x)) e
      ∙ ap (λ (x : List ℕ). drop (10 + length first + 2) x) (take-append-add q (loop ++ crc) (length loop) ∙ ap (λ (x : List ℕ). q ++ x) (take_at loop crc (length loop) refl))
      ∙ drop_at q loop (10 + length first + 2) n)

  back : (ds : List Part) (items : List Item) → Laid 1 2 first ds → Whole 6 loop items → length_wrong all ≡ false → nit_broken all ≡ 0
  unfolding nit_broken found_from broken_in
  back ds items d w e =
      let z = long_is in
      let a = first_is in
      let b = loop_is in
      let x : broken_in (network_found all) ≡ 0 = laid_found all (omega arith) ds (rw first_there d) in
      let y : broken_in (streams_found all) ≡ 0 = ap broken_in (whole_found 6 (omega arith) (rw streams_there w) (second_at all + 2)) ∙ items_broken (second_at all + 2) items done in
      let u : ltb (length all) 16 ≡ false = le-ltb (length all) 16 (omega arith) in
      let v : ltb (crc_at all) (second_at all + 2) ≡ false = le-ltb (crc_at all) (second_at all + 2) (omega arith) in
      let t : eqb (second_at all + 2 + loop_length all) (crc_at all) ≡ true = eq-eqb (second_at all + 2 + loop_length all) (crc_at all) (omega arith) in
      rw (e, u, v, x, t, y)

-- a section that is laid out so is not refused
pub nit_whole : (s : List ℕ) → length_wrong s ≡ false → NitWhole s → nit_broken s ≡ 0
nit_whole s e (nit_laid head first second loop crc ds items h f d k l w c) = back head first second loop crc h f k l c ds items d w e
