-- "All have the first's": what each section of a set, of a schedule, shares with the first.
-- Assumes nothing.
use mathlib.Core.Path.{◌≡◌, refl, sym, ap, ◌∙◌}
use mathlib.Core.Bool.{Bool, true, false, ◌&&◌, ◌||◌}
use mathlib.Core.List.{List, [], ◌∷◌}
use Prim.Native.Nat.{ℕ, zero, suc, ◌+◌, ◌≤◌, ◌<◌}
use native.Mathlib.Omega.{arith}
use lib.ListN.{length, take, drop, get_or, length-drop}
use lib.Seq.{get_or-take, get_or-drop}
use lib.Dec.{ltb, eqb}
use borrow.Author.Tests.{eq-eqb, eqb-true, ltb-true, lt-ltb, eqb-false}
use Rattle.laws.specs.Lists.{every}
use Rattle.laws.proofs.Tests.{and_true, true_and}
use Rattle.section.specs.Facts.{Bytes}
use Rattle.section.specs.Header.{table_id_of, section_number}
use Rattle.rows.specs.declared.Key.{Key}
use Rattle.rows.specs.Rows.{same_key, same_origin}
use Rattle.laid.specs.Laid.{size_of, sections_in, laid_out, key_in, schedule_key_in, kind_first, chain_from, chain, in_table, in_set, in_schedule, joins, joined, is_set, is_schedule, same_version, same_last}
use Rattle.laid.specs.Walk.{rank_of}
use Rattle.laid.proofs.Sections.{laid_begins, sections_one, sections_none}

-- ---- what a pair that follows each other shares

pub keys_table : (j k : Key) → same_key j k ≡ true → j.table_id ≡ k.table_id
unfolding same_key
keys_table j k e =
    let a = (and_true _ (eqb j.original_network_id k.original_network_id) e).0 in
    let b = (and_true _ (eqb j.transport_stream_id k.transport_stream_id) a).0 in
    let c = (and_true _ (eqb j.current_next k.current_next) b).0 in
    let d = (and_true _ (eqb j.extension k.extension) c).0 in
    eqb-true j.table_id k.table_id (and_true (same_origin j.from k.from) (eqb j.table_id k.table_id) d).1

module _ (x y : List ℕ) where
  pub set_pair_table : in_set x y ≡ true → table_id_of x ≡ table_id_of y
  unfolding in_set
  set_pair_table e = keys_table (key_in 0 x) (key_in 0 y) (and_true (same_key (key_in 0 x) (key_in 0 y)) (in_table x y) e).0

  pub set_pair_number : in_set x y ≡ true → section_number x < section_number y
  unfolding in_set
  set_pair_number e =
      let t = (and_true (same_key (key_in 0 x) (key_in 0 y)) (in_table x y) e).1 in
      ltb-true (section_number x) (section_number y) (and_true (same_version x y && same_last x y) (ltb (section_number x) (section_number y)) t).1

  pub schedule_pair_kind : in_schedule x y ≡ true → kind_first (table_id_of x) ≡ kind_first (table_id_of y)
  unfolding in_schedule
  schedule_pair_kind e = keys_table (schedule_key_in 0 x) (schedule_key_in 0 y) (and_true (same_key (schedule_key_in 0 x) (schedule_key_in 0 y)) (ltb (table_id_of x) (table_id_of y) || (eqb (table_id_of x) (table_id_of y) && in_table x y)) e).0

  -- a later table, or a later number of the same one: the rank rises
  pub schedule_pair_rank : section_number x < 256 → in_schedule x y ≡ true → rank_of x < rank_of y
  unfolding in_schedule
  schedule_pair_rank h e = go (ltb (table_id_of x) (table_id_of y)) refl (and_true (same_key (schedule_key_in 0 x) (schedule_key_in 0 y)) (ltb (table_id_of x) (table_id_of y) || (eqb (table_id_of x) (table_id_of y) && in_table x y)) e).1
    where
      go : (b : Bool) → ltb (table_id_of x) (table_id_of y) ≡ b → (b || (eqb (table_id_of x) (table_id_of y) && in_table x y)) ≡ true → rank_of x < rank_of y
      go true z q = let l = ltb-true (table_id_of x) (table_id_of y) z in omega arith
      go false z q =
          let c = and_true (eqb (table_id_of x) (table_id_of y)) (in_table x y) q in
          let s = eqb-true (table_id_of x) (table_id_of y) c.0 in
          let l = ltb-true (section_number x) (section_number y) (and_true (same_version x y && same_last x y) (ltb (section_number x) (section_number y)) c.1).1 in
          omega arith

  pub set_pair_rank : in_set x y ≡ true → rank_of x < rank_of y
  set_pair_rank e = let t = set_pair_table e in let n = set_pair_number e in omega arith

-- ---- what all share

-- what each keeps of the one before it, all have of the first
pub all_first : (g : List ℕ → ℕ) (test : List ℕ → List ℕ → Bool) → ((x y : List ℕ) → test x y ≡ true → g x ≡ g y) → (v : ℕ) (x : List ℕ) (xs : List (List ℕ))
    → g x ≡ v → chain_from test x xs ≡ true → every (λ (y : List ℕ). eqb (g y) v) (x ∷ xs) ≡ true
unfolding chain_from every
all_first g test f v x [] h e = rw (eq-eqb (g x) v h)
all_first g test f v x (y ∷ ys) h e =
    let c = and_true (test x y) (chain_from test y ys) e in
    rw (eq-eqb (g x) v h) (all_first g test f v y ys (sym (f x y c.0) ∙ h) c.1)

-- one test for another along a chain, where a third holds of all
pub chain_other : (p : List ℕ → Bool) (test other : List ℕ → List ℕ → Bool) → ((x y : List ℕ) → p x ≡ true → test x y ≡ true → other x y ≡ true) → (x : List ℕ) (xs : List (List ℕ))
    → every p (x ∷ xs) ≡ true → chain_from test x xs ≡ true → chain_from other x xs ≡ true
unfolding chain_from every
chain_other p test other f x [] a e = refl
chain_other p test other f x (y ∷ ys) a e =
    let b = and_true (p x) (every p (y ∷ ys)) a in
    let c = and_true (test x y) (chain_from test y ys) e in
    true_and (f x y b.0 c.0) (chain_other p test other f y ys b.1 c.1)

every_true : (xs : List (List ℕ)) → every (λ (x : List ℕ). true) xs ≡ true
unfolding every
every_true [] = refl
every_true (x ∷ xs) = every_true xs

-- ---- numbers are bytes

bytes_drop : (s : List ℕ) (n : ℕ) → Bytes s → Bytes (drop n s)
bytes_drop s n h i = rw (get_or-drop n s i 0) (h (n + i))

abbrev pub small_number : List ℕ → Bool
small_number x = ltb (section_number x) 256

small_in : (k : ℕ) (s : List ℕ) → length s ≤ k → laid_out s ≡ true → Bytes s → every small_number (sections_in s) ≡ true
unfolding every
small_in zero s h w b = rw (sections_none s (omega arith))
small_in (suc k) s h w b =
    go (eqb (length s) 0) refl (λ (l : length (drop (size_of s) s) ≤ k) (v : laid_out (drop (size_of s) s) ≡ true). small_in k (drop (size_of s) s) l v (bytes_drop s (size_of s) b))
  where
    go : (t : Bool) → eqb (length s) 0 ≡ t → (length (drop (size_of s) s) ≤ k → laid_out (drop (size_of s) s) ≡ true → every small_number (sections_in (drop (size_of s) s)) ≡ true)
        → every small_number (sections_in s) ≡ true
    go true z f = rw (sections_none s (eqb-true (length s) 0 z))
    go false z f =
        let g = laid_begins s (eqb-false (length s) 0 z) w in
        let l : 12 ≤ size_of s = g.front.least in
        let n : section_number (take (size_of s) s) < 256 = rw (get_or-take (size_of s) s 6 0 (omega arith)) (b 6) in
        rw (sections_one s (eqb-false (length s) 0 z), lt-ltb (section_number (take (size_of s) s)) 256 n) (f (simp length-drop (omega arith)) g.rest)

pub small_numbers : (s : List ℕ) → laid_out s ≡ true → Bytes s → every small_number (sections_in s) ≡ true
small_numbers s w b = small_in (length s) s (omega arith) w b

-- ---- sets and schedules

-- the first section is the front of the bytes
pub record Opens (s : List ℕ) (x : List ℕ) (xs : List (List ℕ)) : Type 0 where
  pub cuts : sections_in s ≡ x ∷ xs
  pub same : (i : ℕ) → i < 12 → get_or x i 0 ≡ get_or s i 0
  pub room : 12 ≤ length s

pub opens : (s : List ℕ) → laid_out s ≡ true → 0 < length s → Opens s (take (size_of s) s) (sections_in (drop (size_of s) s))
opens s w h =
    let g = laid_begins s (λ (z : length s ≡ 0). omega arith) w in
    let l : 12 ≤ size_of s = g.front.least in
    let m : size_of s ≤ length s = g.front.within in
    record {
      cuts = sections_one s (λ (z : length s ≡ 0). omega arith);
      same = λ i a. get_or-take (size_of s) s i 0 (omega arith);
      room = omega arith;
    }

-- what a run of sections is made of
pub record Run (schedule : Bool) (s : List ℕ) : Type 0 where
  pub some : 0 < length s
  pub laid : laid_out s ≡ true
  pub chained : chain (joins schedule) (sections_in s) ≡ true

pub run_of : (schedule : Bool) (s : List ℕ) → joined schedule s ≡ true → Run schedule s
unfolding joined
run_of schedule s e =
    let a = and_true (ltb 0 (length s)) (laid_out s && chain (joins schedule) (sections_in s)) e in
    let b = and_true (laid_out s) (chain (joins schedule) (sections_in s)) a.1 in
    record { some = ltb-true 0 (length s) a.0; laid = b.0; chained = b.1 }

pub set_run : (s : List ℕ) → is_set s ≡ true → Run false s
unfolding is_set
set_run s e = run_of false s e

pub schedule_run : (s : List ℕ) → is_schedule s ≡ true → Run true s
unfolding is_schedule
schedule_run s e = run_of true s (and_true (joined true s) _ e).0

run_chain : (schedule : Bool) (s : List ℕ) → Run schedule s → chain_from (joins schedule) (take (size_of s) s) (sections_in (drop (size_of s) s)) ≡ true
unfolding chain
run_chain schedule s r = ap (chain (joins schedule)) (sym (opens s r.laid r.some).cuts) ∙ r.chained

-- all of one table; all of one kind
pub set_tables : (s : List ℕ) → is_set s ≡ true → every (λ (y : List ℕ). eqb (table_id_of y) (table_id_of s)) (sections_in s) ≡ true
set_tables s e =
    let r = set_run s e in
    let o = opens s r.laid r.some in
    ap (every (λ (y : List ℕ). eqb (table_id_of y) (table_id_of s))) o.cuts
    ∙ all_first table_id_of in_set set_pair_table (table_id_of s) (take (size_of s) s) (sections_in (drop (size_of s) s)) (o.same 0 (omega arith)) (run_chain false s r)

pub schedule_kinds : (s : List ℕ) → is_schedule s ≡ true → every (λ (y : List ℕ). eqb (kind_first (table_id_of y)) (kind_first (table_id_of s))) (sections_in s) ≡ true
schedule_kinds s e =
    let r = schedule_run s e in
    let o = opens s r.laid r.some in
    ap (every (λ (y : List ℕ). eqb (kind_first (table_id_of y)) (kind_first (table_id_of s)))) o.cuts
    ∙ all_first (λ (y : List ℕ). kind_first (table_id_of y)) in_schedule schedule_pair_kind (kind_first (table_id_of s)) (take (size_of s) s) (sections_in (drop (size_of s) s)) (ap kind_first (o.same 0 (omega arith))) (run_chain true s r)

-- ranks rise
module _ (other : List ℕ → List ℕ → Bool) (s : List ℕ) where
  pub set_chain : ((x y : List ℕ) → in_set x y ≡ true → other x y ≡ true) → is_set s ≡ true → chain other (sections_in s) ≡ true
  unfolding chain
  set_chain f e =
      let r = set_run s e in
      let o = opens s r.laid r.some in
      ap (chain other) o.cuts ∙ chain_other (λ (x : List ℕ). true) in_set other (λ x y p q. f x y q) (take (size_of s) s) (sections_in (drop (size_of s) s)) (every_true (take (size_of s) s ∷ sections_in (drop (size_of s) s))) (run_chain false s r)

  pub schedule_chain : ((x y : List ℕ) → small_number x ≡ true → in_schedule x y ≡ true → other x y ≡ true) → Bytes s → is_schedule s ≡ true → chain other (sections_in s) ≡ true
  unfolding chain
  schedule_chain f b e =
      let r = schedule_run s e in
      let o = opens s r.laid r.some in
      let m : every small_number (take (size_of s) s ∷ sections_in (drop (size_of s) s)) ≡ true = ap (every small_number) (sym o.cuts) ∙ small_numbers s r.laid b in
      ap (chain other) o.cuts ∙ chain_other small_number in_schedule other f (take (size_of s) s) (sections_in (drop (size_of s) s)) m (run_chain true s r)
