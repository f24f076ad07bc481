-- The part of a table: in a schedule tables never fall, so the sections of one stand together.
-- Assumes nothing.
use mathlib.Core.Path.{◌≡◌, refl, sym, ap, ◌∙◌}
use mathlib.Core.Bool.{Bool, true, false, cond, ◌&&◌, ◌||◌}
use mathlib.Core.List.{List, [], ◌∷◌, ◌++◌, flatten, append_assoc}
use Prim.Native.Nat.{ℕ, ◌+◌, ◌-◌, ◌≤◌, ◌<◌}
use native.Mathlib.Nat.{add-sub_cancel_left}
use native.Mathlib.Omega.{arith}
use lib.ListN.{length, take, drop}
use lib.Seq.{take-append_seam}
use lib.Dec.{ltb, eqb}
use borrow.Author.Tests.{ne_eqb, lt-ltb, le-ltb, ltb-true, ltb-false, eqb-true, eqb-false}
use Rattle.laws.proofs.Tests.{and_true}
use Rattle.section.specs.Header.{table_id_of}
use Rattle.rows.specs.Rows.{same_key}
use Rattle.laid.specs.Laid.{sections_in, laid_out, schedule_key_in, chain, chain_from, in_table, in_schedule, joins, joined, is_schedule, those, of_table, table_in}
use Rattle.laid.specs.Walk.{LaidFrom, from, leading, following, below_table, Passed}
use Rattle.laid.proofs.Sections.{sections_all}

-- ---- order

or_le : (x y : List ℕ) (rest : Bool) → (ltb (table_id_of x) (table_id_of y) || (eqb (table_id_of x) (table_id_of y) && rest)) ≡ true → table_id_of x ≤ table_id_of y
or_le x y rest e = go (ltb (table_id_of x) (table_id_of y)) refl e
  where
    go : (b : Bool) → ltb (table_id_of x) (table_id_of y) ≡ b → (b || (eqb (table_id_of x) (table_id_of y) && rest)) ≡ true → table_id_of x ≤ table_id_of y
    go true z q = let a = ltb-true (table_id_of x) (table_id_of y) z in omega arith
    go false z q = let a = eqb-true (table_id_of x) (table_id_of y) (and_true (eqb (table_id_of x) (table_id_of y)) rest q).0 in omega arith

pub never_falls : (x y : List ℕ) → in_schedule x y ≡ true → table_id_of x ≤ table_id_of y
unfolding in_schedule
never_falls x y e = or_le x y (in_table x y) (and_true (same_key (schedule_key_in 0 x) (schedule_key_in 0 y)) (ltb (table_id_of x) (table_id_of y) || (eqb (table_id_of x) (table_id_of y) && in_table x y)) e).1

-- ---- the sections of table t

module _ (t : ℕ) where
  -- past the table there is none of it
  pub those_past : (x : List ℕ) (xs : List (List ℕ)) → t < table_id_of x → chain_from in_schedule x xs ≡ true → those (of_table t) xs ≡ []
  unfolding chain_from those
  those_past x [] h e = refl
  those_past x (y ∷ ys) h e =
      let c = and_true (in_schedule x y) (chain_from in_schedule y ys) e in
      let l : table_id_of x ≤ table_id_of y = never_falls x y c.0 in
      rw (ne_eqb (table_id_of y) t (λ (q : table_id_of y ≡ t). omega arith)) (those_past y ys (omega arith) c.1)

  -- from the table on, those of it lead
  those_head : (x : List ℕ) (xs : List (List ℕ)) → t ≤ table_id_of x → (table_id_of x ≡ t → those (of_table t) xs ≡ leading (below_table (t + 1)) xs) → (t < table_id_of x → those (of_table t) xs ≡ [])
      → those (of_table t) (x ∷ xs) ≡ leading (below_table (t + 1)) (x ∷ xs)
  unfolding those leading
  those_head x xs h f g = go (eqb (table_id_of x) t) refl
    where
      go : (b : Bool) → eqb (table_id_of x) t ≡ b → cond (eqb (table_id_of x) t) (x ∷ those (of_table t) xs) (those (of_table t) xs) ≡ cond (ltb (table_id_of x) (t + 1)) (x ∷ leading (below_table (t + 1)) xs) []
      go true z = let q = eqb-true (table_id_of x) t z in rw (z, lt-ltb (table_id_of x) (t + 1) (omega arith), f q)
      go false z = let q = eqb-false (table_id_of x) t z in let l : t < table_id_of x = omega arith in rw (z, le-ltb (table_id_of x) (t + 1) (omega arith), g l)

  those_from : (x : List ℕ) (xs : List (List ℕ)) → t ≤ table_id_of x → chain_from in_schedule x xs ≡ true → those (of_table t) (x ∷ xs) ≡ leading (below_table (t + 1)) (x ∷ xs)
  unfolding chain_from those leading
  those_from x [] h e = those_head x [] h (λ (q : table_id_of x ≡ t). refl) (λ (q : t < table_id_of x). refl)
  those_from x (y ∷ ys) h e =
      let c = and_true (in_schedule x y) (chain_from in_schedule y ys) e in
      let l : table_id_of x ≤ table_id_of y = never_falls x y c.0 in
      those_head x (y ∷ ys) h (λ (q : table_id_of x ≡ t). those_from y ys (omega arith) c.1) (λ (q : t < table_id_of x). those_past x (y ∷ ys) q e)

  -- so they are what leads once the tables before it are passed
  those_rest : (x : List ℕ) (xs : List (List ℕ)) → chain_from in_schedule x xs ≡ true → those (of_table t) xs ≡ leading (below_table (t + 1)) (following (below_table t) xs)
      → those (of_table t) (x ∷ xs) ≡ leading (below_table (t + 1)) (following (below_table t) (x ∷ xs))
  unfolding those following
  those_rest x xs e f = go (ltb (table_id_of x) t) refl
    where
      go : (b : Bool) → ltb (table_id_of x) t ≡ b → those (of_table t) (x ∷ xs) ≡ leading (below_table (t + 1)) (cond (ltb (table_id_of x) t) (following (below_table t) xs) (x ∷ xs))
      go true z = let q = ltb-true (table_id_of x) t z in rw (z, ne_eqb (table_id_of x) t (λ (p : table_id_of x ≡ t). omega arith)) f
      go false z = rw z (those_from x xs (ltb-false (table_id_of x) t z) e)

  those_after : (x : List ℕ) (xs : List (List ℕ)) → chain_from in_schedule x xs ≡ true → those (of_table t) xs ≡ leading (below_table (t + 1)) (following (below_table t) xs)
  unfolding chain_from those leading following
  those_after x [] e = refl
  those_after x (y ∷ ys) e =
      let c = (and_true (in_schedule x y) (chain_from in_schedule y ys) e).1 in
      those_rest y ys c (those_after y ys c)

  pub those_table : (xs : List (List ℕ)) → chain in_schedule xs ≡ true → those (of_table t) xs ≡ leading (below_table (t + 1)) (following (below_table t) xs)
  unfolding chain those leading following
  those_table [] e = refl
  those_table (x ∷ xs) e = those_rest x xs e (those_after x xs e)

-- ---- the bytes

flatten_parts : (test : List ℕ → Bool) (xs : List (List ℕ)) → flatten xs ≡ flatten (leading test xs) ++ flatten (following test xs)
unfolding flatten leading following
flatten_parts test [] = refl
flatten_parts test (x ∷ xs) = go (test x) (flatten_parts test xs)
  where
    go : (b : Bool) → flatten xs ≡ flatten (leading test xs) ++ flatten (following test xs)
        → (x ++ flatten xs) ≡ flatten (cond b (x ∷ leading test xs) []) ++ flatten (cond b (following test xs) (x ∷ xs))
    go true f = ap (λ (l : List ℕ). x ++ l) f ∙ sym (append_assoc x (flatten (leading test xs)) (flatten (following test xs)))
    go false f = refl

pub schedule_laid : (s : List ℕ) → is_schedule s ≡ true → (laid_out s ≡ true) × (chain in_schedule (sections_in s) ≡ true)
unfolding is_schedule joined
schedule_laid s e =
    let a = (and_true (joined true s) _ e).0 in
    let b = (and_true (ltb 0 (length s)) _ a).1 in
    and_true (laid_out s) (chain (joins true) (sections_in s)) b

pub schedule_starts : (s : List ℕ) → is_schedule s ≡ true → LaidFrom s 0
schedule_starts s e = record { fits = omega arith; whole = (schedule_laid s e).0 }

module _ (s : List ℕ) (t a b start end : ℕ) (e : is_schedule s ≡ true) (f : a ≡ t) (g : b ≡ t)
    (p : Passed (below_table a) s 0 start) (q : Passed (below_table (b + 1)) s start end) where
  pub part_ordered : start ≤ end
  part_ordered = let k = q.exact in omega arith

  pub part_fits : end ≤ length s
  part_fits = q.laid.fits

  pub part_of_table : take (end - start) (drop start s) ≡ table_in s t
  unfolding table_in
  part_of_table =
      let k : end - start ≡ length (flatten (leading (below_table (b + 1)) (from s start))) = rw q.exact (add-sub_cancel_left start (length (flatten (leading (below_table (b + 1)) (from s start))))) in
      let d : drop start s ≡ flatten (leading (below_table (b + 1)) (from s start)) ++ flatten (following (below_table (b + 1)) (from s start)) =
      sym (sections_all (drop start s) p.laid.whole) ∙ flatten_parts (below_table (b + 1)) (from s start) in
      let m : leading (below_table (b + 1)) (from s start) ≡ those (of_table t) (sections_in s) =
      rw (p.rest, f, g) (sym (those_table t (sections_in s) (schedule_laid s e).1)) in
      ap (λ (l : List ℕ). take (end - start) l) d
      ∙ ap (λ (n : ℕ). take n (flatten (leading (below_table (b + 1)) (from s start)) ++ flatten (following (below_table (b + 1)) (from s start)))) k
      ∙ take-append_seam (flatten (leading (below_table (b + 1)) (from s start))) (flatten (following (below_table (b + 1)) (from s start)))
      ∙ ap flatten m
