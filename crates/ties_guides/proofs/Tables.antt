-- The part of a table of a schedule is itself a set, or no bytes: so what `table_part` gives may be lent to `held` and `section_of`.
-- Assumes nothing.
use mathlib.Core.Path.{◌≡◌, refl, sym, ap, ◌∙◌}
use mathlib.Core.Bool.{Bool, true, false, cond, ◌&&◌, ◌||◌, true≢false}
use mathlib.Core.List.{List, [], ◌∷◌, ◌++◌, flatten}
use Prim.Native.Nat.{ℕ, zero, suc, ◌≤◌}
use native.Mathlib.Omega.{arith}
use lib.ListN.{length, take, drop, get_or, length-drop, length-append, get_or-append}
use lib.Seq.{get_or-take, length-take-le, take-append_seam, drop-append_seam}
use lib.Dec.{leb, ltb, eqb}
use borrow.Author.Tests.{eq-eqb, lt-ltb, le-ltb, le-leb, leb-true, eqb-true, eqb-false}
use Rattle.laws.specs.Lists.{every}
use Rattle.laws.proofs.Tests.{and_true, true_and}
use Rattle.section.specs.Header.{table_id_of, long_form}
use Rattle.rows.specs.Rows.{same_key, same_origin}
use Rattle.laid.specs.Laid.{size_of, sections_in, is_long, laid_out, kind_first, key_in, schedule_key_in, chain_from, chain, in_table, in_set, in_schedule, joined, is_set, is_schedule, those, of_table, table_in}
use Rattle.laid.proofs.Sections.{Front, laid_begins, laid_empty, laid_front, sections_one, sections_none, sections_front}
use Rattle.laid.proofs.Tables.{never_falls, those_past, schedule_laid}
use Rattle.guides.specs.Store.{set_or_empty, table_part}

-- ---- sections that are laid anew are the same sections

-- a long-form section of its own length
abbrev is_whole : List ℕ → Bool
is_whole x = is_long x && eqb (size_of x) (length x)

whole_in_lem : (k : ℕ) (s : List ℕ) → length s ≤ k → laid_out s ≡ true → every is_whole (sections_in s) ≡ true
unfolding every
whole_in_lem zero s h w = rw (sections_none s (omega arith))
whole_in_lem (suc k) s h w = go (eqb (length s) 0) refl (λ (l : length (drop (size_of s) s) ≤ k) (v : laid_out (drop (size_of s) s) ≡ true). whole_in_lem k (drop (size_of s) s) l v)
  where
    go : (t : Bool) → eqb (length s) 0 ≡ t → (length (drop (size_of s) s) ≤ k → laid_out (drop (size_of s) s) ≡ true → every is_whole (sections_in (drop (size_of s) s)) ≡ true)
        → every is_whole (sections_in s) ≡ true
    go true z f = rw (sections_none s (eqb-true (length s) 0 z))
    go false z f =
        let g = laid_begins s (eqb-false (length s) 0 z) w in
        let l : 12 ≤ size_of s = g.front.least in
        let n : length (take (size_of s) s) ≡ size_of s = length-take-le (size_of s) s g.front.within in
        let a : long_form (take (size_of s) s) ≡ true = ap (λ (b : ℕ). leb 128 b) (get_or-take (size_of s) s 1 0 (omega arith)) ∙ g.front.long in
        let m : size_of (take (size_of s) s) ≡ size_of s = rw (get_or-take (size_of s) s 1 0 (omega arith), get_or-take (size_of s) s 2 0 (omega arith)) in
        let c : is_long (take (size_of s) s) ≡ true = true_and a (le-leb 12 (length (take (size_of s) s)) (omega arith)) in
        let d : is_whole (take (size_of s) s) ≡ true = true_and c (eq-eqb (size_of (take (size_of s) s)) (length (take (size_of s) s)) (m ∙ sym n)) in
        rw (sections_one s (eqb-false (length s) 0 z)) (true_and d (f (simp length-drop (omega arith)) g.rest))

-- before any other bytes
whole_front : (x rest : List ℕ) → is_whole x ≡ true → Front (x ++ rest) (length x)
whole_front x rest e =
    let a = and_true (is_long x) (eqb (size_of x) (length x)) e in
    let b = and_true (long_form x) (leb 12 (length x)) a.0 in
    let l : 12 ≤ length x = leb-true 12 (length x) b.1 in
    let one : get_or (x ++ rest) 1 0 ≡ get_or x 1 0 = get_or-append x rest 0 1 (omega arith) in
    let two : get_or (x ++ rest) 2 0 ≡ get_or x 2 0 = get_or-append x rest 0 2 (omega arith) in
    let m : size_of (x ++ rest) ≡ size_of x = rw (one, two) in
    record {
      exact = sym (m ∙ eqb-true (size_of x) (length x) a.1);
      least = l;
      within = rw (length-append x rest) (omega arith);
      long = ap (λ (b : ℕ). leb 128 b) one ∙ b.0;
    }

laid_anew : (xs : List (List ℕ)) → every is_whole xs ≡ true → laid_out (flatten xs) ≡ true
unfolding every flatten
laid_anew [] e = laid_empty [] refl
laid_anew (x ∷ xs) e =
    let a = and_true (is_whole x) (every is_whole xs) e in
    laid_front (x ++ flatten xs) (length x) (whole_front x (flatten xs) a.0) ∙ ap laid_out (drop-append_seam x (flatten xs)) ∙ laid_anew xs a.1

same_sections : (xs : List (List ℕ)) → every is_whole xs ≡ true → sections_in (flatten xs) ≡ xs
unfolding every flatten
same_sections [] e = sections_none [] refl
same_sections (x ∷ xs) e =
    let a = and_true (is_whole x) (every is_whole xs) e in
    let r : sections_in (drop (length x) (x ++ flatten xs)) ≡ xs = ap sections_in (drop-append_seam x (flatten xs)) ∙ same_sections xs a.1 in
    sections_front (x ++ flatten xs) (length x) (whole_front x (flatten xs) a.0) ∙ rw (take-append_seam x (flatten xs), r)

every_those : (p test : List ℕ → Bool) (xs : List (List ℕ)) → every p xs ≡ true → every p (those test xs) ≡ true
unfolding every those
every_those p test [] e = refl
every_those p test (x ∷ xs) e = let a = and_true (p x) (every p xs) e in go (test x) a.0 (every_those p test xs a.1)
  where
    go : (b : Bool) → p x ≡ true → every p (those test xs) ≡ true → every p (cond b (x ∷ those test xs) (those test xs)) ≡ true
    go true h f = true_and h f
    go false h f = f

-- ---- in one table the order of a schedule is that of a set

-- a key with another table in it
other_table : (o p q e c s n : Bool) → q ≡ true → (o && p && e && c && s && n) ≡ true → (o && q && e && c && s && n) ≡ true
other_table true true q e c s n h f = rw h f
other_table true false q e c s n h f = absurd (true≢false (sym f))
other_table false p q e c s n h f = absurd (true≢false (sym f))

one_table : (x y : List ℕ) → table_id_of x ≡ table_id_of y → in_schedule x y ≡ true → in_set x y ≡ true
unfolding in_schedule in_set same_key
one_table x y t e =
    let a = and_true (same_key (schedule_key_in 0 x) (schedule_key_in 0 y)) (ltb (table_id_of x) (table_id_of y) || (eqb (table_id_of x) (table_id_of y) && in_table x y)) e in
    let b : (eqb (table_id_of x) (table_id_of y) && in_table x y) ≡ true = rw (le-ltb (table_id_of x) (table_id_of y) (omega arith)) at a.1 in
    let k : same_key (key_in 0 x) (key_in 0 y) ≡ true =
    other_table (same_origin (key_in 0 x).from (key_in 0 y).from) (eqb (kind_first (table_id_of x)) (kind_first (table_id_of y))) (eqb (table_id_of x) (table_id_of y))
    (eqb (key_in 0 x).extension (key_in 0 y).extension) (eqb (key_in 0 x).current_next (key_in 0 y).current_next)
    (eqb (key_in 0 x).transport_stream_id (key_in 0 y).transport_stream_id) (eqb (key_in 0 x).original_network_id (key_in 0 y).original_network_id)
    (eq-eqb (table_id_of x) (table_id_of y) t) a.0 in
    true_and k (and_true (eqb (table_id_of x) (table_id_of y)) (in_table x y) b).1

module _ (t : ℕ) where
  -- behind a section of the table
  set_behind : (x : List ℕ) (xs : List (List ℕ)) → table_id_of x ≡ t → chain_from in_schedule x xs ≡ true → chain_from in_set x (those (of_table t) xs) ≡ true
  unfolding chain_from those
  set_behind x [] h e = refl
  set_behind x (y ∷ ys) h e =
      let c = and_true (in_schedule x y) (chain_from in_schedule y ys) e in
      go (eqb (table_id_of y) t) refl c.0 c.1 (λ (q : table_id_of y ≡ t). set_behind y ys q c.1)
    where
      go : (b : Bool) → eqb (table_id_of y) t ≡ b → in_schedule x y ≡ true → chain_from in_schedule y ys ≡ true → (table_id_of y ≡ t → chain_from in_set y (those (of_table t) ys) ≡ true)
          → chain_from in_set x (cond b (y ∷ those (of_table t) ys) (those (of_table t) ys)) ≡ true
      go true z p q f = let k = eqb-true (table_id_of y) t z in true_and (one_table x y (h ∙ sym k) p) (f k)
      go false z p q f =
          let l : table_id_of x ≤ table_id_of y = never_falls x y p in
          let n = eqb-false (table_id_of y) t z in
          rw (those_past t y ys (omega arith) q)

  set_from : (x : List ℕ) (xs : List (List ℕ)) → chain_from in_schedule x xs ≡ true → chain in_set (those (of_table t) xs) ≡ true → chain in_set (those (of_table t) (x ∷ xs)) ≡ true
  unfolding chain those
  set_from x xs e f = go (eqb (table_id_of x) t) refl
    where
      go : (b : Bool) → eqb (table_id_of x) t ≡ b → chain in_set (cond b (x ∷ those (of_table t) xs) (those (of_table t) xs)) ≡ true
      go true z = set_behind x xs (eqb-true (table_id_of x) t z) e
      go false z = f

  set_after_lem : (x : List ℕ) (xs : List (List ℕ)) → chain_from in_schedule x xs ≡ true → chain in_set (those (of_table t) xs) ≡ true
  unfolding chain_from chain those
  set_after_lem x [] e = refl
  set_after_lem x (y ∷ ys) e = let c = (and_true (in_schedule x y) (chain_from in_schedule y ys) e).1 in set_from y ys c (set_after_lem y ys c)

  set_within_table : (xs : List (List ℕ)) → chain in_schedule xs ≡ true → chain in_set (those (of_table t) xs) ≡ true
  unfolding chain those
  set_within_table [] e = refl
  set_within_table (x ∷ xs) e = set_from x xs e (set_after_lem x xs e)

-- ---- the part of a table

module _ (s : List ℕ) (t : ℕ) where
  -- its sections are those of the schedule that are of the table
  pub table_sections : is_schedule s ≡ true → sections_in (table_in s t) ≡ those (of_table t) (sections_in s)
  unfolding table_in
  table_sections e = same_sections (those (of_table t) (sections_in s)) (every_those is_whole (of_table t) (sections_in s) (whole_in_lem (length s) s (omega arith) (schedule_laid s e).0))

  table_set : is_schedule s ≡ true → set_or_empty (table_in s t) ≡ true
  unfolding is_set joined table_in
  table_set e = go (eqb (length (table_in s t)) 0) refl
    where
      w : every is_whole (those (of_table t) (sections_in s)) ≡ true
      w = every_those is_whole (of_table t) (sections_in s) (whole_in_lem (length s) s (omega arith) (schedule_laid s e).0)

      c : chain in_set (sections_in (table_in s t)) ≡ true
      c = ap (chain in_set) (table_sections e) ∙ set_within_table t (sections_in s) (schedule_laid s e).1

      go : (b : Bool) → eqb (length (table_in s t)) 0 ≡ b → (b || is_set (table_in s t)) ≡ true
      go true z = refl
      go false z =
          let n = eqb-false (length (table_in s t)) 0 z in
          true_and (lt-ltb 0 (length (table_in s t)) (omega arith)) (true_and (laid_anew (those (of_table t) (sections_in s)) w) c)

  -- of any bytes: where they are no schedule the part is empty
  pub table_is_set : set_or_empty (table_part s t) ≡ true
  unfolding table_part
  table_is_set = go (is_schedule s) refl
    where
      go : (b : Bool) → is_schedule s ≡ b → set_or_empty (cond b (table_in s t) []) ≡ true
      go true e = table_set e
      go false e = refl
