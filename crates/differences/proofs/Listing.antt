-- The loop that lists the entries of two sides: what is left of the list at each turn.
-- Assumes nothing.
use mathlib.Core.Path.{◌≡◌, refl, sym, ap, ◌∙◌}
use mathlib.Core.Logic.{⊎_elim}
use mathlib.Core.Bool.{Bool, true, false, ◌||◌}
use mathlib.Core.List.{List, [], ◌∷◌, ◌++◌}
use Prim.Native.Nat.{ℕ, suc, ◌+◌, ◌*◌, ◌/◌, ◌%◌, ◌≤◌, ◌<◌, min}
use native.Mathlib.Nat.{add-zero, zero-add, add_assoc}
use native.Mathlib.Omega.{arith}
use lib.ListN.{length, set, length-append}
use lib.Seq.{sets, set_out}
use lib.Dec.{ltb}
use borrow.Author.Tests.{eq-eqb, ne_eqb, ltb-true, ltb-false}
use Rattle.laws.proofs.Tests.{lt_or_le, or_false}
use Rattle.laws.proofs.Writes.{sets_append}
use Rattle.laid.specs.Laid.{chain}
use Rattle.laid.specs.Walk.{LaidFrom, from, head_rank, head_if, tail_if, RankAt}
use Rattle.laid.proofs.Walks.{next_held, held_least, none_left}
use Rattle.differences.specs.Rules.{Entry, entry_of}
use Rattle.differences.specs.Walk.{difference_of, words_of, entry_words, rises, Ranked, all_differences, all_words}
use Rattle.differences.specs.declared.Difference.{Difference}
use Rattle.differences.proofs.Held.{all_turn, all_none, rest_rises}

-- ---- words

pub words_append : (es fs : List Entry) → words_of (es ++ fs) ≡ words_of es ++ words_of fs
unfolding words_of
words_append [] fs = refl
words_append (e ∷ es) fs = ap (λ (l : List ℕ). e.table ∷ e.number ∷ e.kind ∷ e.place ∷ l) (words_append es fs)

pub words_none : (list : List ℕ) (rank at : ℕ) (d : Difference) → d.kind ≡ 0 → list ≡ sets list at (entry_words rank d)
unfolding words_of
words_none list rank at d z = rw (eq-eqb d.kind 0 z)

pub count_none : (rank at : ℕ) (d : Difference) → d.kind ≡ 0 → at ≡ at + length (entry_words rank d)
unfolding words_of
count_none rank at d z = rw (eq-eqb d.kind 0 z) (sym (add-zero at))

pub count_some : (rank at : ℕ) (d : Difference) → (d.kind ≡ 0 → ⊥) → at + 4 ≡ at + length (entry_words rank d)
unfolding words_of
count_some rank at d z = rw (ne_eqb d.kind 0 z)

pub words_some : (l m n o p : List ℕ) (rank at : ℕ) (d : Difference) → (d.kind ≡ 0 → ⊥) → m ≡ set l at (rank / 256) → n ≡ set m (at + 1) (rank % 256) → o ≡ set n (at + 2) d.kind
    → p ≡ set o (at + 3) d.place → p ≡ sets l at (entry_words rank d)
unfolding words_of
words_some l m n o p rank at d z a b c e =
    let x : suc at ≡ at + 1 = omega arith in
    let y : suc (at + 1) ≡ at + 2 = omega arith in
    let w : suc (at + 2) ≡ at + 3 = omega arith in
    rw (ne_eqb d.kind 0 z, x, y, w, e, c, b, a)

pub put_out : (l : List ℕ) (k v : ℕ) → length l ≤ k → l ≡ set l k v
put_out l k v h = sym (set_out l k v h)

-- four an entry
pub words_four : (es : List Entry) → length (words_of es) ≡ length es * 4
unfolding words_of
words_four [] = refl
words_four (e ∷ es) = let h = words_four es in omega arith

pub counted : (es : List Entry) (n : ℕ) → n ≡ length (words_of es) → n / 4 ≡ length es
counted es n e = let h = e ∙ words_four es in omega arith

-- ---- the loop

pub record Listing (a b list₀ : List ℕ) (i j : ℕ) (list : List ℕ) (at : ℕ) : Type 0 where
  pub first : LaidFrom a i
  pub second : LaidFrom b j
  pub first_rises : chain rises (from a i) ≡ true
  pub second_rises : chain rises (from b j) ≡ true
  pub few : 3 * at ≤ i + j
  pub count : length (all_words a b) ≡ at + length (words_of (all_differences (from a i) (from b j)))
  pub words : sets list₀ 0 (all_words a b) ≡ sets list at (words_of (all_differences (from a i) (from b j)))

pub listing_starts : (a b list : List ℕ) → Ranked a → Ranked b → Listing a b list 0 0 list 0
listing_starts a b list p q = record {
  first = record { fits = omega arith; whole = p.laid };
  second = record { fits = omega arith; whole = q.laid };
  first_rises = p.rising;
  second_rises = q.rising;
  few = omega arith;
  count = sym (zero-add (length (all_words a b)));
  words = refl;
}

module _ (a b list₀ : List ℕ) (i j : ℕ) (list : List ℕ) (at : ℕ) (k : Listing a b list₀ i j list at) where
  module _ (p q n : ℕ) (x y : List ℕ) (t : (ltb i (length a) || ltb j (length b)) ≡ true) (ep : RankAt a i p) (eq : RankAt b j q) (en : n ≡ min p q)
      (ex : x ≡ head_if n (from a i)) (ey : y ≡ head_if n (from b j)) where
    low : n < 65536
    low = go (ltb i (length a)) refl t
      where
        go : (c : Bool) → ltb i (length a) ≡ c → (c || ltb j (length b)) ≡ true → n < 65536
        go true z u = let h = ep.some (ltb-true i (length a) z) in omega arith
        go false z u = let h = eq.some (ltb-true j (length b) u) in omega arith

    pub rank_low : n < 65536
    rank_low = low

    below_first : n ≤ head_rank (from a i)
    below_first = rw (← ep.exact) (omega arith)

    below_second : n ≤ head_rank (from b j)
    below_second = rw (← eq.exact) (omega arith)

    -- one of them is there
    pub moves : 12 ≤ length x + length y
    moves = ⊎_elim
        (λ (h : p < q). let z : n ≡ p = omega arith in let l : 12 ≤ length x = rw ex (held_least a i k.first n (z ∙ ep.exact) low) in omega arith)
        (λ (h : q ≤ p). let z : n ≡ q = omega arith in let l : 12 ≤ length y = rw ey (held_least b j k.second n (z ∙ eq.exact) low) in omega arith)
        (lt_or_le p q)

    pub first_fits : i + length x ≤ length a
    first_fits = rw ex (next_held a i k.first n).0.fits

    pub second_fits : j + length y ≤ length b
    second_fits = rw ey (next_held b j k.second n).0.fits

    module _ (d : Difference) (r : ℕ) (l : List ℕ) (ed : d ≡ difference_of x y) (er : r ≡ at + length (entry_words n d)) (rm : r ≤ at + 4) (el : l ≡ sets list at (entry_words n d)) where
      here : entry_words n d ≡ words_of (entry_of n (head_if n (from a i)) (head_if n (from b j)))
      here = rw (ed, ex, ey)

      split : words_of (all_differences (from a i) (from b j)) ≡ entry_words n d ++ words_of (all_differences (from a (i + length x)) (from b (j + length y)))
      split =
          ap words_of (all_turn (from a i) (from b j) n k.first_rises k.second_rises below_first below_second low)
          ∙ words_append (entry_of n (head_if n (from a i)) (head_if n (from b j))) (all_differences (tail_if n (from a i)) (tail_if n (from b j)))
          ∙ rw (here, ex, ey, (next_held a i k.first n).1, (next_held b j k.second n).1)

      pub listing_turn : Listing a b list₀ (i + length x) (j + length y) l r
      listing_turn = record {
        first = rw ex (next_held a i k.first n).0;
        second = rw ey (next_held b j k.second n).0;
        first_rises = rw (ex, (next_held a i k.first n).1) (rest_rises n (from a i) k.first_rises);
        second_rises = rw (ey, (next_held b j k.second n).1) (rest_rises n (from b j) k.second_rises);
        few = let m = moves in let f = k.few in omega arith;
        count = k.count ∙ rw (split, length-append, er) (sym (add_assoc at (length (entry_words n d)) _));
        words = k.words ∙ rw (split, sets_append, ← el, ← er);
      }

  module _ (t : (ltb i (length a) || ltb j (length b)) ≡ false) where
    left_none : words_of (all_differences (from a i) (from b j)) ≡ []
    unfolding words_of
    left_none =
        let c = or_false (ltb i (length a)) (ltb j (length b)) t in
        rw (none_left a i k.first (ltb-false i (length a) c.0), none_left b j k.second (ltb-false j (length b) c.1), all_none)

    pub listing_count : at ≡ length (all_words a b)
    listing_count = sym (k.count ∙ rw left_none (add-zero at))

    pub listing_words : list ≡ sets list₀ 0 (all_words a b)
    listing_words = sym (k.words ∙ rw left_none)
