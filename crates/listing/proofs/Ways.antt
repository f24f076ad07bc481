-- One law for each way out of the two readers, and of what they put into the list.
-- Assumes nothing.
use mathlib.Core.Path.{◌≡◌, sym, ◌∙◌}
use Prim.Native.Nat.{ℕ, ◌+◌, ◌*◌, ◌/◌, ◌≤◌, ◌<◌, ◌-◌}
use native.Mathlib.Nat.{add-zero, add_assoc}
use native.Mathlib.Omega.{arith}
use mathlib.Core.List.{List}
use lib.ListN.{length, get_or, take, drop, length-drop}
use lib.Seq.{drop-drop, get_or-drop, get_or-take, length-take-le, paste}
use borrow.Author.Tests.{lt-ltb, le-ltb}
use Rattle.laws.specs.Entries.{counted}
use Rattle.entry_words.specs.Words.{entry_words, descriptor_words}
use Rattle.listing.specs.declared.Loop.{Loop}
use Rattle.listing.specs.declared.Walked.TheVariants.{Done, Past}
use Rattle.listing.specs.Store.{Found, done, past, found_from, put_in, put_all, words_of, end_of, listing}
use Rattle.listing.proofs.Walk.{walk_end, walk_short, walk_past, walk_entry, walk_one, walk_over, walk_descriptor}

module _ (of : Loop) (s : List ℕ) (at : ℕ) (list : List ℕ) (k : ℕ) where
  -- what is found decides
  by_found : (left : ℕ) (f : Found) → found_from of.header s at left ≡ f → listing of s at left list k ≡ (end_of k f, put_all list of.skip k (words_of of.network of.number f))
  unfolding listing
  by_found left f e = rw e

  left_is : length (drop at s) ≡ length s - at
  left_is = length-drop at s

  stops : (left p : ℕ) → found_from of.header s at left ≡ past p → listing of s at left list k ≡ (Past p k, list)
  unfolding end_of put_all words_of
  stops left p e = by_found left (past p) e

  pub entries_end : length s ≤ at → listing of s at 0 list k ≡ (Done k, list)
  unfolding found_from end_of put_all words_of
  entries_end h = by_found 0 done (walk_end of.header (drop at s) at (omega (arith, left_is)))

  pub entries_short : at < length s → length s - at < of.header → listing of s at 0 list k ≡ (Past at k, list)
  unfolding found_from
  entries_short h l = stops 0 at (walk_short of.header (drop at s) at (omega (arith, left_is)) (omega (arith, left_is)))

  pub entries_past : at < length s → of.header ≤ length s - at → length s - at - of.header < counted of.header (drop at s) → listing of s at 0 list k ≡ (Past at k, list)
  unfolding found_from
  entries_past z h m = stops 0 at (walk_past of.header (drop at s) at (omega (arith, left_is)) (omega (arith, left_is)) (omega (arith, left_is)))

  pub entries_more : 1 ≤ of.header → of.header ≤ length s - at → counted of.header (drop at s) ≤ length s - at - of.header
      → listing of s at 0 list k
      ≡ listing of s (at + of.header) (counted of.header (drop at s)) (put_in list of.skip k (entry_words of.network of.number at (take of.header (drop at s)))) (k + 1)
  unfolding found_from listing end_of put_all words_of
  entries_more z h m = rw (walk_entry of.header (drop at s) at z (omega (arith, left_is)) (omega (arith, left_is)), drop-drop of.header at s)

  pub descriptors_one : at + 1 ≤ length s → listing of s at 1 list k ≡ (Past at k, list)
  unfolding found_from
  descriptors_one h = stops 1 at (walk_one of.header (drop at s) at (omega (arith, left_is)))

  module _ (left size : ℕ) (e : size ≡ get_or s (at + 1) 0) (h : 2 ≤ left) (l : at + left ≤ length s) where
    size_is : get_or (drop at s) 1 0 ≡ size
    size_is = get_or-drop at s 1 0 ∙ sym e

    pub descriptors_past : left - 2 < size → listing of s at left list k ≡ (Past at k, list)
    unfolding found_from
    descriptors_past m = stops left at (walk_over of.header (drop at s) left at h (omega (arith, left_is)) (omega (arith, size_is)))

    pub descriptors_more : size ≤ left - 2
        → listing of s at left list k
        ≡ listing of s (at + 2 + size) (left - 2 - size) (put_in list of.skip k (descriptor_words of.number at (get_or s at 0) (get_or s (at + 1) 0))) (k + 1)
    unfolding found_from listing end_of put_all words_of
    descriptors_more m =
        rw (walk_descriptor of.header (drop at s) left at h (omega (arith, left_is)) (omega (arith, size_is)), size_is, get_or-drop at s 0 0, add-zero, ← e, drop-drop (2 + size) at s, add_assoc)

-- the three ways of an entry into the list
module _ (list : List ℕ) (skip k : ℕ) (words : List ℕ) where
  pub put_before : k < skip → list ≡ put_in list skip k words
  unfolding put_in
  put_before h = simp (lt-ltb k skip h)

  pub put_none : skip ≤ k → length list / 12 ≤ k - skip → list ≡ put_in list skip k words
  unfolding put_in
  put_none h l = simp (le-ltb k skip h, le-ltb (k - skip) (length list / 12) l)

  pub put_room : skip ≤ k → k - skip < length list / 12 → paste list ((k - skip) * 12) words 12 ≡ put_in list skip k words
  unfolding put_in
  put_room h l = simp (le-ltb k skip h, lt-ltb (k - skip) (length list / 12) l)

-- the part `&s[at..at + n]`
module _ (s : List ℕ) (at n : ℕ) (l : at + n ≤ length s) where
  pub part_is : take (at + n - at) (drop at s) ≡ take n (drop at s)
  part_is = let e : at + n - at ≡ n = omega arith in rw e

  part_long : length (take n (drop at s)) ≡ n
  part_long = length-take-le n (drop at s) (simp length-drop (omega arith))

  pub count_read_lem : 2 ≤ n → (r : ℕ) → r ≡ counted (length (take (at + n - at) (drop at s))) (take (at + n - at) (drop at s)) → r ≡ counted n (drop at s)
  count_read_lem h r e =
      e ∙ rw (part_is, part_long, get_or-take n (drop at s) (n - 2) 0 (omega arith), get_or-take n (drop at s) (n - 1) 0 (omega arith))

  pub entry_put : (list l : List ℕ) (skip k network number : ℕ) (words : List ℕ) → words ≡ entry_words network number at (take (at + n - at) (drop at s)) → l ≡ put_in list skip k words
      → l ≡ put_in list skip k (entry_words network number at (take n (drop at s)))
  entry_put list l skip k network number words e f = f ∙ rw (e, part_is)

pub descriptor_put : (list l : List ℕ) (skip k number at tag size : ℕ) (words : List ℕ) → words ≡ descriptor_words number at tag size → l ≡ put_in list skip k words → l ≡ put_in list skip k (descriptor_words number at tag size)
descriptor_put list l skip k number at tag size words e f = f ∙ rw e
