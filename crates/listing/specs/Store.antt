-- The walk of the two readers over a loop's bytes, for every content, and what it leaves in the lent list.
-- `cond test a b` is a where the test is true, else b.
use Rattle.std.specs.Prelude.{ℕ, zero, suc, ◌+◌, ◌*◌, ◌/◌, ◌-◌, ◌≤◌, ◌<◌, List, [], ◌∷◌, cond, length, get_or, take, drop, ltb}
use Rattle.std.proofs.Math.Seq.{paste}
use Rattle.laws.specs.Entries.{counted}
use Rattle.entry_words.specs.Words.{entry_words, descriptor_words}
use Rattle.listing.specs.declared.Loop.{Loop}
use Rattle.listing.specs.declared.Walked.{Walked}
use Rattle.listing.specs.declared.Walked.TheVariants.{Done, Past}

-- ---- what the readers find: entries by their header's bytes and descriptors by tag and length, each with its place, to the end or to the one that runs past its loop

pub data Found : Type 0 where
  done : Found
  past : (at : ℕ) → Found
  entry : (at : ℕ) → (header : List ℕ) → Found → Found
  descriptor : (at tag size : ℕ) → Found → Found

-- headers have n bytes; the bytes from place `at` on, of which `pass` are passed over, and then `left` are bytes of descriptors; where none are left, an entry stands there
unfoldable pub walk : (n : ℕ) → List ℕ → (pass left at : ℕ) → Found
walk n [] pass left at = done
walk n (b ∷ t) (suc pass) left at = walk n t pass left (suc at)
walk n (b ∷ t) zero zero at =
    cond (ltb (length (b ∷ t)) n) (past at)
    (cond (ltb (length (b ∷ t) - n) (counted n (b ∷ t))) (past at)
    (entry at (take n (b ∷ t)) (walk n t (n - 1) (counted n (b ∷ t)) (suc at))))
walk n (b ∷ t) zero (suc left) at =
    cond (ltb (suc left) 2) (past at)
    (cond (ltb (suc left - 2) (get_or t 0 0)) (past at)
    (descriptor at b (get_or t 0 0) (walk n t (1 + get_or t 0 0) (suc left - 2 - get_or t 0 0) (suc at))))

-- from place `at` of s on
unfoldable pub found_from : (n : ℕ) → (s : List ℕ) → (at left : ℕ) → Found
found_from n s at left = walk n (drop at s) 0 left at

-- ---- the list: a window on all entries

-- entry k in a list that passes over the first `skip`: its words, where there is room for them
unfoldable pub put_in : (list : List ℕ) → (skip k : ℕ) → (words : List ℕ) → List ℕ
put_in list skip k words = cond (ltb k skip) list (cond (ltb (k - skip) (length list / 12)) (paste list ((k - skip) * 12) words 12) list)

-- entries from k on
unfoldable pub put_all : (list : List ℕ) → (skip k : ℕ) → (entries : List (List ℕ)) → List ℕ
put_all list skip k [] = list
put_all list skip k (words ∷ entries) = put_all (put_in list skip k words) skip (k + 1) entries

-- ---- what the readers answer and leave

-- the words of all that was found
unfoldable pub words_of : (network number : ℕ) → Found → List (List ℕ)
words_of network number done = []
words_of network number (past at) = []
words_of network number (entry at header f) = entry_words network number at header ∷ words_of network number f
words_of network number (descriptor at tag size f) = descriptor_words number at tag size ∷ words_of network number f

-- how it ended, with k entries before it
unfoldable pub end_of : (k : ℕ) → Found → Walked
end_of k done = Done k
end_of k (past at) = Past at k
end_of k (entry at header f) = end_of (k + 1) f
end_of k (descriptor at tag size f) = end_of (k + 1) f

unfoldable pub listing : Loop → (s : List ℕ) → (at left : ℕ) → (list : List ℕ) → (k : ℕ) → Walked × List ℕ
listing of s at left list k = (end_of k (found_from of.header s at left), put_all list of.skip k (words_of of.network of.number (found_from of.header s at left)))

-- what the readers ask: a header with room for its count, places that are numbers of 32 bits, and a count that cannot run over
pub record Sound (of : Loop) (size at k : ℕ) : Type 0 where
  pub header : 4 ≤ of.header
  pub small : of.header < 256
  pub within : at ≤ size
  pub short : size < 4294967296
  pub few : k + (size - at) < 18446744073709551616
