-- What the listing of a section asks and leaves.
use Rattle.std.specs.Prelude.{ℕ, ◌+◌, ◌≤◌, ◌<◌, List, length}
use Rattle.listing.specs.Store.{put_all}
use Rattle.listing.specs.declared.Walked.{Walked}
use Rattle.listing.specs.declared.Walked.TheVariants.{Done, Past}

abbrev pub count_of : Walked → ℕ
count_of (Done count) = count
count_of (Past at count) = count

-- these entries, after k others: how many there are then, and the list
unfoldable pub listed_from : (skip k : ℕ) → (entries : List (List ℕ)) → (list : List ℕ) → ℕ × List ℕ
listed_from skip k entries list = (k + length entries, put_all list skip k entries)

-- a section that stands in bytes of that length, with k entries before it
pub record SectionIn (long start size number k : ℕ) : Type 0 where
  pub within : start + size ≤ long
  pub short : start + size < 4294967296
  pub numbered : number < 256
  pub few : k < 4294967296
