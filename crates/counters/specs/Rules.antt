-- What the counters are for (docs/RULES.md, "Gate"): each of emitted, suppressed, too short (31) and mismatches (3) is the number of offers given that
-- answer, CRC failures is the sum of the last two, and completed of all. Of what is counted only the numbers of the answers are to be known.
use Rattle.std.specs.Prelude.{ℕ, suc, ◌+◌, ◌≡◌, List, [], ◌∷◌, cond, eqb}
use Rattle.counters.specs.declared.Counters.{Counters}

-- how many answers have this number
abbrev pub count_of : ℕ → List ℕ → ℕ
count_of n [] = 0
count_of n (a ∷ as') = cond (eqb a n) (suc (count_of n as')) (count_of n as')

-- how many sections failed their CRC
abbrev pub failures_in : List ℕ → ℕ
failures_in as' = count_of 31 as' + count_of 3 as'

-- how many sections were judged
abbrev pub judged_in : List ℕ → ℕ
judged_in as' = count_of 1 as' + count_of 2 as' + failures_in as'

-- from the record c, calls with these answers lead to the record d
pub record Sums (as' : List ℕ) (c d : Counters) : Type 0 where
  pub emitted : d.emitted ≡ c.emitted + count_of 1 as'
  pub suppressed : d.suppressed ≡ c.suppressed + count_of 2 as'
  pub short : d.short_sections ≡ c.short_sections + count_of 31 as'
  pub mismatches : d.crc_mismatches ≡ c.crc_mismatches + count_of 3 as'
  pub failures : d.crc_failures ≡ c.crc_failures + failures_in as'
  pub completed : d.completed ≡ c.completed + judged_in as'

-- one call with this answer
abbrev pub Counts : ℕ → Counters → Counters → Type 0
Counts a c d = Sums (a ∷ []) c d
