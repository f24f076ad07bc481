-- A collector's settings and counts with the content of the three lent slices, and when they are whole (docs/RULES.md, "Layouts" and "Answers").
use Rattle.std.specs.Prelude.{ℕ, ◌+◌, ◌*◌, ◌≤◌, ◌≡◌, List, Bool, true, ◌&&◌, ◌||◌, length, leb, eqb}
use Rattle.rows.specs.Rows.{rows_whole}
use Rattle.store.specs.declared.Sets.{Sets}

pub record Store : Type 0 where
  pub sets : Sets
  pub heads : List ℕ
  pub slots : List ℕ
  pub cells : List ℕ

abbrev pub store : Sets → List ℕ → List ℕ → List ℕ → Store
store sets heads slots cells = record { sets = sets; heads = heads; slots = slots; cells = cells }

-- a collector as it is asked for at opening: no rows, counts 0
abbrev pub asked : ℕ → ℕ → ℕ → Sets
asked limit size count = record { limit = limit; size = size; count = count; used = 0; evictions = 0; clock = 0 }

-- no rows; "not the eviction counts", nor the clock
abbrev pub empty_sets : Sets → Sets
empty_sets s = record { limit = s.limit; size = s.size; count = s.count; used = 0; evictions = s.evictions; clock = s.clock }

-- one touch more
abbrev pub risen_sets : Sets → Sets
risen_sets s = record { limit = s.limit; size = s.size; count = s.count; used = s.used; evictions = s.evictions; clock = s.clock + 1 }

-- 11: a count at its end, the evictions or the clock
abbrev pub counters_full : Sets → Bool
counters_full s = eqb s.evictions 18446744073709551615 || eqb s.clock 18446744073709551615

-- 13: the settings are in range, and the lent slices are long enough for them
abbrev pub settings_fit : Sets → ℕ → ℕ → ℕ → Bool
settings_fit s heads slots cells =
    leb 12 s.size && leb s.size 4096 && leb s.count 65535
    && leb (s.limit * 12) heads && leb (s.limit * 288) slots && leb (s.count * s.size) cells

-- 10: settings that opening takes, no more rows in use than the limit, and every slot of a row in use whole
unfoldable pub whole_of : Store → Bool
whole_of s =
    settings_fit s.sets (length s.heads) (length s.slots) (length s.cells)
    && leb s.sets.used s.sets.limit
    && rows_whole s.heads s.slots s.sets.count s.sets.size s.sets.used

-- a store that is whole, as orders of numbers
pub record Whole (s : Sets) (heads slots cells : List ℕ) : Type 0 where
  pub size_low : 12 ≤ s.size
  pub size_high : s.size ≤ 4096
  pub few : s.count ≤ 65535
  pub used : s.used ≤ s.limit
  pub heads_long : s.limit * 12 ≤ length heads
  pub slots_long : s.limit * 288 ≤ length slots
  pub cells_long : s.count * s.size ≤ length cells
  pub rows : rows_whole heads slots s.count s.size s.used ≡ true

abbrev pub WholeStore : Store → Type 0
WholeStore s = Whole s.sets s.heads s.slots s.cells
