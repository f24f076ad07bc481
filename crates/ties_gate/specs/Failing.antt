-- Which sections fail their CRC, and by what (docs/RULES.md, "Gate").
use Rattle.std.specs.Prelude.{ℕ, ◌<◌, ◌≡◌, List, Bool, true, false, ◌&&◌, ◌||◌, length, ltb, eqb}
use Rattle.section.specs.Header.{table_id_of, long_form}
use Rattle.counters.specs.Counters.{any_full}
use Rattle.gate.specs.Store.{is_whole, Store}

-- a section that ends in a CRC: the long form, and the time offset table
abbrev pub announces : List ℕ → Bool
announces s = long_form s || eqb (table_id_of s) 0x73

-- too short to hold its CRC, or under 3 bytes
abbrev pub is_too_short : List ℕ → Bool
is_too_short s = ltb (length s) 3 || (ltb (length s) 4 && announces s)

-- neither 10 nor 11 nor 12 nor 37: the section is judged
pub record Judges (s : Store) (input pid : ℕ) : Type 0 where
  pub whole : is_whole s ≡ true
  pub counts : any_full s.counters ≡ false
  pub known : pid < 8192
  pub placed : input < 16
