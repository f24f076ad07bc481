-- What a section that is judged adds to the seven counters (docs/RULES.md, "Gate"). `cond test a b` is a where the test is true, else b.
use Rattle.std.specs.Prelude.{ℕ, ◌+◌, ◌^◌, ◌<◌, Bool, true, cond, not, ◌||◌, eqb}
use Rattle.counters.specs.declared.Counters.{Counters}

-- completed, emitted, suppressed, CRC failures; of these too short and mismatches; evictions
abbrev pub counts : ℕ → ℕ → ℕ → ℕ → ℕ → ℕ → ℕ → Counters
counts completed emitted suppressed failures short mismatches evictions =
    record {
      completed = completed;
      emitted = emitted;
      suppressed = suppressed;
      crc_failures = failures;
      short_sections = short;
      crc_mismatches = mismatches;
      evictions = evictions;
    }

-- a fresh record
abbrev pub zeroes : Counters
zeroes = counts 0 0 0 0 0 0 0

abbrev pub is_full : ℕ → Bool
is_full n = eqb n 18446744073709551615

-- 11: a counter is at 2^64 - 1
abbrev pub any_full : Counters → Bool
any_full c =
    is_full c.completed || is_full c.emitted || is_full c.suppressed || is_full c.crc_failures || is_full c.short_sections
    || is_full c.crc_mismatches || is_full c.evictions

-- one more of each fits
pub record CanCount (c : Counters) : Type 0 where
  pub completed : c.completed + 1 < 2 ^ 64
  pub emitted : c.emitted + 1 < 2 ^ 64
  pub suppressed : c.suppressed + 1 < 2 ^ 64
  pub failures : c.crc_failures + 1 < 2 ^ 64
  pub short : c.short_sections + 1 < 2 ^ 64
  pub mismatches : c.crc_mismatches + 1 < 2 ^ 64
  pub evictions : c.evictions + 1 < 2 ^ 64

-- one more where the test is true
abbrev pub plus_of : ℕ → Bool → ℕ
plus_of n more = cond more (n + 1) n

-- after a section that passed its CRC
abbrev pub counted_of : Counters → Bool → Bool → Counters
counted_of c emitted evicted =
    counts (plus_of c.completed true) (plus_of c.emitted emitted) (plus_of c.suppressed (not emitted)) c.crc_failures
    c.short_sections c.crc_mismatches (plus_of c.evictions evicted)

-- after a section that did not: completed, CRC failures and, of these, too short or mismatches; and nothing else
abbrev pub failed_of : Counters → (short : Bool) → Counters
failed_of c short =
    counts (plus_of c.completed true) c.emitted c.suppressed (plus_of c.crc_failures true)
    (plus_of c.short_sections short) (plus_of c.crc_mismatches (not short)) c.evictions
