-- What the packet layer has and answers without its slices (docs/RULES.md, "Packets" and "Answers"). `cond test a b` is a where the test is true, else b.
use Rattle.std.specs.Prelude.{ℕ, ◌+◌, ◌^◌, ◌<◌, Bool, ◌||◌, leb}
use Rattle.answers.specs.Answers.{refusal_no}
use Rattle.counters.specs.declared.Counters.{Counters}
use Rattle.gate_state.specs.declared.Gate.{Gate}
use Rattle.streams.specs.declared.Streams.{Streams}
use Rattle.demux_state.specs.declared.Answer.{Answer}
use Rattle.demux_state.specs.declared.Answer.TheVariants.{Taken, Malformed, NoBuffer, Refused}
use Rattle.demux_state.specs.declared.Fed.{Fed}

-- an answer as the table has it: its number, and with 29 how many sections were finished
pub data Said : Type 0 where
  plain : (number : ℕ) → Said
  -- 29
  finished : (sections : ℕ) → Said

abbrev pub number_of : Said → ℕ
number_of (plain n) = n
number_of (finished n) = 29

abbrev pub finished_of : Said → ℕ
finished_of (plain n) = 0
finished_of (finished n) = n

abbrev pub said_of : Answer → Said
said_of (Taken n) = finished n
said_of Malformed = plain 30
said_of NoBuffer = plain 43
said_of (Refused r) = plain (refusal_no r)

abbrev pub fed_with : Answer → Gate → Counters → Streams → Fed
fed_with a g c s = record { answer = a; gate = g; counters = c; streams = s }

-- ---- 11

-- within 64 of the end: 2^64 - 1 less the number is at most 64
abbrev pub is_near : ℕ → Bool
is_near n = leb 18446744073709551551 n

-- of the gate's counters
abbrev pub any_near : Counters → Bool
any_near c =
    is_near c.completed || is_near c.emitted || is_near c.suppressed || is_near c.crc_failures || is_near c.short_sections
    || is_near c.crc_mismatches || is_near c.evictions

-- these, the two of the streams, and that of the PAT store
abbrev pub near_end : Counters → Streams → (pats : ℕ) → Bool
near_end c s pats = any_near c || is_near s.packets || is_near s.malformed || is_near pats

-- k more of each of the gate's counters fit
pub record Spare (k : ℕ) (c : Counters) : Type 0 where
  pub completed : c.completed + k < 2 ^ 64
  pub emitted : c.emitted + k < 2 ^ 64
  pub suppressed : c.suppressed + k < 2 ^ 64
  pub failures : c.crc_failures + k < 2 ^ 64
  pub short : c.short_sections + k < 2 ^ 64
  pub mismatches : c.crc_mismatches + k < 2 ^ 64
  pub evictions : c.evictions + k < 2 ^ 64

-- one more packet fits, malformed or not
pub record CanFeed (s : Streams) : Type 0 where
  pub packets : s.packets + 1 < 2 ^ 64
  pub malformed : s.malformed + 1 < 2 ^ 64

pub record Spares (c : Counters) (s : Streams) (pats : ℕ) : Type 0 where
  pub gate : Spare 64 c
  pub streams : CanFeed s
  pub sets : pats + 64 < 2 ^ 64

-- ---- the counts of a packet

abbrev pub packet_counted : Streams → Streams
packet_counted s = record { count = s.count; packets = s.packets + 1; malformed = s.malformed }

abbrev pub malformed_counted : Streams → Streams
malformed_counted s = record { count = s.count; packets = s.packets + 1; malformed = s.malformed + 1 }
