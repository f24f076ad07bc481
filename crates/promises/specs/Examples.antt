-- docs/RULES.md, "Examples": those marked P, in a single table. Each is an equation of the definitions that the functions are proved equal to.
-- Assumes nothing.
use Rattle.std.specs.Prelude.{ℕ, ◌-◌, ◌^◌, ◌<◌, ◌≡◌, true, List, [], ◌∷◌, map, replicate}
use Rattle.rules_shared.specs.Touch.{Entry}
use Rattle.rules_shared.specs.Cells.{Settings}
use Rattle.laws.specs.Runs.{store_after}
use Rattle.section.specs.Ids.{origin_of}
use Rattle.section.specs.Key.{key_of}
use Rattle.eit_section.specs.Segment.{segment_end}
use Rattle.pat.specs.Pat.{groups_of, program_pids, pat_of}
use Rattle.pat.specs.declared.Pat.TheVariants.{Readable}
use Rattle.ring.specs.Rules.{Row, offered_to}
use Rattle.watched.specs.Rules.{Watch}
use Rattle.counters.specs.Counters.{zeroes}
use Rattle.gate_state.specs.State.{plain, short}
use Rattle.gate.specs.Rules.{Manner, Held, tells, acts}
use Rattle.rules_sets.specs.Rules.{Key, SetRow, Call, offer, opened}
use Rattle.rules_sets.specs.Rules.{acts as collects}

-- a gate that was offered nothing yet, with any watch
abbrev pub fresh_gate : Watch → Held
fresh_gate watch = record { rows = []; counters = zeroes; watch = watch }

-- the keys that a gate of this capacity holds in the end, offered these keys one after another
abbrev pub row_of : ℕ → Row
row_of key = record { key = key; version = 0; change = 0 }

unfoldable pub held_after : (capacity : ℕ) → List ℕ → List Row → List Row
held_after capacity [] held = held
held_after capacity (key ∷ keys) held = held_after capacity keys (offered_to capacity (row_of key) held)

unfoldable pub gate_keys : (capacity : ℕ) → List ℕ → List ℕ
gate_keys capacity keys = map (λ (r : Row). r.key) (held_after capacity keys [])

-- the keys that a set collector of this limit holds in the end, the least recently touched first, given a section of each of these tables one after
-- another: section 0 of 0 and 1, so that no set is complete
abbrev pub table_key : ℕ → Key
table_key table = record { from = record { input = 0; pid = 0x12 }; table_id_of = table; extension = 1; current_next_of = true }

abbrev pub section_of : ℕ → Call
section_of table = offer (record { key = table_key table; version = 0; number = 0; last = 1; bytes = replicate 12 0 })

abbrev pub with_limit : ℕ → Settings
with_limit limit = record { limit = limit; cell_size = 4096 }

unfoldable pub collector_keys : (limit : ℕ) → List ℕ → List Key
collector_keys limit tables = map (λ (e : Entry Key SetRow). e.key) (store_after (collects (with_limit limit)) opened (map section_of tables)).rows

-- a PAT of transport stream 1: program 0 at 0x0010, program 1 at 0x0100
abbrev pub pat : List ℕ
pat =
    0x00 ∷ 0xB0 ∷ 0x11 ∷ 0x00 ∷ 0x01 ∷ 0xC1 ∷ 0x00 ∷ 0x00 ∷ 0x00 ∷ 0x00 ∷ 0xE0 ∷ 0x10 ∷ 0x00 ∷ 0x01 ∷ 0xE1 ∷ 0x00 ∷ 0x9E ∷ 0xA6 ∷ 0x64 ∷ 0x96 ∷ []

pub record CheckedExamples : Type 0 where
  -- "PID 0x12, table 0x4E, extension 1, section 0: key 2,736,146"
  pub key_small : key_of (origin_of 0 0x12) 0x4E 1 0 ≡ 2736146
  -- "the same on input 3: 105,553,119,002,642"
  pub key_input : key_of (origin_of 3 0x12) 0x4E 1 0 ≡ 105553119002642
  -- "all fields largest: 2^45 − 1"
  pub key_largest : key_of (origin_of 0 8191) 255 65535 255 ≡ 2 ^ 45 - 1
  -- "with input 15: 2^49 − 1"
  pub key_largest_input : key_of (origin_of 15 8191) 255 65535 255 ≡ 2 ^ 49 - 1
  -- "segment end (start, number, last): (8, 11, 20) 11; (8, 3, 20) 11; (16, 23, 17) 17; (248, 255, 255) 255"
  pub segment_as_sent : segment_end 8 11 20 ≡ 11
  pub segment_counted_within : segment_end 8 3 20 ≡ 11
  pub segment_past_last : segment_end 16 23 17 ≡ 17
  pub segment_at_248 : segment_end 248 255 255 ≡ 255
  -- "offering FF FF FF FF first: emitted, key with extension 0 and section 0", on any input and PID and with any settings
  pub all_ones_emitted : (m : Manner) (watch : Watch) (input pid : ℕ) → input < 16 → pid < 8192 → tells m (fresh_gate watch) (record { input = input; pid = pid; section = 0xFF ∷ 0xFF ∷ 0xFF ∷ 0xFF ∷ [] }) ≡ plain 1
  pub all_ones_key : (m : Manner) (watch : Watch) (input pid : ℕ) → input < 16 → pid < 8192
      → map (λ (r : Row). r.key) (acts m (fresh_gate watch) (record { input = input; pid = pid; section = 0xFF ∷ 0xFF ∷ 0xFF ∷ 0xFF ∷ [] })).rows ≡ key_of (origin_of input pid) 0xFF 0 0 ∷ []
  -- "02 B0 00: CRC failure": too short, 3 bytes
  pub cut_off_fails : (m : Manner) (watch : Watch) (input pid : ℕ) → input < 16 → pid < 8192 → tells m (fresh_gate watch) (record { input = input; pid = pid; section = 0x02 ∷ 0xB0 ∷ 0x00 ∷ [] }) ≡ short 3
  -- "capacity 2, keys A, B, A, C: the gate loses A"; 10, 11 and 12 stand for A, B and C
  pub gate_loses_A : gate_keys 2 (10 ∷ 11 ∷ 10 ∷ 12 ∷ []) ≡ 11 ∷ 12 ∷ []
  -- "the collector with limit 2 loses B"
  pub collector_loses_B : collector_keys 2 (10 ∷ 11 ∷ 10 ∷ 12 ∷ []) ≡ table_key 10 ∷ table_key 12 ∷ []
  -- "PAT with program 0 at 0x0010 and 1 at 0x0100: N is 0x0100"
  pub pat_readable : pat_of pat ≡ Readable
  pub pat_programs : program_pids (groups_of pat) ≡ 0x0100 ∷ []
