-- A set that goes out beside the section that was pushed (docs/RULES.md, "Collectors").
-- Assumes nothing.
use Rattle.std.specs.Prelude.{ℕ, ◌≤◌, ◌<◌, ◌≡◌, List, length, Option, Some}
use Rattle.section.specs.Header.{table_id_of, extension_of, version_of, current_next_of, last_section_number}
use Rattle.rows.specs.declared.Origin.{Origin}
use Rattle.arrivals.specs.Arrivals.{bit_of}
use Rattle.sets_settle.specs.Settle.{Handed}

-- the set has the words of the section's origin, and its table_id, extension, current_next, version and last_section_number; and the section is one that
-- completes a set
pub record AsRead (from : Origin) (bytes : List ℕ) (w : Handed) : Type 0 where
  pub same_input : w.key.from.input ≡ from.input
  pub same_pid : w.key.from.pid ≡ from.pid
  pub table : w.key.table_id ≡ table_id_of bytes
  pub extension : w.key.extension ≡ extension_of bytes
  pub current : w.key.current_next ≡ bit_of (current_next_of bytes)
  pub version : w.version ≡ version_of bytes
  pub last : w.last ≡ last_section_number bytes
  pub long : 12 ≤ length bytes

-- the section came with a PID, and the set has its input, its PID and the rest
pub record AsGiven (input : ℕ) (pid : Option ℕ) (bytes : List ℕ) (w : Handed) : Type 0 where
  pub number : ℕ
  pub with_pid : pid ≡ Some number
  pub is_pid : number < 8192
  pub is_input : input < 16
  pub read : AsRead (record { input = input; pid = number }) bytes w
