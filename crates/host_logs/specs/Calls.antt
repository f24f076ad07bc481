-- What the calls on logs answer and leave in what a host lends (docs/RULES.md, "Logs"): what log_check/specs/Check.antt and log_write/specs/Write.antt say, with the settings that seven words are.
-- `cond test a b` is a where the test is true, else b.
-- Assumes nothing.
use Rattle.std.specs.Prelude.{ℕ, List}
use Rattle.log_sections.specs.Steps.{Memory}
use Rattle.log_check.specs.Check.{Check, check_no, checked_of}
use Rattle.log_write.specs.Write.{Write, write_no, written_of}
use Rattle.host_log_words.specs.Words.{settings_of, place_after, length_after}

-- an answer, the word of the place, and the content of the memory of the run
pub record CheckLeft : Type 0 where
  pub answer : ℕ
  pub place : List ℕ
  pub memory : Memory

abbrev pub check_left : ℕ → List ℕ → Memory → CheckLeft
check_left answer place memory = record { answer = answer; place = place; memory = memory }

abbrev pub check_handed : Check → List ℕ → CheckLeft
check_handed c w = check_left (check_no c.checked) (place_after c.checked w) c.memory

unfoldable pub log_checked : (settings sections log : List ℕ) → Memory → (place : List ℕ) → CheckLeft
log_checked settings sections log m w = check_handed (checked_of (settings_of settings) sections log m) w

-- ---- a log written

-- an answer, the word of the length, the room, and the content of the memory of the run
pub record WriteLeft : Type 0 where
  pub answer : ℕ
  pub length : List ℕ
  pub room : List ℕ
  pub memory : Memory

abbrev pub write_left : ℕ → List ℕ → List ℕ → Memory → WriteLeft
write_left answer length room memory = record { answer = answer; length = length; room = room; memory = memory }

abbrev pub write_handed : Write → List ℕ → WriteLeft
write_handed t w = write_left (write_no t.written) (length_after t.written w) t.room t.memory

unfoldable pub log_written : (settings sections room : List ℕ) → Memory → (length : List ℕ) → WriteLeft
log_written settings sections room m w = write_handed (written_of (settings_of settings) sections room m) w
