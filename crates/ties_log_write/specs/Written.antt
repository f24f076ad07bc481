-- A log in the room that was lent for it (docs/RULES.md, "Logs").
-- Assumes nothing.
use Rattle.std.specs.Prelude.{◌≡◌, length, take, drop}
use Rattle.rules_logs.specs.Records.{Bytes}
use Rattle.log_write.specs.Write.{Write, write_no, length_told}

-- 7 with the log's length: the first bytes of the room are the log, and the rest is as before
pub record Holds (log room : Bytes) (w : Write) : Type 0 where
  pub answer : write_no w.written ≡ 7
  pub told : length_told w.written ≡ length log
  pub first : take (length_told w.written) w.room ≡ log
  pub rest : drop (length_told w.written) w.room ≡ drop (length log) room

-- 44: the room is as before
pub record Refuses (room : Bytes) (w : Write) : Type 0 where
  pub answer : write_no w.written ≡ 44
  pub kept : w.room ≡ room
