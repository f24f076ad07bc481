-- What a writer answers, and what it leaves in the room and in the memory lent for its runs (docs/RULES.md, "Logs"), for every list and content of the slices.
-- `cond test a b` is a where the test is true, else b.
-- Assumes nothing.
use Rattle.std.specs.Prelude.{ℕ, List, cond, ltb, length, Result, Ok, Err}
use Rattle.std.proofs.lemmas.List.Edits.{sets}
use Rattle.rules_logs.specs.Records.{Bytes}
use Rattle.rules_logs.specs.Sections.{Given, Listed, too_long, cut, sections, sections_in}
use Rattle.log_state.specs.State.{is_with, is_without, run_of}
use Rattle.log_state.specs.declared.Pids.TheVariants as pids
use Rattle.log_state.specs.declared.Run.{Run}
use Rattle.log_state.specs.declared.Settings.{Settings}
use Rattle.log_sections.specs.Steps.{left_by, Memory, over, memory_in, opens}
use Rattle.log_measure.specs.Measure.{log_by, fitted_in}
use Rattle.log_prepare.specs.declared.PrepareError.TheVariants as prepare
use Rattle.log_write.specs.declared.WriteError.{WriteError}
use Rattle.log_write.specs.declared.WriteError.TheVariants as error

abbrev pub error_no : WriteError → ℕ
error_no error.NoRoom = 44
error_no (error.Run prepare.TooLong) = 42
error_no (error.Run prepare.Cut) = 10
error_no (error.Run prepare.NoPid) = 41
error_no (error.Run prepare.TooLittle) = 13

-- 7 with the log's length, or the number of what is wrong
abbrev pub write_no : Result ℕ WriteError → ℕ
write_no (Ok n) = 7
write_no (Err e) = error_no e

-- no length is told
abbrev pub refused_by : WriteError → Result ℕ WriteError
refused_by e = Err e

-- the length that is told
abbrev pub length_told : Result ℕ WriteError → ℕ
length_told (Ok n) = n
length_told (Err e) = 0

-- an answer with the log's length, and the content of the slices
pub record Write : Type 0 where
  pub written : Result ℕ WriteError
  pub room : Bytes
  pub memory : Memory

abbrev pub write_as : Result ℕ WriteError → Bytes → Memory → Write
write_as r room m = record { written = r; room = room; memory = m }

-- the log of sections, of a run over this memory
abbrev pub log_over : Run → Memory → List Given → Bytes
log_over run m gs = log_by (over run m) gs

-- what a run that measures leaves
abbrev pub measured_in : Run → (room : ℕ) → Memory → List Given → Memory
measured_in run room m gs = memory_in (fitted_in room (over run m) gs)

-- the run writes the log from the start of the room on, over the memory that it was measured in
abbrev pub wrote : Run → (room : Bytes) → (size : ℕ) → Memory → List Given → Write
wrote run room size m gs = write_as (Ok size) (sets room 0 (log_over run m gs)) (memory_in (left_by (over run m) gs))

-- 44 where the log is longer than the room; else it is written
unfoldable pub ran_twice : Run → (room : Bytes) → Memory → List Given → Write
ran_twice run room m gs =
    let size : ℕ = length (log_over run m gs) in
    let after : Memory = measured_in run (length room) m gs in
    cond (ltb (length room) size) (write_as (refused_by error.NoRoom) room after) (wrote run room size after gs)

-- a writer writes with PIDs alone: any other setting is without, which is 41
abbrev pub as_writer : Settings → Settings
as_writer s =
    cond (is_with s.pids) s
    (record { capacity = s.capacity; repeats = s.repeats; rule = s.rule; limit = s.limit; size = s.size; count = s.count; pids = pids.Without })

-- 42, 10, 41, 13, then 44 or 7
abbrev pub written_by : Settings → (room : Bytes) → Memory → Listed → Write
written_by s room m too_long = write_as (refused_by (error.Run prepare.TooLong)) room m
written_by s room m cut = write_as (refused_by (error.Run prepare.Cut)) room m
written_by s room m (sections gs) =
    cond (is_without s.pids) (write_as (refused_by (error.Run prepare.NoPid)) room m)
    (cond (opens s m) (ran_twice (run_of s) room m gs) (write_as (refused_by (error.Run prepare.TooLittle)) room m))

unfoldable pub written_of : Settings → (list room : Bytes) → Memory → Write
written_of s list room m = written_by (as_writer s) room m (sections_in list)
