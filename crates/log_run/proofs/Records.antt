-- What a section gives are records, at most 23 bytes of them.
-- Assumes nothing.
use Prim.Native.Nat.{ℕ, ◌≤◌}
use lib.ListN.{length}
use lib.ListN.{length-append}
use native.Mathlib.Omega.{arith}
use Rattle.ring.specs.Store.{stamp_of, seen_of}
use Rattle.ring.specs.declared.Seen.{Seen}
use Rattle.sets_settle.specs.Settle.{Told}
use Rattle.rules_logs.specs.Records.{Bytes, seen_record, failed_record}
use Rattle.rules_logs.specs.Verdict.{log_of, AllRecords}
use Rattle.log_steps.specs.Steps.{from_for, gathered_of, seen_kind, set_records}
use Rattle.log_steps.proofs.Records.{seen_13, sets_small, seen_is_record, failed_is_record, sets_are_records}
use Rattle.log_state.specs.State.{is_with, Lent, sets_in, ruling_of}
use Rattle.std.specs.Prelude.{Result, Ok, Err}
use Rattle.log_state.specs.declared.TakeError.{TakeError}
use Rattle.log_state.specs.declared.Ruling.{Ruling}
use Rattle.log_state.specs.declared.Ruling.TheVariants as ruling
use Rattle.log_run.specs.Store.{seen_in, ruled, taking}

module _ (s : Lent) (input pid : ℕ) (section : Bytes) where
  pub are_records : AllRecords (taking s input pid section).records
  unfolding taking ruled seen_in
  are_records = go (ruling_of s input pid section)
    where
      go : (r : Result Ruling TakeError) → AllRecords (ruled s input pid section r).records
      go (Err a) = tt
      go (Ok (ruling.Failed short)) = (failed_is_record short input pid (length section), tt)
      go (Ok (ruling.Arrived x)) =
          let seen : Seen = seen_of s.run.ring s.keys s.changes x.key (stamp_of x.parts.version x.parts.change) in
          let told : Told = (gathered_of (sets_in s) (from_for (is_with s.run.pids) input pid) section).told in
          (seen_is_record seen.changed s.run.repeats input pid x.parts, sets_are_records (is_with s.run.pids) input pid section told)

  pub entry_fits : length (log_of (taking s input pid section).records) ≤ 23
  unfolding taking ruled seen_in log_of failed_record
  entry_fits = go (ruling_of s input pid section)
    where
      go : (r : Result Ruling TakeError) → length (log_of (ruled s input pid section r).records) ≤ 23
      go (Err a) = omega arith
      go (Ok (ruling.Failed short)) = omega arith
      go (Ok (ruling.Arrived x)) =
          let seen : Seen = seen_of s.run.ring s.keys s.changes x.key (stamp_of x.parts.version x.parts.change) in
          let told : Told = (gathered_of (sets_in s) (from_for (is_with s.run.pids) input pid) section).told in
          let one : Bytes = seen_record (seen_kind seen.changed s.run.repeats) input pid x.parts in
          let more : Bytes = log_of (set_records (is_with s.run.pids) input pid section told) in
          omega (arith, length-append one more, seen_13 (seen_kind seen.changed s.run.repeats) input pid x.parts, sets_small (is_with s.run.pids) input pid section told)
