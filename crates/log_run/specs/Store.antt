-- What one section gives and leaves in a run of a log (docs/RULES.md, "Logs"), for every run and every content of the lent slices.
-- Assumes nothing.
use Rattle.std.specs.Prelude.{ℕ, List, [], ◌∷◌, length, Result, Ok, Err}
use Rattle.ring.specs.Store.{stamp_of, seen_of, keys_after, changes_after}
use Rattle.ring.specs.declared.Ring.{Ring}
use Rattle.ring.specs.declared.Seen.{Seen}
use Rattle.store.specs.declared.Sets.{Sets}
use Rattle.sets_settle.specs.Settle.{SetsAfter}
use Rattle.rules_logs.specs.Records.{Bytes, seen_record, failed_record}
use Rattle.rules_logs.specs.Verdict.{log_of}
use Rattle.log_entries.specs.Entries.{entry_with, failed_kind}
use Rattle.log_entries.specs.declared.Entry.{Entry}
use Rattle.log_state.specs.State.{is_with, Lent, lent, sets_in, ruling_of}
use Rattle.log_steps.specs.Steps.{from_for, gathered_of, seen_kind, set_records}
use Rattle.log_state.specs.declared.Run.{Run}
use Rattle.log_state.specs.declared.Sight.{Sight}
use Rattle.log_state.specs.declared.Ruling.{Ruling}
use Rattle.log_state.specs.declared.Ruling.TheVariants as ruling
use Rattle.log_state.specs.declared.TakeError.{TakeError}
use Rattle.log_run.specs.declared.Taken.{Taken}

-- what a section comes to: the answer, its records in order, and the run and memory that are left
pub record Taking : Type 0 where
  pub answer : Result Unit TakeError
  pub records : List Bytes
  pub left : Lent

-- the same as a call shows it: the records as bytes
pub record Shown : Type 0 where
  pub answer : Result Unit TakeError
  pub entry : Entry
  pub left : Lent

abbrev pub shown : Taking → Shown
shown t = record { answer = t.answer; entry = entry_with (log_of t.records); left = t.left }

-- what a call handed back, with the slices as it left them
abbrev pub after_take : Taken → (keys changes heads slots cells : List ℕ) → Shown
after_take r keys changes heads slots cells = record { answer = r.answer; entry = r.entry; left = lent r.run keys changes heads slots cells }

abbrev pub run_with : Run → Ring → Sets → Run
run_with run ring sets = record { ring = ring; repeats = run.repeats; rule = run.rule; sets = sets; pids = run.pids }

-- a section that arrived: it is looked up, and the collector gets it, emitted or suppressed, with its PID or by the older definition
unfoldable pub seen_in : Lent → (input pid : ℕ) → Bytes → Sight → Taking
seen_in s input pid section x =
    let run : Run = s.run in
    let number : ℕ = stamp_of x.parts.version x.parts.change in
    let seen : Seen = seen_of run.ring s.keys s.changes x.key number in
    let pushed : SetsAfter = gathered_of (sets_in s) (from_for (is_with run.pids) input pid) section in
    record {
      answer = Ok tt;
      records =
          seen_record (seen_kind seen.changed run.repeats) input pid x.parts
          ∷ set_records (is_with run.pids) input pid section pushed.told;
      left =
          lent (run_with run seen.ring pushed.store.sets) (keys_after run.ring s.keys x.key)
          (changes_after run.ring s.keys s.changes x.key number)
          pushed.store.heads pushed.store.slots pushed.store.cells;
    }

-- a refusal gives nothing and leaves all as it was; a failure gives its record and leaves all as it was
unfoldable pub ruled : Lent → (input pid : ℕ) → Bytes → Result Ruling TakeError → Taking
ruled s input pid section (Err a) = record { answer = Err a; records = []; left = s }
ruled s input pid section (Ok (ruling.Failed short)) = record { answer = Ok tt; records = failed_record (failed_kind short) input pid (length section) ∷ []; left = s }
ruled s input pid section (Ok (ruling.Arrived x)) = seen_in s input pid section x

-- 42, 10, 11, 12, 37, else 7
unfoldable pub taking : Lent → (input pid : ℕ) → Bytes → Taking
taking s input pid section = ruled s input pid section (ruling_of s input pid section)

unfoldable pub taken_of : Lent → (input pid : ℕ) → Bytes → Shown
taken_of s input pid section = shown (taking s input pid section)
