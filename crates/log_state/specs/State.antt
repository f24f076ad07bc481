-- A run of a log (docs/RULES.md, "Logs"): the rows of a gate and a set collector over lent memory, and what a section comes to before anything is
-- written. `cond test a b` is a where the test is true, else b.
-- Assumes nothing.
use Rattle.std.specs.Prelude.{ℕ, ◌<◌, List, Bool, true, false, cond, not, ◌&&◌, length, leb, ltb, Result, Ok, Err}
use Rattle.answers.specs.Answers.{refusal_no}
use Rattle.answers.specs.declared.Refusal.TheVariants as refusal
use Rattle.section.specs.Judged.{rule_known, rule_of, form_of, parts_of}
use Rattle.ring.specs.Store.{room_of, empty_ring, Whole}
use Rattle.ring.specs.Store.{whole_of as ring_whole}
use Rattle.store.specs.Store.{Store, store, asked, settings_fit, counters_full}
use Rattle.store.specs.Store.{whole_of as sets_whole}
use Rattle.sets_plan.specs.Plan.{Ready}
use Rattle.offers.specs.Offers.{is_short, read_of}
use Rattle.offers.specs.declared.Verdict.{Verdict}
use Rattle.offers.specs.declared.Verdict.TheVariants as verdict
use Rattle.log_state.specs.declared.Pids.{Pids}
use Rattle.log_state.specs.declared.Pids.TheVariants as pids
use Rattle.log_state.specs.declared.Settings.{Settings}
use Rattle.log_state.specs.declared.Run.{Run}
use Rattle.log_state.specs.declared.Opened.{Opened}
use Rattle.log_state.specs.declared.TakeError.{TakeError}
use Rattle.log_state.specs.declared.TakeError.TheVariants as take
use Rattle.log_state.specs.declared.Ruling.{Ruling}
use Rattle.log_state.specs.declared.Ruling.TheVariants as ruling

-- a run with the content of the five lent slices
pub record Lent : Type 0 where
  pub run : Run
  pub keys : List ℕ
  pub changes : List ℕ
  pub heads : List ℕ
  pub slots : List ℕ
  pub cells : List ℕ

abbrev pub lent : Run → (keys changes heads slots cells : List ℕ) → Lent
lent run keys changes heads slots cells = record { run = run; keys = keys; changes = changes; heads = heads; slots = slots; cells = cells }

-- its collector
abbrev pub sets_in : Lent → Store
sets_in s = store s.run.sets s.heads s.slots s.cells

-- ---- opening

-- sets are taken with their PIDs
abbrev pub is_with : Pids → Bool
is_with pids.With = true
is_with pids.Without = false
is_with pids.Before = false

-- sets without PIDs are given up
abbrev pub is_without : Pids → Bool
is_without pids.With = false
is_without pids.Without = true
is_without pids.Before = false

-- a run as it is asked for: no rows, counts 0
abbrev pub run_of : Settings → Run
run_of s = record { ring = empty_ring s.capacity; repeats = s.repeats; rule = s.rule; sets = asked s.limit s.size s.count; pids = s.pids }

-- neither 41 nor 13: max(1, capacity) rows of each slice, a change rule that there is, what the collector's opening asks for, and sets that are taken
abbrev pub can_open : Settings → (keys changes heads slots cells : ℕ) → Bool
can_open s keys changes heads slots cells =
    leb (room_of s.capacity) keys && leb (room_of s.capacity) changes && rule_known s.rule && settings_fit (asked s.limit s.size s.count) heads slots cells
    && not (is_without s.pids)

-- 41 where sets would be taken without PIDs, 13, else 7, by the lengths of the slices, which are neither read nor written
unfoldable pub opened_of : Settings → (keys changes heads slots cells : ℕ) → Opened
opened_of s keys changes heads slots cells =
    record {
      answer = cond (is_without s.pids) (Err refusal.NoPid) (cond (can_open s keys changes heads slots cells) (Ok tt) (Err refusal.TooLittle));
      run = run_of s;
    }

-- ---- what a section comes to

abbrev pub take_no : Result Unit TakeError → ℕ
take_no (Ok x) = 7
take_no (Err take.TooLong) = 42
take_no (Err (take.Refused r)) = refusal_no r

-- the gate's rows fit slices of these lengths, there is such a change rule, and sets are taken: a run without PIDs came from no opening
abbrev pub gate_whole : Run → (keys changes : ℕ) → Bool
gate_whole run keys changes = ring_whole run.ring keys changes && rule_known run.rule && not (is_without run.pids)

-- not 10: nor is the collector broken
abbrev pub whole_by : Run → (keys changes : ℕ) → Store → Bool
whole_by run keys changes sets = gate_whole run keys changes && sets_whole sets

unfoldable pub whole_of : Lent → Bool
whole_of s = whole_by s.run (length s.keys) (length s.changes) (sets_in s)

-- what the gate makes of the section: a refusal, a failure, or its key and its parts
unfoldable pub ruled_by : (rule : ℕ) → List ℕ → Verdict → Result Ruling TakeError
ruled_by rule section (verdict.Refused r) = Err (take.Refused r)
ruled_by rule section (verdict.Failed f) = Ok (ruling.Failed (is_short f))
ruled_by rule section (verdict.Arrived a) = Ok (ruling.Arrived (record { key = a.key; parts = parts_of (rule_of rule) section (form_of section) }))

-- 42 (over 4,098 bytes), 10, 11, then as the gate has it: 12, 37, a failure, or a section that arrived; by the lengths of the gate's slices
unfoldable pub ruling_by : Run → (keys changes : ℕ) → Store → (input pid : ℕ) → List ℕ → Result Ruling TakeError
ruling_by run keys changes sets input pid section =
    cond (ltb 4098 (length section)) (Err take.TooLong)
    (cond (whole_by run keys changes sets)
    (cond (counters_full sets.sets) (Err (take.Refused refusal.CounterFull)) (ruled_by run.rule section (read_of run.rule input pid section)))
    (Err (take.Refused refusal.NotWhole)))

unfoldable pub ruling_of : Lent → (input pid : ℕ) → List ℕ → Result Ruling TakeError
ruling_of s input pid section = ruling_by s.run (length s.keys) (length s.changes) (sets_in s) input pid section

-- ---- what is so of a section that is not refused

pub record Arrives (run : Run) (keys changes : ℕ) (sets : Store) (input pid : ℕ) : Type 0 where
  pub rows : Whole run.ring keys changes
  pub ready : Ready sets
  pub is_input : input < 16
  pub is_pid : pid < 8192

abbrev pub RulingOk : Run → (keys changes : ℕ) → Store → (input pid : ℕ) → List ℕ → Result Ruling TakeError → Type 0
RulingOk run keys changes sets input pid section (Err a) = Unit {0}
RulingOk run keys changes sets input pid section (Ok (ruling.Failed short)) = length section < 65536
RulingOk run keys changes sets input pid section (Ok (ruling.Arrived x)) = Arrives run keys changes sets input pid

-- of an input and a PID that there are
abbrev pub FromOk : (input pid : ℕ) → Result Ruling TakeError → Type 0
FromOk input pid (Err a) = Unit {0}
FromOk input pid (Ok (ruling.Failed short)) = Unit {0}
FromOk input pid (Ok (ruling.Arrived x)) = (input < 16) × (pid < 8192)
