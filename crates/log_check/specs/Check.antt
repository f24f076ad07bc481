-- What a check answers, and what it leaves in the memory lent for its run (docs/RULES.md, "Logs"), for every list, log and content of the slices.
-- `cond test a b` is a where the test is true, else b.
-- Assumes nothing.
use Rattle.std.specs.Prelude.{ℕ, ◌≤◌, ◌≡◌, List, [], ◌∷◌, cond, length, Option, Some, None, Result, Ok, Err}
use Rattle.rules_logs.specs.Records.{Bytes}
use Rattle.rules_logs.specs.Sections.{Given, Listed, too_long, cut, sections, sections_in}
use Rattle.rules_logs.specs.Verdict.{Verdict, yes, unknown, cut_off, missing, too_many, differs, verdict}
use Rattle.log_compare.specs.Compare.{verdict_of, passed, Laid}
use Rattle.log_compare.specs.declared.Wrong.{Wrong}
use Rattle.log_compare.specs.declared.Wrong.TheVariants as wrong
use Rattle.log_entries.specs.declared.Entry.{Entry}
use Rattle.log_list.specs.List.{givens_from}
use Rattle.log_state.specs.State.{is_without, Lent, run_of}
use Rattle.log_state.specs.declared.Settings.{Settings}
use Rattle.log_run.specs.Store.{Taking}
use Rattle.log_sections.specs.Steps.{takes, records_by, shown_in, Memory, over, memory_in, opens}
use Rattle.log_prepare.specs.declared.PrepareError.{PrepareError}
use Rattle.log_prepare.specs.declared.PrepareError.TheVariants as prepare
use Rattle.log_check.specs.declared.CheckError.{CheckError}
use Rattle.log_check.specs.declared.CheckError.TheVariants as error

-- the number of what is wrong with a record
abbrev pub wrong_no : Wrong → ℕ
wrong_no (wrong.Unknown p) = 38
wrong_no (wrong.CutOff p) = 39
wrong_no (wrong.Missing p) = 40
wrong_no (wrong.TooMany p) = 40
wrong_no (wrong.Differs p) = 40

-- of what keeps a run from being opened
abbrev pub run_no : PrepareError → ℕ
run_no prepare.TooLong = 42
run_no prepare.Cut = 10
run_no prepare.NoPid = 41
run_no prepare.TooLittle = 13

abbrev pub error_no : CheckError → ℕ
error_no (error.Record w) = wrong_no w
error_no (error.Run e) = run_no e

-- 8, or the number of what is wrong
abbrev pub check_no : Result Unit CheckError → ℕ
check_no (Ok x) = 8
check_no (Err e) = error_no e

-- the place that is told, with a wrong record alone
abbrev pub wrong_place : Wrong → ℕ
wrong_place (wrong.Unknown p) = p
wrong_place (wrong.CutOff p) = p
wrong_place (wrong.Missing p) = p
wrong_place (wrong.TooMany p) = p
wrong_place (wrong.Differs p) = p

abbrev pub place_of : CheckError → Option ℕ
place_of (error.Record w) = Some (wrong_place w)
place_of (error.Run e) = None

-- no run is opened
abbrev pub refused_by : PrepareError → Result Unit CheckError
refused_by e = Err (error.Run e)

-- a verdict as an answer
abbrev pub answered : Verdict → Result Unit CheckError
answered yes = Ok tt
answered (unknown p) = Err (error.Record (wrong.Unknown p))
answered (cut_off p) = Err (error.Record (wrong.CutOff p))
answered (missing p) = Err (error.Record (wrong.Missing p))
answered (too_many p) = Err (error.Record (wrong.TooMany p))
answered (differs p) = Err (error.Record (wrong.Differs p))

-- ---- the sections that are looked at

-- this from the place after the records, or that where one of them is wrong
abbrev pub after_passed : {A : Type 0} → Result ℕ Wrong → (ℕ → A) → A → A
after_passed (Ok q) then else = then q
after_passed (Err w) then else = else

-- what is left after the sections that are looked at: none after the first whose records are not those of the log from place p on
unfoldable pub looked_at : (log : Bytes) (p : ℕ) → Lent → List Given → Lent
looked_at log p s [] = s
looked_at log p s (g ∷ gs) =
    let t : Taking = takes s g in
    after_passed (passed log p t.records) (λ q. looked_at log q t.left gs) t.left

-- ---- the promise

-- an answer with its place, and the content of the slices
pub record Check : Type 0 where
  pub checked : Result Unit CheckError
  pub memory : Memory

abbrev pub check_as : Result Unit CheckError → Memory → Check
check_as r m = record { checked = r; memory = m }

-- the verdict on the log beside the records that the run gives, and what the run leaves
abbrev pub ran_over : (log : Bytes) → Lent → List Given → Check
ran_over log s gs = check_as (answered (verdict 0 log (records_by s gs))) (memory_in (looked_at log 0 s gs))

-- 42, 10, 41, 13, then the verdict
abbrev pub checked_by : Settings → (log : Bytes) → Memory → Listed → Check
checked_by s log m too_long = check_as (refused_by prepare.TooLong) m
checked_by s log m cut = check_as (refused_by prepare.Cut) m
checked_by s log m (sections gs) =
    cond (is_without s.pids) (check_as (refused_by prepare.NoPid) m)
    (cond (opens s m) (ran_over log (over (run_of s) m) gs) (check_as (refused_by prepare.TooLittle) m))

unfoldable pub checked_of : Settings → (list log : Bytes) → Memory → Check
checked_of s list log m = checked_by s log m (sections_in list)

-- ---- parts

-- what an entry shows is records
pub record IsEntry (e : Entry) : Type 0 where
  pub laid : Laid (shown_in e)
  pub fits : e.length ≤ length e.bytes

-- what is said of the log, and what is left
pub record Walked (list log : Bytes) (s : Lent) (r : Result Unit Wrong) (m : Memory) : Type 0 where
  pub says : verdict_of r ≡ verdict 0 log (records_by s (givens_from list 0))
  pub leaves : m ≡ memory_in (looked_at log 0 s (givens_from list 0))
