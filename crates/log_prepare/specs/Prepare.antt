-- What comes before the sections of a list are looked at (docs/RULES.md, "Logs"): 42, 10, 41, 13, else an opened run. `cond test a b` is a where the test
-- is true, else b.
-- Assumes nothing.
use Rattle.std.specs.Prelude.{ℕ, cond, Result, Ok, Err}
use Rattle.answers.specs.Answers.{Outcome}
use Rattle.rules_logs.specs.Sections.{Listed, too_long, cut, sections}
use Rattle.log_state.specs.State.{is_without, opened_of}
use Rattle.log_state.specs.declared.Opened.{Opened}
use Rattle.log_state.specs.declared.Pids.{Pids}
use Rattle.log_state.specs.declared.Run.{Run}
use Rattle.log_state.specs.declared.Settings.{Settings}
use Rattle.log_list.specs.declared.ListError.{ListError}
use Rattle.log_list.specs.declared.ListError.TheVariants as list
use Rattle.log_prepare.specs.declared.PrepareError.{PrepareError}
use Rattle.log_prepare.specs.declared.PrepareError.TheVariants as error

-- what is wrong with the list
abbrev pub error_of : ListError → PrepareError
error_of list.Cut = error.Cut
error_of list.TooLong = error.TooLong

-- past 41 opening refuses with 13 alone
abbrev pub ready_by : Run → Outcome → Result Run PrepareError
ready_by run (Ok _) = Ok run
ready_by run (Err r) = Err error.TooLittle

abbrev pub ready_of : Pids → Opened → Result Run PrepareError
ready_of p o = cond (is_without p) (Err error.NoPid) (ready_by o.run o.answer)

unfoldable pub prepared_of : Settings → Listed → (keys changes heads slots cells : ℕ) → Result Run PrepareError
prepared_of s too_long keys changes heads slots cells = Err error.TooLong
prepared_of s cut keys changes heads slots cells = Err error.Cut
prepared_of s (sections gs) keys changes heads slots cells = ready_of s.pids (opened_of s keys changes heads slots cells)
