-- One law for each way out.
-- Assumes nothing.
use mathlib.Core.Path.{◌≡◌, refl, ap, ◌∙◌}
use mathlib.Core.Bool.{Bool, true, false, cond}
use Prim.Native.Nat.{ℕ}
use native.Mathlib.Omega.{arith}
use Rattle.answers.specs.Answers.{Outcome}
use Rattle.answers.specs.declared.Refusal.{Refusal}
use Rattle.rules_logs.specs.Sections.{Listed, too_long, cut, sections}
use Rattle.std.specs.Prelude.{Result, Ok, Err}
use Rattle.log_list.specs.declared.ListError.{ListError}
use Rattle.log_list.specs.declared.ListError.TheVariants as list
use Rattle.log_list.specs.List.{judged_of}
use Rattle.log_state.specs.State.{is_without, opened_of}
use Rattle.log_state.specs.declared.Opened.{Opened}
use Rattle.log_state.specs.declared.Pids.{Pids}
use Rattle.log_state.specs.declared.Run.{Run}
use Rattle.log_state.specs.declared.Settings.{Settings}
use Rattle.log_prepare.specs.declared.PrepareError.{PrepareError}
use Rattle.log_prepare.specs.declared.PrepareError.TheVariants as error
use Rattle.log_prepare.specs.Prepare.{error_of, ready_by, ready_of, prepared_of}

module _ (s : Settings) (keys changes heads slots cells : ℕ) {j : Result Unit ListError} where
  pub is_bad : (l : Listed) {x : ListError} → j ≡ judged_of l → j ≡ Err x → Err (error_of x) ≡ prepared_of s l keys changes heads slots cells
  unfolding prepared_of
  is_bad too_long {x = list.TooLong} e q = refl
  is_bad too_long {x = list.Cut} e q = absurd (let z : ◌≡◌ {A = ℕ} 0 1 = cc in omega arith)
  is_bad cut {x = list.TooLong} e q = absurd (let z : ◌≡◌ {A = ℕ} 0 1 = cc in omega arith)
  is_bad cut {x = list.Cut} e q = refl
  is_bad (sections gs) e q = absurd (let z : ◌≡◌ {A = ℕ} 0 1 = cc in omega arith)

  pub is_whole : (l : Listed) {x : Unit} {o : Opened} {r : Result Run PrepareError} → j ≡ judged_of l → j ≡ Ok x → o ≡ opened_of s keys changes heads slots cells → r ≡ ready_of s.pids o → r ≡ prepared_of s l keys changes heads slots cells
  unfolding prepared_of
  is_whole too_long e q a b = absurd (let z : ◌≡◌ {A = ℕ} 0 1 = cc in omega arith)
  is_whole cut e q a b = absurd (let z : ◌≡◌ {A = ℕ} 0 1 = cc in omega arith)
  is_whole (sections gs) e q a b = b ∙ ap (ready_of s.pids) a

pub is_without_lem : (p : Pids) (o : Opened) {w : Bool} → w ≡ is_without p → w ≡ true → Err error.NoPid ≡ ready_of p o
is_without_lem p o e h = rw (← e, h) refl

module _ (p : Pids) (run : Run) {a : Outcome} {w : Bool} (e : w ≡ is_without p) where
  pub is_ready : w ≡ false → a ≡ Ok tt → Ok run ≡ cond (is_without p) (Err error.NoPid) (ready_by run a)
  is_ready h d = rw (← e, h, d) refl

  pub is_little : w ≡ false → {x : Refusal} → a ≡ Err x → Err error.TooLittle ≡ cond (is_without p) (Err error.NoPid) (ready_by run a)
  is_little h d = rw (← e, h, d) refl
