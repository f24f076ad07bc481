-- What is so of the list and of the memory lent, by what came of the preparation.
-- Assumes nothing.
use mathlib.Core.Path.{◌≡◌, refl, sym}
use mathlib.Core.Bool.{Bool, true, false, cond}
use Prim.Native.Nat.{ℕ}
use native.Mathlib.Omega.{arith}
use Rattle.answers.specs.declared.Refusal.TheVariants as refusal
use Rattle.rules_logs.specs.Sections.{Listed, too_long, cut, sections}
use Rattle.log_list.specs.List.{judged_of, givens_of}
use Rattle.std.specs.Prelude.{Result, Ok, Err}
use Rattle.log_state.specs.State.{is_without, run_of, can_open, opened_of}
use Rattle.log_state.specs.declared.Run.{Run}
use Rattle.log_state.specs.declared.Settings.{Settings}
use Rattle.log_prepare.specs.declared.PrepareError.{PrepareError}
use Rattle.log_prepare.specs.declared.PrepareError.TheVariants as error
use Rattle.log_prepare.specs.Prepare.{ready_by, prepared_of}

-- what comes of a whole list, by whether sets would be taken without PIDs and by whether the memory is enough
abbrev came : Settings → (without enough : Bool) → Result Run PrepareError
came s without enough =
    cond without (Err error.NoPid) (ready_by (run_of s) (cond without (Err refusal.NoPid) (cond enough (Ok tt) (Err refusal.TooLittle))))

module _ (s : Settings) (keys changes heads slots cells : ℕ) where
  -- the list is whole, and 41
  pub record Without (l : Listed) : Type 0 where
    pub is : l ≡ sections (givens_of l)
    pub without : is_without s.pids ≡ true

  -- the list is whole, no 41, and 13 or not
  pub record Whole (l : Listed) (enough : Bool) : Type 0 where
    pub is : l ≡ sections (givens_of l)
    pub whole : judged_of l ≡ Ok tt
    pub taken : is_without s.pids ≡ false
    pub opens : can_open s keys changes heads slots cells ≡ enough

  -- the run is an opened one
  pub record Ready (l : Listed) (run : Run) : Type 0 where
    pub list : Whole l true
    pub opened : run ≡ run_of s

  pub long_only : (l : Listed) → prepared_of s l keys changes heads slots cells ≡ Err error.TooLong → l ≡ too_long
  unfolding prepared_of opened_of
  long_only too_long e = refl
  long_only cut e = absurd (let z : ◌≡◌ {A = ℕ} 0 1 = cc in omega arith)
  long_only (sections gs) e = absurd (go (is_without s.pids) (can_open s keys changes heads slots cells) e)
    where
      go : (w b : Bool) → came s w b ≡ Err error.TooLong → ⊥
      go true b q = let z : ◌≡◌ {A = ℕ} 0 1 = cc in omega arith
      go false true q = let z : ◌≡◌ {A = ℕ} 0 1 = cc in omega arith
      go false false q = let z : ◌≡◌ {A = ℕ} 0 1 = cc in omega arith

  pub cut_only : (l : Listed) → prepared_of s l keys changes heads slots cells ≡ Err error.Cut → l ≡ cut
  unfolding prepared_of opened_of
  cut_only too_long e = absurd (let z : ◌≡◌ {A = ℕ} 0 1 = cc in omega arith)
  cut_only cut e = refl
  cut_only (sections gs) e = absurd (go (is_without s.pids) (can_open s keys changes heads slots cells) e)
    where
      go : (w b : Bool) → came s w b ≡ Err error.Cut → ⊥
      go true b q = let z : ◌≡◌ {A = ℕ} 0 1 = cc in omega arith
      go false true q = let z : ◌≡◌ {A = ℕ} 0 1 = cc in omega arith
      go false false q = let z : ◌≡◌ {A = ℕ} 0 1 = cc in omega arith

  pub without_only : (l : Listed) → prepared_of s l keys changes heads slots cells ≡ Err error.NoPid → Without l
  unfolding prepared_of opened_of
  without_only too_long e = absurd (let z : ◌≡◌ {A = ℕ} 0 1 = cc in omega arith)
  without_only cut e = absurd (let z : ◌≡◌ {A = ℕ} 0 1 = cc in omega arith)
  without_only (sections gs) e = go (is_without s.pids) (can_open s keys changes heads slots cells) refl e
    where
      go : (w b : Bool) → is_without s.pids ≡ w → came s w b ≡ Err error.NoPid → Without (sections gs)
      go true b h q = record { is = refl; without = h }
      go false true h q = absurd (let z : ◌≡◌ {A = ℕ} 0 1 = cc in omega arith)
      go false false h q = absurd (let z : ◌≡◌ {A = ℕ} 0 1 = cc in omega arith)

  pub little_only : (l : Listed) → prepared_of s l keys changes heads slots cells ≡ Err error.TooLittle → Whole l false
  unfolding prepared_of opened_of
  little_only too_long e = absurd (let z : ◌≡◌ {A = ℕ} 0 1 = cc in omega arith)
  little_only cut e = absurd (let z : ◌≡◌ {A = ℕ} 0 1 = cc in omega arith)
  little_only (sections gs) e = go (is_without s.pids) (can_open s keys changes heads slots cells) refl refl e
    where
      go : (w b : Bool) → is_without s.pids ≡ w → can_open s keys changes heads slots cells ≡ b → came s w b ≡ Err error.TooLittle → Whole (sections gs) false
      go true b h c q = absurd (let z : ◌≡◌ {A = ℕ} 0 1 = cc in omega arith)
      go false true h c q = absurd (let z : ◌≡◌ {A = ℕ} 0 1 = cc in omega arith)
      go false false h c q = record { is = refl; whole = refl; taken = h; opens = c }

  pub ready_only : (l : Listed) (run : Run) → prepared_of s l keys changes heads slots cells ≡ Ok run → Ready l run
  unfolding prepared_of opened_of
  ready_only too_long run e = absurd (let z : ◌≡◌ {A = ℕ} 0 1 = cc in omega arith)
  ready_only cut run e = absurd (let z : ◌≡◌ {A = ℕ} 0 1 = cc in omega arith)
  ready_only (sections gs) run e = go (is_without s.pids) (can_open s keys changes heads slots cells) refl refl e
    where
      go : (w b : Bool) → is_without s.pids ≡ w → can_open s keys changes heads slots cells ≡ b → came s w b ≡ Ok run → Ready (sections gs) run
      go true b h c q = absurd (let z : ◌≡◌ {A = ℕ} 0 1 = cc in omega arith)
      go false true h c q = record { list = record { is = refl; whole = refl; taken = h; opens = c }; opened = let r : run_of s ≡ run = cc in sym r }
      go false false h c q = absurd (let z : ◌≡◌ {A = ℕ} 0 1 = cc in omega arith)
