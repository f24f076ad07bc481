-- What each call leaves in what a host lends, from what its parts leave: one law for each way out.
-- Assumes nothing.
use Prim.Native.Nat.{ℕ}
use mathlib.Core.Path.{◌≡◌, ap}
use mathlib.Core.List.{List}
use Rattle.log_state.specs.declared.Settings.{Settings}
use Rattle.log_sections.specs.Steps.{Memory}
use Rattle.log_check.specs.Check.{check_as, checked_of}
use Rattle.std.specs.Prelude.{Result}
use Rattle.log_check.specs.declared.CheckError.{CheckError}
use Rattle.log_write.specs.Write.{write_as, written_of}
use Rattle.log_write.specs.declared.WriteError.{WriteError}
use Rattle.host_words.specs.Answers.{Words, words}
use Rattle.host_log_words.specs.Words.{settings_of, tells_checked, tells_written}
use Rattle.host_logs.specs.Calls.{check_left, log_checked, write_left, log_written}

pub log_checked_lem : (ws sections log : List ℕ) (m n : Memory) (w p : List ℕ) (s : Settings) (c : Result Unit CheckError) (r : ℕ) →
    s ≡ settings_of ws → check_as c n ≡ checked_of s sections log m → words r p ≡ tells_checked c w → check_left r p n ≡ log_checked ws sections log m w
unfolding log_checked
log_checked_lem ws sections log m n w p s c r a b t = rw (← a, ← b, ap (λ (x : Words). x.answer) t, ap (λ (x : Words). x.now) t)

pub log_written_lem : (ws sections room after : List ℕ) (m n : Memory) (w p : List ℕ) (s : Settings) (t : Result ℕ WriteError) (r : ℕ) →
    s ≡ settings_of ws → write_as t after n ≡ written_of s sections room m → words r p ≡ tells_written t w → write_left r p after n ≡ log_written ws sections room m w
unfolding log_written
log_written_lem ws sections room after m n w p s t r a b h = rw (← a, ← b, ap (λ (x : Words). x.answer) h, ap (λ (x : Words). x.now) h)
