-- One law for each way out.
-- Assumes nothing.
use Prim.Native.Nat.{ℕ, ◌≤◌, ◌<◌}
use mathlib.Core.Path.{◌≡◌}
use mathlib.Core.List.{List, [], ◌∷◌}
use mathlib.Core.Bool.{Bool, true, false, not, ◌||◌}
use lib.Dec.{eqb, ltb}
use borrow.Author.Tests.{lt-ltb, le-ltb, eq-eqb, ne_eqb}
use Rattle.log_state.specs.declared.Pids.{Pids}
use Rattle.log_state.specs.declared.Pids.TheVariants as pids
use Rattle.log_state.specs.declared.Settings.{Settings}
use Rattle.std.specs.Prelude.{Option, Some, None, Result, Ok, Err}
use Rattle.log_check.specs.Check.{error_no, place_of}
use Rattle.log_check.specs.declared.CheckError.{CheckError}
use Rattle.log_write.specs.Write as write
use Rattle.log_write.specs.declared.WriteError.{WriteError}
use Rattle.host_words.specs.Answers.{at, words}
use Rattle.host_log_words.specs.Words.{rule_for, pids_for, settings_of, tells_checked, tells_written}

-- ---- settings

module _ (rule n : ℕ) where
  pub rule_said : n < 3 → rule ≡ rule_for rule n
  rule_said h = rw (lt-ltb n 3 h)

  pub rule_none : 3 ≤ n → 0 ≡ rule_for rule n
  rule_none h = rw (le-ltb n 3 h)

module _ (n : ℕ) where
  pub pids_without_lem : n ≡ 1 → pids.Without ≡ pids_for n
  pids_without_lem h = rw (eq-eqb n 1 h)

  pub pids_before : (n ≡ 1 → ⊥) → n ≡ 2 → pids.Before ≡ pids_for n
  pids_before g h = rw (ne_eqb n 1 g, eq-eqb n 2 h)

  pub pids_with : (n ≡ 1 → ⊥) → (n ≡ 2 → ⊥) → pids.With ≡ pids_for n
  pids_with g h = rw (ne_eqb n 1 g, ne_eqb n 2 h)

pub settings_read : (w : List ℕ) (r : ℕ) (p : Pids) → r ≡ rule_for (at w 2) (at w 6) → p ≡ pids_for (at w 6)
    → ◌≡◌ {A = Settings} (record { capacity = at w 0; repeats = not (eqb (at w 1) 0); rule = r; limit = at w 3; size = at w 4; count = at w 5; pids = p }) (settings_of w)
unfolding settings_of
settings_read w r p e h = rw (e, h)

-- ---- the place

module _ (c : Result Unit CheckError) (w : List ℕ) where
  pub place_yes : {u : Unit} → c ≡ Ok u → words 8 w ≡ tells_checked c w
  place_yes h = rw h

  pub place_written : {e : CheckError} {p n : ℕ} → c ≡ Err e → place_of e ≡ Some p → n ≡ error_no e → words n (p ∷ []) ≡ tells_checked c w
  place_written h q k = rw (h, k, q)

  pub place_kept : {e : CheckError} {n : ℕ} → c ≡ Err e → place_of e ≡ None → n ≡ error_no e → words n w ≡ tells_checked c w
  place_kept h q k = rw (h, k, q)

-- ---- the length

module _ (t : Result ℕ WriteError) (w : List ℕ) where
  pub length_written : {n : ℕ} → t ≡ Ok n → words 7 (n ∷ []) ≡ tells_written t w
  length_written h = rw h

  pub length_kept : {e : WriteError} {n : ℕ} → t ≡ Err e → n ≡ write.error_no e → words n w ≡ tells_written t w
  length_kept h k = rw (h, k)
