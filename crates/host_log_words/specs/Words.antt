-- What the words of a host stand for in the calls on logs (docs/RULES.md, "Logs"), and what an answer tells in a word.
-- `cond test a b` is a where the test is true, else b.
-- Assumes nothing.
use Rattle.std.specs.Prelude.{ℕ, List, [], ◌∷◌, cond, not, eqb, ltb, Option, Some, None, Result, Ok, Err}
use Rattle.log_state.specs.declared.Pids.{Pids}
use Rattle.log_state.specs.declared.Pids.TheVariants as pids
use Rattle.log_state.specs.declared.Settings.{Settings}
use Rattle.log_check.specs.Check.{check_no, place_of}
use Rattle.log_check.specs.declared.CheckError.{CheckError}
use Rattle.log_write.specs.Write.{write_no}
use Rattle.log_write.specs.declared.WriteError.{WriteError}
use Rattle.host_words.specs.Answers.{at, Words, words}

-- a word that does not say how sets are taken is refused as a change rule that there is not
abbrev pub rule_for : (rule n : ℕ) → ℕ
rule_for rule n = cond (ltb n 3) rule 0

-- 0 with PIDs, 1 without, 2 by the older definition
abbrev pub pids_for : ℕ → Pids
pids_for n = cond (eqb n 1) pids.Without (cond (eqb n 2) pids.Before pids.With)

-- 0 capacity, 1 repeats (not 0: on), 2 change rule, 3 limit, 4 cell size, 5 cell count, 6 how sets are taken (0, 1 or 2)
unfoldable pub settings_of : List ℕ → Settings
settings_of w = record {
  capacity = at w 0;
  repeats = not (eqb (at w 1) 0);
  rule = rule_for (at w 2) (at w 6);
  limit = at w 3;
  size = at w 4;
  count = at w 5;
  pids = pids_for (at w 6);
}

-- a place that there is
abbrev pub place_in : Option ℕ → List ℕ → List ℕ
place_in (Some p) w = p ∷ []
place_in None w = w

-- 38, 39 and 40 tell a place
abbrev pub place_after : Result Unit CheckError → List ℕ → List ℕ
place_after (Ok x) w = w
place_after (Err e) w = place_in (place_of e) w

abbrev pub tells_checked : Result Unit CheckError → List ℕ → Words
tells_checked c w = words (check_no c) (place_after c w)

-- 7 tells the log's length
abbrev pub length_after : Result ℕ WriteError → List ℕ → List ℕ
length_after (Ok n) w = n ∷ []
length_after (Err e) w = w

abbrev pub tells_written : Result ℕ WriteError → List ℕ → Words
tells_written t w = words (write_no t) (length_after t w)
