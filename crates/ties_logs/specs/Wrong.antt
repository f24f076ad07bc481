-- The first wrong record of a log (docs/RULES.md, "Logs").
-- Assumes nothing.
use Rattle.std.specs.Prelude.{ℕ, ◌≡◌, List, ◌++◌, take, drop}
use Rattle.rules_logs.specs.Records.{Bytes}
use Rattle.rules_logs.specs.Verdict.{Verdict, yes, unknown, cut_off, missing, too_many, differs, log_of, Says}

-- the place that is told; with yes none is
abbrev pub place_of : Verdict → ℕ
place_of yes = 0
place_of (unknown p) = p
place_of (cut_off p) = p
place_of (missing p) = p
place_of (too_many p) = p
place_of (differs p) = p

-- v is said of the log beside the records es: up to the place that is told the log is the first of them, whole, and what stands there is as v says
pub record FirstWrong (log : Bytes) (es : List Bytes) (v : Verdict) : Type 0 where
  pub before : List Bytes
  pub behind : List Bytes
  pub split : before ++ behind ≡ es
  pub passed : take (place_of v) log ≡ log_of before
  pub there : Says (place_of v) (drop (place_of v) log) behind v
