-- The entries of a log, one for each section: its records, none, one or two (docs/RULES.md, "Logs").
-- Assumes nothing.
use Rattle.std.specs.Prelude.{List, [], ◌∷◌, ◌++◌}
use Rattle.laws.specs.Runs.{answers}
use Rattle.rules_logs.specs.Records.{Bytes}
use Rattle.rules_logs.specs.Sections.{Given}
use Rattle.rules_log_run.specs.Run.{Settings, Kept, entry_of}

unfoldable pub rules_give : Settings → Kept → Given → List Bytes
rules_give o k g = (entry_of o k g).records

unfoldable pub rules_leave : Settings → Kept → Given → Kept
rules_leave o k g = (entry_of o k g).kept

abbrev pub entries_from : Settings → Kept → List Given → List (List Bytes)
entries_from o k gs = answers (rules_give o) (rules_leave o) k gs

-- the records of entries, in order
unfoldable pub joined : List (List Bytes) → List Bytes
joined [] = []
joined (e ∷ es) = e ++ joined es
