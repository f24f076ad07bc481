-- Every record of a run is one: it begins with a kind that there is, and has that kind's size; so what is said of a log beside them is said as of records.
-- Assumes nothing.
use mathlib.Core.Path.{refl}
use mathlib.Core.Bool.{Bool, true, false, cond, ◌||◌}
use mathlib.Core.List.{List, [], ◌∷◌, ◌++◌}
use Prim.Native.Nat.{ℕ}
use native.Mathlib.Omega.{arith}
use lib.Dec.{ltb}
use Rattle.ring.specs.Rules.{changed}
use Rattle.section.specs.Judged.{rule_of, judged_of}
use Rattle.section.specs.declared.header.Parts.{Parts}
use Rattle.section.specs.declared.header.Header.{Header}
use Rattle.section.specs.declared.header.Judged.{Judged}
use Rattle.section.specs.declared.header.Judged.TheVariants.{Short, Mismatch, Sound}
use Rattle.rules_sets.specs.Rules.{Answer, cleared, nothing, handout, refused}
use Rattle.rules_sets.specs.Cells.{call_tells}
use Rattle.rules_logs.specs.Records.{Bytes, record_size, seen_record, failed_record, set_record, bare_set_record}
use Rattle.rules_logs.specs.Sections.{Given}
use Rattle.rules_logs.specs.Verdict.{IsRecord, AllRecords}
use Rattle.rules_log_run.specs.Run.{Settings, Kept, set_line, set_records, set_header, pushed, row_of, sound, judged, entry_of, records_from, records_of, opened}

seen_is : (b : Bool) (input pid : ℕ) (p : Parts) → IsRecord (seen_record (cond b 1 2) input pid p)
unfolding seen_record record_size
seen_is true input pid p = record { known = omega arith; sized = refl }
seen_is false input pid p = record { known = omega arith; sized = refl }

line_is : (pids : Bool) (input pid : ℕ) (h : Header) → IsRecord (set_line pids input pid h)
unfolding set_line set_record bare_set_record record_size
line_is true input pid h = record { known = omega arith; sized = refl }
line_is false input pid h = record { known = omega arith; sized = refl }

sets_are : (pids : Bool) (a : Answer) → AllRecords (set_records pids a)
unfolding set_records
sets_are pids cleared = tt
sets_are pids nothing = tt
sets_are pids (handout w) = (line_is pids w.key.from.input w.key.from.pid (set_header w), tt)
sets_are pids (refused r) = tt

judged_are : (o : Settings) (k : Kept) (g : Given) (j : Judged) → AllRecords (judged o k g j).records
unfolding judged sound failed_record record_size
judged_are o k g Short = (record { known = omega arith; sized = refl }, tt)
judged_are o k g (Mismatch stored worked) = (record { known = omega arith; sized = refl }, tt)
judged_are o k g (Sound p) = (seen_is (changed (row_of g p) k.rows || o.repeats) g.input g.pid p, sets_are o.pids (call_tells k.sets (pushed o g)))

pub entry_are : (o : Settings) (k : Kept) (g : Given) → AllRecords (entry_of o k g).records
unfolding entry_of
entry_are o k g = go (ltb g.pid 8192) (ltb g.input 16)
  where
    go : (p i : Bool) → AllRecords (cond p (cond i (judged o k g (judged_of (rule_of o.rule) g.section)) (record { records = []; kept = k })) (record { records = []; kept = k })).records
    go true true = judged_are o k g (judged_of (rule_of o.rule) g.section)
    go true false = tt
    go false i = tt

both_are : (a b : List Bytes) → AllRecords a → AllRecords b → AllRecords (a ++ b)
both_are [] b r s = s
both_are (e ∷ a) b r s = (r.0, both_are a b r.1 s)

from_are : (o : Settings) (k : Kept) (gs : List Given) → AllRecords (records_from o k gs)
unfolding records_from
from_are o k [] = tt
from_are o k (g ∷ gs) = both_are (entry_of o k g).records (records_from o (entry_of o k g).kept gs) (entry_are o k g) (from_are o (entry_of o k g).kept gs)

pub all_records : (o : Settings) (gs : List Given) → AllRecords (records_of o gs)
unfolding records_of
all_records o gs = from_are o (opened o) gs
