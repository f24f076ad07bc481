-- Of no PID and the PIDs that there are no two have one number; the run collects by the older definition without a PID, else with it; and with PIDs no record
-- is of kind 6.
-- Assumes nothing.
use Prim.Native.Nat.{ℕ}
use mathlib.Core.Path.{◌≡◌, refl, sym, ap}
use mathlib.Core.Bool.{Bool, true, false, cond, ◌||◌, true≢false}
use mathlib.Core.Option.{Option, none, some}
use mathlib.Core.List.{List, [], ◌∷◌, ◌++◌}
use native.Mathlib.Omega.{arith}
use lib.Dec.{ltb}
use lib.ListN.{length}
use Rattle.ring.specs.Rules.{changed}
use Rattle.section.specs.Judged.{rule_of, judged_of}
use Rattle.section.specs.declared.header.Parts.{Parts}
use Rattle.section.specs.declared.header.Header.{Header}
use Rattle.section.specs.declared.header.Judged.{Judged}
use Rattle.section.specs.declared.header.Judged.TheVariants.{Short, Mismatch, Sound}
use Rattle.rules_shared.specs.Same.{Origin, same_origin}
use Rattle.rules_sets.specs.Rules.{Answer, cleared, nothing, handout, refused}
use Rattle.rules_sets.specs.Cells.{call_tells}
use Rattle.rules_logs.specs.Records.{Bytes, seen_record, failed_record, set_record}
use Rattle.rules_logs.specs.Sections.{Given}
use Rattle.rules_log_run.specs.Run.{Settings, Kept, pushed, set_line, set_records, set_header, row_of, sound, judged, entry_of, records_from, records_of, opened}
use Rattle.rules_log_run.specs.Older.{pid_number, IsPid, collected_with, older, NoneOf}

-- ---- "PID or none"

pub older_apart : (a b : Option ℕ) → IsPid a → IsPid b → pid_number a ≡ pid_number b → a ≡ b
older_apart none none p q e = refl
older_apart none (some b) p q e = absurd (omega arith)
older_apart (some a) none p q e = absurd (omega arith)
older_apart (some a) (some b) p q e = ap some e

-- no PID and PID 0 are different keys
pub no_pid_lem : same_origin (record { input = 0; pid = pid_number none }) (record { input = 0; pid = pid_number (some 0) }) ≡ false
unfolding same_origin
no_pid_lem = refl

pub older_collects : (o : Settings) (g : Given) → pushed (older o) g ≡ collected_with none g
unfolding pushed
older_collects o g = refl

pub with_collects : (o : Settings) → o.pids ≡ true → (g : Given) → pushed o g ≡ collected_with (some g.pid) g
unfolding pushed
with_collects o h g = rw h refl

-- ---- kind 6

seen_not : (b : Bool) (input pid : ℕ) (p : Parts) → NoneOf 6 (seen_record (cond b 1 2) input pid p ∷ [])
unfolding seen_record
seen_not true input pid p = (λ e. absurd (omega (arith, e)), tt)
seen_not false input pid p = (λ e. absurd (omega (arith, e)), tt)

sets_not : (pids : Bool) → pids ≡ true → (a : Answer) → NoneOf 6 (set_records pids a)
unfolding set_records set_line set_record
sets_not true h cleared = tt
sets_not true h nothing = tt
sets_not true h (handout w) = (λ e. absurd (omega (arith, e)), tt)
sets_not true h (refused r) = tt
sets_not false h a = absurd (true≢false (sym h))

both_not : (kind : ℕ) (a b : List Bytes) → NoneOf kind a → NoneOf kind b → NoneOf kind (a ++ b)
both_not kind [] b r s = s
both_not kind (e ∷ a) b r s = (r.0, both_not kind a b r.1 s)

module _ (o : Settings) (h : o.pids ≡ true) where
  judged_not : (k : Kept) (g : Given) (j : Judged) → NoneOf 6 (judged o k g j).records
  unfolding judged sound failed_record
  judged_not k g Short = (λ e. absurd (omega (arith, e)), tt)
  judged_not k g (Mismatch stored worked) = (λ e. absurd (omega (arith, e)), tt)
  judged_not k g (Sound p) = ((seen_not (changed (row_of g p) k.rows || o.repeats) g.input g.pid p).0, sets_not o.pids h (call_tells k.sets (pushed o g)))

  entry_not : (k : Kept) (g : Given) → NoneOf 6 (entry_of o k g).records
  unfolding entry_of
  entry_not k g = go (ltb g.pid 8192) (ltb g.input 16)
    where
      go : (p i : Bool) → NoneOf 6 (cond p (cond i (judged o k g (judged_of (rule_of o.rule) g.section)) (record { records = []; kept = k })) (record { records = []; kept = k })).records
      go true true = judged_not k g (judged_of (rule_of o.rule) g.section)
      go true false = tt
      go false i = tt

  from_not : (k : Kept) (gs : List Given) → NoneOf 6 (records_from o k gs)
  unfolding records_from
  from_not k [] = tt
  from_not k (g ∷ gs) = both_not 6 (entry_of o k g).records (records_from o (entry_of o k g).kept gs) (entry_not k g) (from_not (entry_of o k g).kept gs)

  -- THE THEOREM: no record of a log with PIDs has kind 6
  pub writer_never_6 : (gs : List Given) → NoneOf 6 (records_of o gs)
  unfolding records_of
  writer_never_6 gs = from_not (opened o) gs
