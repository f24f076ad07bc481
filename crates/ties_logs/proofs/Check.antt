-- `check` by the rules: with enough memory lent and a whole list it answers 8 exactly to the log of the sections, and else of the first wrong record.
-- Assumes nothing.
use mathlib.Core.Path.{◌≡◌, refl, sym, ap, ◌∙◌}
use mathlib.Core.Bool.{true}
use mathlib.Core.List.{List, [], ◌∷◌, ◌++◌}
use Prim.Native.Nat.{◌^◌, ◌<◌}
use native.Mathlib.Omega.{arith}
use borrow.Author.Tests.{eqb-false}
use lib.ListN.{length}
use Rattle.laws.specs.Runs.{answers}
use Rattle.section.specs.Facts.{Bytes as OfBytes}
use Rattle.rules_logs.specs.Records.{Bytes}
use Rattle.rules_logs.specs.Sections.{Given, sections, sections_in}
use Rattle.rules_logs.specs.Verdict.{Verdict, yes, unknown, cut_off, missing, too_many, differs, verdict, Says}
use Rattle.rules_logs.proofs.Verdict as said
use Rattle.rules_log_run.specs.Run.{records_of, log_of}
use Rattle.rules_log_run.specs.Run.{Settings as Rules}
use Rattle.rules_log_run.specs.Older.{older_log, NoneOf}
use Rattle.rules_log_run.proofs.Older.{writer_never_6}
use Rattle.rules_log_run.specs.Entries.{joined}
use Rattle.rules_log_run.proofs.Records.{all_records}
use Rattle.rules_log_run.proofs.Lists.{listed_takable, listed_few}
use Rattle.log_state.specs.State.{is_with, is_without, Lent, run_of}
use Rattle.log_state.specs.declared.Pids.TheVariants as pids
use Rattle.log_state.specs.declared.Settings.{Settings}
use Rattle.log_sections.specs.Steps.{takes, records_by, Memory, over, opens}
use Rattle.log_check.specs.Check.{check_no, refused_by, answered, check_as, checked_by, checked_of}
use Rattle.std.specs.Prelude.{Result}
use Rattle.log_prepare.specs.declared.PrepareError.TheVariants as prepare
use Rattle.log_check.specs.declared.CheckError.{CheckError}
use Rattle.ties_log_run.specs.Run.{leaves, gives, entries_by, settings_of}
use Rattle.ties_log_run.proofs.Run.{run_records, opened_taken}
use Rattle.ties_logs.specs.Wrong.{FirstWrong}
use Rattle.ties_logs.proofs.Wrong.{first_of_lem}

-- ---- the records that a run gives

records_joined : (gs : List Given) (s : Lent) → records_by s gs ≡ joined (entries_by s gs)
unfolding records_by answers gives leaves joined
records_joined [] s = refl
records_joined (g ∷ gs) s = ap (λ (l : List Bytes). (takes s g).records ++ l) (records_joined gs (takes s g).left)

-- a list of bytes that is whole, and memory that is enough
module _ (a : Settings) (list : Bytes) (b : OfBytes list) (n : length list < 2 ^ 64) (gs : List Given) (w : sections_in list ≡ sections gs) (m : Memory) (h : opens a m ≡ true) where
  -- what is expected are the records of the rules
  pub run_expects : records_by (over (run_of a) m) gs ≡ records_of (settings_of a) gs
  run_expects =
      let few = listed_few list b gs w in
      records_joined gs (over (run_of a) m)
      ∙ run_records a m.keys m.changes m.heads m.slots m.cells h gs (listed_takable list b gs w) (omega arith)

  module _ (log : Bytes) where
    abbrev says : Verdict
    says = verdict 0 log (records_of (settings_of a) gs)

    checked_says : (checked_of a list log m).checked ≡ answered says
    unfolding checked_of
    checked_says = rw (w, h, opened_taken a m.keys m.changes m.heads m.slots m.cells h) (ap (λ (es : List Bytes). answered (verdict 0 log es)) run_expects)

    yes_says : (v : Verdict) → check_no (answered v) ≡ 8 → v ≡ yes
    yes_says yes e = refl
    yes_says (unknown p) e = absurd (eqb-false 38 8 refl e)
    yes_says (cut_off p) e = absurd (eqb-false 39 8 refl e)
    yes_says (missing p) e = absurd (eqb-false 40 8 refl e)
    yes_says (too_many p) e = absurd (eqb-false 40 8 refl e)
    yes_says (differs p) e = absurd (eqb-false 40 8 refl e)

    -- THE THEOREM: 8 exactly to the log of the sections
    pub yes_exactly : (check_no (checked_of a list log m).checked ≡ 8 → log ≡ log_of (settings_of a) gs) × (log ≡ log_of (settings_of a) gs → check_no (checked_of a list log m).checked ≡ 8)
    unfolding log_of
    yes_exactly =
        let y = said.yes_exactly log (records_of (settings_of a) gs) (all_records (settings_of a) gs) in (
          λ e. y.0 (yes_says says (sym (ap check_no checked_says) ∙ e)),
          λ e. ap check_no checked_says ∙ ap (λ (v : Verdict). check_no (answered v)) (y.1 e),
        )

    -- THE THEOREM: the answer is what is to be said of the log beside the records of the rules, and nothing else is to be said of it; where that is not yes, it is
    -- said of the first wrong record
    pub first_wrong : (v : Verdict) → Says 0 log (records_of (settings_of a) gs) v → ((checked_of a list log m).checked ≡ answered v) × ((v ≡ yes → ⊥) → FirstWrong log (records_of (settings_of a) gs) v)
    first_wrong v s = (checked_says ∙ ap answered (said.said_once s), λ q. first_of_lem log (records_of (settings_of a) gs) v s q)

    pub is_said : Says 0 log (records_of (settings_of a) gs) (verdict 0 log (records_of (settings_of a) gs))
    is_said = said.is_said 0 log (records_of (settings_of a) gs) (all_records (settings_of a) gs)

-- ---- by the setting

-- `before` is judged by the older definition
pub before_is_older : (a : Settings) → a.pids ≡ pids.Before → (gs : List Given) → log_of (settings_of a) gs ≡ older_log (settings_of a) gs
unfolding older_log
before_is_older a e gs =
    let f : is_with a.pids ≡ is_with pids.Before = ap is_with e in
    ap (λ (o : Rules). log_of o gs) (λ i. record { capacity = a.capacity; repeats = a.repeats; rule = a.rule; limit = a.limit; size = a.size; count = a.count; pids = f i })

-- `with`: no record that is expected has kind 6, so one anywhere differs
pub with_never_6 : (a : Settings) → a.pids ≡ pids.With → (gs : List Given) → NoneOf 6 (records_of (settings_of a) gs)
with_never_6 a e gs = writer_never_6 (settings_of a) (ap is_with e) gs

-- `without` of a whole list is 41, and all is as before
pub without_refused : (a : Settings) → a.pids ≡ pids.Without → (list log : Bytes) (gs : List Given) → sections_in list ≡ sections gs → (m : Memory)
    → checked_of a list log m ≡ check_as (refused_by prepare.NoPid) m
unfolding checked_of
without_refused a e list log gs w m = let f : is_without a.pids ≡ true = ap is_without e in ap (checked_by a log m) w ∙ rw f refl
