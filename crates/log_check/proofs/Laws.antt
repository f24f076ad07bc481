-- One law for each way out.
-- Assumes nothing.
use mathlib.Core.Path.{◌≡◌, refl, sym, ap, ◌∙◌}
use mathlib.Core.List.{List, []}
use Prim.Native.Nat.{ℕ, ◌+◌, ◌-◌, ◌≤◌}
use native.Mathlib.Omega.{arith}
use lib.ListN.{length, take, drop}
use Rattle.rules_logs.specs.Records.{Bytes}
use Rattle.rules_logs.specs.Sections.{Given, sections_in}
use Rattle.rules_logs.specs.Verdict.{verdict}
use Rattle.std.specs.Prelude.{Result, Ok, Err}
use Rattle.log_compare.specs.Compare.{said_of, verdict_of, passed, finished, goes_on, records_in, Laid}
use Rattle.log_compare.specs.declared.Wrong.{Wrong}
use Rattle.log_compare.specs.declared.Wrong.TheVariants as wrong
use Rattle.log_compare.proofs.Laws.{records_back}
use Rattle.log_compare.proofs.Composes.{composes, finish_says}
use Rattle.log_entries.specs.declared.Entry.{Entry}
use Rattle.log_list.specs.List.{givens_from, given_at, WholeFrom, PlacedAt}
use Rattle.log_list.specs.declared.Place.{Place}
use Rattle.log_list.proofs.Laws.{none_left, from_start}
use Rattle.log_prepare.specs.Prepare.{prepared_of}
use Rattle.log_prepare.specs.declared.PrepareError.{PrepareError}
use Rattle.log_prepare.specs.declared.PrepareError.TheVariants as prepare
use Rattle.log_prepare.proofs.Ways.{Ready, long_only, cut_only, without_only, little_only, ready_only}
use Rattle.log_state.specs.State.{Lent}
use Rattle.log_state.specs.declared.Run.{Run}
use Rattle.log_state.specs.declared.Settings.{Settings}
use Rattle.log_sections.specs.Steps.{takes, records_by, shown_in, Memory, over, memory_in, Stepped}
use Rattle.log_sections.specs.declared.Step.{Step}
use Rattle.log_sections.proofs.Laws.{step_shows, step_fits, step_records}
use Rattle.log_check.specs.declared.CheckError.TheVariants as error
use Rattle.log_check.specs.Check.{refused_by, answered, after_passed, looked_at, IsEntry, Walked, check_as, ran_over, checked_of}

-- ---- the records of one section

-- what is said of the log and what is left, from here on
pub record On (list log : Bytes) (s₀ s : Lent) (p at : ℕ) : Type 0 where
  pub says : verdict 0 log (records_by s₀ (givens_from list 0)) ≡ verdict at (drop at log) (records_by s (givens_from list p))
  pub leaves : looked_at log 0 s₀ (givens_from list 0) ≡ looked_at log at s (givens_from list p)

module _ {list : Bytes} {place : Place} {s : Lent} {r : Step} {after : Lent} (st : Stepped list place s r after) where
  abbrev es : List Bytes
  es = (takes s (given_at list place)).records

  pub step_entry : IsEntry r.entry
  step_entry = record { laid = record { records = es; all = step_records st; are = step_shows st }; fits = step_fits st }

  next_records : records_in (shown_in r.entry) ≡ es
  next_records = ap records_in (step_shows st) ∙ records_back es (step_records st)

  -- ---- and the log goes on, or not

  module _ {p : ℕ} (o : PlacedAt list p place) {log : Bytes} {s₀ : Lent} {at : ℕ} (on : On list log s₀ s p at) {m : Result ℕ Wrong} (q : m ≡ passed log at (records_in (shown_in r.entry))) where
    seen_is : passed log at es ≡ m
    seen_is = sym (q ∙ ap (passed log at) next_records)

    abbrev end : ℕ
    end = place.start + place.length

    abbrev rest : List Given
    rest = givens_from list end

    said : verdict at (drop at log) (records_by s (givens_from list p)) ≡ goes_on log (records_by after rest) m
    unfolding records_by
    said = rw (o.first, st.left, ← seen_is) (composes log es (records_by (takes s (given_at list place)).left rest) at)

    looked : looked_at log at s (givens_from list p) ≡ after_passed m (λ k. looked_at log k after rest) after
    unfolding looked_at
    looked = rw (o.first, st.left, ← seen_is) refl

    pub turn_on : {k e : ℕ} → m ≡ Ok k → e ≡ end → On list log s₀ after e k
    turn_on n f = rw f (record {
      says = on.says ∙ said ∙ rw n refl;
      leaves = on.leaves ∙ looked ∙ rw n refl;
    })

    pub turn_stops : {w : Wrong} → m ≡ Err w → Walked list log s₀ (Err w) (memory_in after)
    turn_stops n = record {
      says = sym (on.says ∙ said ∙ rw n refl);
      leaves = let e : looked_at log 0 s₀ (givens_from list 0) ≡ after = on.leaves ∙ looked ∙ rw n refl in sym (ap memory_in e);
    }

pub starts_on : (list log : Bytes) (s : Lent) → On list log s s 0 0
starts_on list log s = record { says = refl; leaves = refl }

-- no section is left
pub walked_end : {list log : Bytes} {s₀ s : Lent} {p at : ℕ} {r : Result Unit Wrong} → length list ≤ p → On list log s₀ s p at → r ≡ finished log at → Walked list log s₀ r (memory_in s)
unfolding records_by looked_at
walked_end {list} {log} {s₀} {s} {p} {at} h on q = let e : givens_from list p ≡ [] = none_left list p h in record {
  says = sym (on.says ∙ rw (e, q) (finish_says log at));
  leaves = let f : looked_at log 0 s₀ (givens_from list 0) ≡ s = on.leaves ∙ rw e refl in sym (ap memory_in f);
}

pub beside_laid : (e : Entry) → IsEntry e → Laid (take (e.length - 0) e.bytes)
beside_laid e i = let n : e.length - 0 ≡ e.length = omega arith in rw n i.laid

pub beside_passed : (log : Bytes) (p : ℕ) (e : Entry) {r : Result ℕ Wrong} → r ≡ passed log p (records_in (take (e.length - 0) e.bytes)) → r ≡ passed log p (records_in (shown_in e))
beside_passed log p e q = let n : e.length - 0 ≡ e.length = omega arith in rw n at q

-- ---- the whole check

module _ (s : Settings) (list log : Bytes) (m : Memory) {x : Result Run PrepareError}
    (e : x ≡ prepared_of s (sections_in list) (length m.keys) (length m.changes) (length m.heads) (length m.slots) (length m.cells)) where
  pub check_refused : {w : PrepareError} → x ≡ Err w → check_as (refused_by w) m ≡ checked_of s list log m
  unfolding checked_of
  check_refused {w = prepare.TooLong} q = rw (long_only s _ _ _ _ _ (sections_in list) (sym e ∙ q)) refl
  check_refused {w = prepare.Cut} q = rw (cut_only s _ _ _ _ _ (sections_in list) (sym e ∙ q)) refl
  check_refused {w = prepare.NoPid} q = let w = without_only s _ _ _ _ _ (sections_in list) (sym e ∙ q) in rw (w.is, w.without) refl
  check_refused {w = prepare.TooLittle} q = let w = little_only s _ _ _ _ _ (sections_in list) (sym e ∙ q) in rw (w.is, w.opens, w.taken) refl

  module _ {run : Run} (q : x ≡ Ok run) where
    ready : Ready s (length m.keys) (length m.changes) (length m.heads) (length m.slots) (length m.cells) (sections_in list) run
    ready = ready_only s _ _ _ _ _ (sections_in list) run (sym e ∙ q)

    pub check_whole : WholeFrom list 0
    check_whole = from_start list ready.list.whole

    ran : (n : Memory) {seen : Result Unit Wrong} → Walked list log (over run m) seen n → check_as (answered (verdict_of seen)) n ≡ checked_of s list log m
    unfolding checked_of
    ran n w =
        let a : check_as (answered (verdict_of _)) n ≡ ran_over log (over run m) (givens_from list 0) = rw (w.says, w.leaves) refl in
        a ∙ rw (ready.list.is, ready.list.opens, ready.list.taken, ready.opened) refl

    pub check_yes : (n : Memory) {seen : Result Unit Wrong} {u : Unit} → Walked list log (over run m) seen n → seen ≡ Ok u → check_as (Ok tt) n ≡ checked_of s list log m
    check_yes n w h = rw h at (ran n w)

    pub check_wrong : (n : Memory) {seen : Result Unit Wrong} {v : Wrong} → Walked list log (over run m) seen n → seen ≡ Err v → check_as (Err (error.Record v)) n ≡ checked_of s list log m
    check_wrong n {v = v} w h = told v ∙ rw h at (ran n w)
      where
        told : (y : Wrong) → check_as (Err (error.Record y)) n ≡ check_as (answered (said_of y)) n
        told (wrong.Unknown p) = refl
        told (wrong.CutOff p) = refl
        told (wrong.Missing p) = refl
        told (wrong.TooMany p) = refl
        told (wrong.Differs p) = refl
