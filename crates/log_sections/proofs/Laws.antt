-- A section of a list, taken.
-- Assumes nothing.
use mathlib.Core.Path.{◌≡◌, refl, sym, ap, ◌∙◌}
use mathlib.Core.List.{List, [], ◌∷◌, ◌++◌, append_assoc}
use Prim.Native.Nat.{ℕ, ◌+◌, ◌-◌, ◌≤◌}
use native.Mathlib.Omega.{arith}
use lib.ListN.{length, take, drop, replicate, length-append}
use Rattle.rules_logs.specs.Records.{Bytes}
use Rattle.rules_logs.specs.Sections.{Given}
use Rattle.rules_logs.specs.Verdict.{log_of, AllRecords}
use Rattle.log_entries.specs.Entries.{entry_with}
use Rattle.log_entries.specs.declared.Entry.{Entry}
use Rattle.log_entries.proofs.Entries.{entry_shows}
use Rattle.log_list.specs.declared.Place.{Place}
use Rattle.log_list.specs.List.{given_at}
use Rattle.log_state.specs.State.{Lent, lent}
use Rattle.log_run.specs.Store.{Shown, shown, after_take, taken_of}
use Rattle.log_run.specs.declared.Taken.{Taken}
use Rattle.log_run.proofs.Records.{are_records}
use Rattle.log_sections.specs.declared.Step.{Step}
use Rattle.log_sections.specs.Steps.{takes, shown_in, Stepped}

pub is_taken : (list : Bytes) (s : Lent) {place : Place} {r : Taken} (keys changes heads slots cells : List ℕ)
    → after_take r keys changes heads slots cells ≡ taken_of s place.input place.pid (take ((place.start + place.length) - place.start) (drop place.start list))
    → Stepped list place s (record { run = r.run; entry = r.entry }) (lent r.run keys changes heads slots cells)
unfolding taken_of
is_taken list s {place = place} {r = r} keys changes heads slots cells e =
    let n : (place.start + place.length) - place.start ≡ place.length = omega arith in
    let f : after_take r keys changes heads slots cells ≡ shown (takes s (given_at list place)) = e ∙ ap (λ (k : ℕ). taken_of s place.input place.pid (take k (drop place.start list))) n in
    record {
      entry = ap (λ (x : Shown). x.entry) f;
      left = ap (λ (x : Shown). x.left) f;
    }

-- ---- the records that a section gave, as its entry shows them

within : (l : Bytes) → (entry_with l).length ≤ length (entry_with l).bytes
unfolding entry_with
within l = omega (arith, length-append l (replicate (23 - length l) 0))

sized : (l : Bytes) → (entry_with l).length ≡ length l
unfolding entry_with
sized l = refl

module _ {list : Bytes} {place : Place} {s : Lent} {r : Step} {after : Lent} (st : Stepped list place s r after) where
  abbrev given : Given
  given = given_at list place

  pub step_shows : shown_in r.entry ≡ log_of (takes s given).records
  step_shows = ap shown_in st.entry ∙ entry_shows (log_of (takes s given).records)

  pub step_fits : r.entry.length ≤ length r.entry.bytes
  step_fits = rw st.entry (within (log_of (takes s given).records))

  pub step_sized : r.entry.length ≡ length (log_of (takes s given).records)
  step_sized = ap (λ (x : Entry). x.length) st.entry ∙ sized (log_of (takes s given).records)

  pub step_records : AllRecords (takes s given).records
  step_records = are_records s given.input given.pid given.section

-- the records of some sections, one after another, and then those of others
pub log_append : (es fs : List Bytes) → log_of (es ++ fs) ≡ log_of es ++ log_of fs
unfolding log_of
log_append [] fs = refl
log_append (e ∷ es) fs = ap (λ (l : Bytes). e ++ l) (log_append es fs) ∙ sym (append_assoc e (log_of es) (log_of fs))
