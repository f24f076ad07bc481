-- A log measured section by section.
-- Assumes nothing.
use mathlib.Core.Path.{◌≡◌, refl, sym, ap, ◌∙◌}
use mathlib.Core.Bool.{cond}
use mathlib.Core.List.{List, [], ◌∷◌, ◌++◌}
use Prim.Native.Nat.{ℕ, ◌+◌, ◌-◌, ◌≤◌, ◌<◌}
use native.Mathlib.Omega.{arith}
use lib.Dec.{ltb}
use lib.ListN.{length, length-append}
use borrow.Author.Tests.{lt-ltb, le-ltb}
use Rattle.rules_logs.specs.Records.{Bytes}
use Rattle.rules_logs.specs.Sections.{Given}
use Rattle.rules_logs.specs.Verdict.{log_of}
use Rattle.std.specs.Prelude.{Some, None}
use Rattle.log_list.specs.List.{givens_from, given_at, PlacedAt}
use Rattle.log_list.specs.declared.Place.{Place}
use Rattle.log_list.proofs.Laws.{none_left}
use Rattle.log_state.specs.State.{Lent}
use Rattle.log_sections.specs.Steps.{takes, records_by, left_by, memory_in, Stepped}
use Rattle.log_sections.specs.declared.Step.{Step}
use Rattle.log_sections.proofs.Laws.{step_sized, log_append}
use Rattle.log_measure.specs.Measure.{log_by, fitted_in, MeasuredBy}

-- the length of the log, and what is left, from here on
pub record On (list : Bytes) (room : ℕ) (s₀ s : Lent) (p free : ℕ) : Type 0 where
  pub within : free ≤ room
  pub size : length (log_by s₀ (givens_from list 0)) ≡ (room - free) + length (log_by s (givens_from list p))
  pub leaves : fitted_in room s₀ (givens_from list 0) ≡ fitted_in free s (givens_from list p)

pub starts_on : (list : Bytes) (room : ℕ) (s : Lent) → On list room s s 0 room
starts_on list room s = record { within = omega arith; size = omega arith; leaves = refl }

module _ {list : Bytes} {p : ℕ} {place : Place} (o : PlacedAt list p place) {s : Lent} {r : Step} {after : Lent} (st : Stepped list place s r after) where
  abbrev given : Given
  given = given_at list place

  abbrev end : ℕ
  end = place.start + place.length

  abbrev es : List Bytes
  es = (takes s given).records

  abbrev rest : List Given
  rest = givens_from list end

  now_size : length (log_by s (givens_from list p)) ≡ r.entry.length + length (log_by after rest)
  unfolding records_by
  now_size =
      let more : Bytes = log_by (takes s given).left rest in
      rw (o.first, st.left, log_append es (records_by (takes s given).left rest))
      (length-append (log_of es) more ∙ ap (λ (n : ℕ). n + length more) (sym (step_sized st)))

  now_left : (free : ℕ) → fitted_in free s (givens_from list p) ≡ cond (ltb free r.entry.length) after (fitted_in (free - r.entry.length) after rest)
  unfolding fitted_in
  now_left free = rw (o.first, st.left, step_sized st) refl

  module _ {room : ℕ} {s₀ : Lent} {free : ℕ} (on : On list room s₀ s p free) where
    pub turn_on : {q : ℕ} → q ≡ end → r.entry.length ≤ free → On list room s₀ after q (free - r.entry.length)
    turn_on e h = rw e (record {
      within = omega (arith, on.within);
      size = omega (arith, on.within, on.size, now_size, h);
      leaves = on.leaves ∙ now_left free ∙ rw (le-ltb free r.entry.length h) refl;
    })

    pub turn_stops : free < r.entry.length → MeasuredBy list room s₀ None (memory_in after)
    turn_stops h =
        let long : room < length (log_by s₀ (givens_from list 0)) = omega (arith, on.within, on.size, now_size, h) in
        let e : fitted_in room s₀ (givens_from list 0) ≡ after = on.leaves ∙ now_left free ∙ rw (lt-ltb free r.entry.length h) refl in
        record { tells = rw (lt-ltb room (length (log_by s₀ (givens_from list 0))) long) refl; leaves = sym (ap memory_in e) }

pub measured_end : {list : Bytes} {room : ℕ} {s₀ s : Lent} {p free : ℕ} → length list ≤ p → On list room s₀ s p free → MeasuredBy list room s₀ (Some (room - free)) (memory_in s)
unfolding records_by log_of fitted_in
measured_end {list} {room} {s₀} {s} {p} {free} h on =
    let e : givens_from list p ≡ [] = none_left list p h in
    let none : length (log_by s (givens_from list p)) ≡ 0 = rw e refl in
    let size : length (log_by s₀ (givens_from list 0)) ≡ room - free = omega (arith, on.size, none) in
    let f : fitted_in room s₀ (givens_from list 0) ≡ s = on.leaves ∙ rw e refl in
    record { tells = rw (size, le-ltb room (room - free) (omega arith)) refl; leaves = sym (ap memory_in f) }

-- where all of the log fits, all sections were looked at
pub all_fitted : (gs : List Given) (free : ℕ) (s : Lent) → length (log_by s gs) ≤ free → fitted_in free s gs ≡ left_by s gs
unfolding fitted_in left_by records_by
all_fitted [] free s h = refl
all_fitted (g ∷ gs) free s h =
    let t = takes s g in
    let n = length (log_of t.records) in
    let size : length (log_of (t.records ++ records_by t.left gs)) ≡ n + length (log_by t.left gs) = rw (log_append t.records (records_by t.left gs)) (length-append (log_of t.records) (log_by t.left gs)) in
    rw (le-ltb free n (omega (arith, h, size))) (all_fitted gs (free - n) t.left (omega (arith, h, size)))
