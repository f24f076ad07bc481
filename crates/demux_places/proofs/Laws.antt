-- One law for each way out of a function, and what a place tells after an answer was put.
-- Assumes nothing.
use mathlib.Core.Path.{◌≡◌, refl, sym, ap, ◌∙◌}
use mathlib.Core.Logic.{◌≢◌}
use mathlib.Core.List.{List, [], ◌∷◌}
use Prim.Native.Nat.{ℕ, ◌+◌, ◌-◌, ◌*◌, ◌≤◌, ◌<◌}
use native.Mathlib.Omega.{arith}
use lib.ListN.{length, take, drop, get_or, set, length-drop, length-set}
use lib.Seq.{take_all, take-nil, get_or-set_other}
use borrow.Author.Tests.{eq-eqb, ne_eqb}
use Rattle.answers.specs.Answers.{refusal_no}
use Rattle.answers.specs.declared.Refusal.{Refusal}
use Rattle.offers.specs.declared.Failure.{Failure}
use Rattle.offers.specs.declared.Failure.TheVariants as failure
use Rattle.offers.specs.declared.Failure.TheVariants.{TooShort}
use Rattle.gate_state.specs.State.{Said, said_of, failure_said}
use Rattle.gate_state.specs.declared.Answer.{Answer}
use Rattle.gate_state.specs.declared.Answer.TheVariants.{Emitted, Suppressed, Failed, Refused}
use Rattle.demux_places.specs.declared.Place.{Place}
use Rattle.demux_places.specs.declared.Outcome.{Outcome}
use Rattle.demux_places.specs.Places.{place_at, bytes_at, outcome, outcome_of, put_outcome, answered}

-- ---- a part

none : (xs : List ℕ) → length xs ≡ 0 → xs ≡ []
none [] e = refl
none (x ∷ xs) e = absurd (omega arith)

module _ (bytes : List ℕ) (first size : ℕ) where
  abbrev end : ℕ
  end = length bytes

  pub part_past : end < first → take (end - end) (drop end bytes) ≡ take size (drop first bytes)
  part_past h =
      let z : end - end ≡ 0 = omega arith in
      let n : length (drop first bytes) ≡ 0 = omega (arith, length-drop first bytes) in
      rw z (sym (ap (take size) (none (drop first bytes) n) ∙ take-nil size))

  pub part_short : end - first < size → first ≤ end → take (end - first) (drop first bytes) ≡ take size (drop first bytes)
  part_short h k =
      let n : length (drop first bytes) ≡ end - first = length-drop first bytes in
      take_all (end - first) (drop first bytes) (omega arith) ∙ sym (take_all size (drop first bytes) (omega arith))

  pub part_there : take (first + size - first) (drop first bytes) ≡ take size (drop first bytes)
  part_there = let z : first + size - first ≡ size = omega arith in rw z refl

-- ---- the bytes of a section

module _ (packet buffers : List ℕ) (p : Place) (r : List ℕ) where
  pub in_packet : p.whence ≡ 0 → r ≡ take p.size (drop p.first packet) → r ≡ bytes_at packet buffers p
  in_packet h e = rw (eq-eqb p.whence 0 h) e

  pub in_buffers : p.whence ≢ 0 → r ≡ take p.size (drop p.first buffers) → r ≡ bytes_at packet buffers p
  in_buffers h e = rw (ne_eqb p.whence 0 h) e

-- ---- what is told

pub short_told : (f : Failure) (n : ℕ) → f ≡ TooShort n → outcome 31 0 0 ≡ outcome_of (failure_said f)
short_told f n h = rw h refl

pub mismatch_told : (f : Failure) (stored worked : ℕ) → f ≡ failure.Mismatch stored worked → outcome 3 stored worked ≡ outcome_of (failure_said f)
mismatch_told f stored worked h = rw h refl

module _ (a : Answer) where
  pub emitted_told : a ≡ Emitted → outcome 1 0 0 ≡ outcome_of (said_of a)
  emitted_told h = rw h refl

  pub suppressed_told : a ≡ Suppressed → outcome 2 0 0 ≡ outcome_of (said_of a)
  suppressed_told h = rw h refl

  pub failed_told : (f : Failure) (o : Outcome) → a ≡ Failed f → o ≡ outcome_of (failure_said f) → o ≡ outcome_of (said_of a)
  failed_told f o h e = rw h e

  pub refused_told : (r : Refusal) (n : ℕ) → a ≡ Refused r → n ≡ refusal_no r → outcome n 0 0 ≡ outcome_of (said_of a)
  refused_told r n h e = rw (h, e) refl

-- ---- a place is told

module _ (places : List ℕ) (k x y : ℕ) (h : k * 6 + 5 < length places) where
  pub second_word : k * 6 + 1 < length (set places (k * 6) x)
  second_word = omega (arith, length-set places (k * 6) x)

  pub third_word : k * 6 + 2 < length (set (set places (k * 6) x) (k * 6 + 1) y)
  third_word = omega (arith, length-set (set places (k * 6) x) (k * 6 + 1) y, length-set places (k * 6) x)

pub told_then : (places : List ℕ) (k : ℕ) (s : Said) (o : Outcome) → o ≡ outcome_of s → put_outcome places k o ≡ answered places k s
told_then places k s o e = ap (put_outcome places k) e
