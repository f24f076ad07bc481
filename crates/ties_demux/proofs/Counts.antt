-- What the sections of a packet add to the gate's counters: each answer counts once.
-- Assumes nothing.
use mathlib.Core.Path.{◌≡◌, refl, sym, ap, subst, ◌∙◌}
use mathlib.Core.List.{List, [], ◌∷◌, map}
use Prim.Native.Nat.{ℕ, ◌+◌}
use native.Mathlib.Omega.{arith}
use Rattle.laws.specs.Runs.{answers, store_after}
use Rattle.transport.specs.Rules.{Bytes}
use Rattle.counters.specs.Rules.{Sums, Counts}
use Rattle.counters.specs.declared.Counters.{Counters}
use Rattle.counters.proofs.Sums.{all_sums}
use Rattle.gate_state.specs.State.{number_of}
use Rattle.gate.specs.Rules.{Offer}
use Rattle.gate.specs.View.{store_tells, store_acts}
use Rattle.gate_pats.specs.Store.{Kept, sections_in, taken_with}
use Rattle.ties_gate.proofs.Counts.{counts}
use Rattle.demux_steady.specs.Steady.{words_in, tells, acts}
use Rattle.demux_turns.specs.Turns.{OffersOf, offered_at}
use Rattle.ties_demux.proofs.Turns.{offers_of, answers_to}

pub no_sums : (c : Counters) → Sums [] c c
no_sums c = record { emitted = omega arith; suppressed = omega arith; short = omega arith; mismatches = omega arith; failures = omega arith; completed = omega arith }

module _ (i p : ℕ) where
  abbrev number : Kept → Bytes → ℕ
  number k s = number_of (tells k i p s)

  abbrev next : Kept → Bytes → Kept
  next k s = acts k i p s

  -- the PAT store counts nothing of the gate's
  one_counts : (k : Kept) (s : Bytes) → Counts (number k s) k.counters (next k s).counters
  unfolding taken_with store_tells store_acts
  one_counts k s = counts (sections_in k) (record { input = i; pid = p; section = s })

  numbers_are : (ss : List Bytes) (k : Kept) → answers number next k ss ≡ map number_of (answers_to words_in tells acts i p ss k)
  unfolding answers answers_to
  numbers_are [] k = refl
  numbers_are (s ∷ ss) k = ap (λ (l : List ℕ). number k s ∷ l) (numbers_are ss (next k s))

  gate_is : (m : ℕ) (ss : List Bytes) (o : OffersOf Kept) → store_after next o.gate ss ≡ (offers_of words_in tells acts i p m ss o).gate
  unfolding store_after offers_of
  gate_is m [] o = refl
  gate_is m (s ∷ ss) o = gate_is (m + 1) ss (offered_at words_in tells acts i p m s o)

  pub offers_sum : (m : ℕ) (ss : List Bytes) (o : OffersOf Kept) → Sums (map number_of (answers_to words_in tells acts i p ss o.gate)) o.gate.counters (offers_of words_in tells acts i p m ss o).gate.counters
  offers_sum m ss o =
      subst (λ (l : List ℕ). Sums l o.gate.counters (offers_of words_in tells acts i p m ss o).gate.counters) (numbers_are ss o.gate)
      (subst (λ (k : Kept). Sums (answers number next o.gate ss) o.gate.counters k.counters) (gate_is m ss o) (all_sums number next (λ (k : Kept). k.counters) one_counts o.gate ss))
