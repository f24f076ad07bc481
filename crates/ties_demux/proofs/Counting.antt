-- Every history of packets: `packets` rises by the number of answers 29, 30 and 43 on its input, `malformed` by that of 30, and the gate's counters by the answers that
-- the places told; from fresh counters both sums of the gate hold.
-- Assumes nothing.
use mathlib.Core.Path.{◌≡◌, refl, sym, ap, subst, ◌∙◌}
use mathlib.Core.Bool.{Bool, true, false, cond, ◌&&◌, ◌||◌}
use mathlib.Core.List.{List, [], ◌∷◌, ◌++◌, map}
use Prim.Native.Nat.{ℕ, suc, ◌+◌}
use native.Mathlib.Omega.{arith}
use lib.Dec.{eqb}
use borrow.Author.Tests.{eqb-true}
use Rattle.laws.specs.Runs.{store_after}
use Rattle.section.specs.Facts.{Bytes as AllBytes}
use Rattle.counters.specs.Counters.{zeroes}
use Rattle.counters.specs.Rules.{count_of, Sums}
use Rattle.counters.specs.declared.Counters.{Counters}
use Rattle.counters.proofs.Sums.{balances}
use Rattle.gate_state.specs.State as gate
use Rattle.streams.specs.declared.Streams.{Streams}
use Rattle.demux_state.specs.State.{Said, number_of, packet_counted, malformed_counted}
use Rattle.demux_places.specs.declared.Outcome.{Outcome}
use Rattle.demux_places.specs.Places.{outcome_of}
use Rattle.ties_demux.specs.Card.{Card, Told, input_of, lent_on, call_on, card_acts, card_tells, shown_by, AllStand}
use Rattle.ties_demux.specs.History.{Given, OfBytes, tells, acts, ruled}
use Rattle.ties_demux.specs.Counting.{is_counted, is_malformed, calls_on, numbers_told, all_numbers}
use Rattle.ties_demux.proofs.AsBefore.{streams_after, counts_by_answer}
use Rattle.ties_demux.proofs.Counts.{no_sums}
use Rattle.ties_demux.proofs.History.{call, call_tells_lem, call_stands}

-- ---- the two counts of an input, on every card

module _ (s : Streams) where
  by_number : (a b c : Bool)
      → ((cond b (malformed_counted s) (cond (a || c) (packet_counted s) s)).packets ≡ s.packets + cond (a || b || c) 1 0)
      × ((cond b (malformed_counted s) (cond (a || c) (packet_counted s) s)).malformed ≡ s.malformed + cond b 1 0)
  by_number true true c = (refl, refl)
  by_number false true c = (refl, refl)
  by_number true false c = (refl, omega arith)
  by_number false false true = (refl, omega arith)
  by_number false false false = (omega arith, omega arith)

  after : (a : Said) → ((streams_after a s).packets ≡ s.packets + cond (is_counted a) 1 0) × ((streams_after a s).malformed ≡ s.malformed + cond (is_malformed a) 1 0)
  after a = by_number (eqb (number_of a) 29) (eqb (number_of a) 30) (eqb (number_of a) 43)

module _ (i : ℕ) where
  one_call : (c : Card) (x : Given)
      → (((acts c x).inputs i).streams.packets ≡ (c.inputs i).streams.packets + cond (eqb i x.input && is_counted (tells c x).answer) 1 0)
      × (((acts c x).inputs i).streams.malformed ≡ (c.inputs i).streams.malformed + cond (eqb i x.input && is_malformed (tells c x).answer) 1 0)
  unfolding card_acts card_tells
  one_call c x = go (eqb i x.input) refl
    where
      go : (b : Bool) → eqb i x.input ≡ b
          → ((cond b (input_of (call_on c x.input x.packet).store) (c.inputs i)).streams.packets ≡ (c.inputs i).streams.packets + cond (b && is_counted (call_on c x.input x.packet).answer) 1 0)
          × ((cond b (input_of (call_on c x.input x.packet).store) (c.inputs i)).streams.malformed ≡ (c.inputs i).streams.malformed + cond (b && is_malformed (call_on c x.input x.packet).answer) 1 0)
      go true e =
          let q : i ≡ x.input = eqb-true _ _ e in
          let t = counts_by_answer (lent_on x.input c) x.input x.packet in
          let u = after (c.inputs x.input).streams (call_on c x.input x.packet).answer in (
            ap (λ (y : Streams). y.packets) t ∙ u.0 ∙ ap (λ (j : ℕ). (c.inputs j).streams.packets + cond (is_counted (call_on c x.input x.packet).answer) 1 0) (sym q),
            ap (λ (y : Streams). y.malformed) t ∙ u.1 ∙ ap (λ (j : ℕ). (c.inputs j).streams.malformed + cond (is_malformed (call_on c x.input x.packet).answer) 1 0) (sym q),
          )
      go false e = (omega arith, omega arith)

  pub packets_count : (c : Card) (xs : List Given) → ((store_after acts c xs).inputs i).streams.packets ≡ (c.inputs i).streams.packets + calls_on i is_counted c xs
  unfolding store_after calls_on
  packets_count c [] = omega arith
  packets_count c (x ∷ xs) = omega (arith, packets_count (acts c x) xs, (one_call c x).0)

  pub malformed_count : (c : Card) (xs : List Given) → ((store_after acts c xs).inputs i).streams.malformed ≡ (c.inputs i).streams.malformed + calls_on i is_malformed c xs
  unfolding store_after calls_on
  malformed_count c [] = omega arith
  malformed_count c (x ∷ xs) = omega (arith, malformed_count (acts c x) xs, (one_call c x).1)

-- ---- the gate's counters

count_append : (n : ℕ) (a b : List ℕ) → count_of n (a ++ b) ≡ count_of n a + count_of n b
count_append n [] b = omega arith
count_append n (x ∷ a) b = go (eqb x n) (count_append n a b)
  where
    go : (t : Bool) → count_of n (a ++ b) ≡ count_of n a + count_of n b → cond t (suc (count_of n (a ++ b))) (count_of n (a ++ b)) ≡ cond t (suc (count_of n a)) (count_of n a) + count_of n b
    go true e = omega arith
    go false e = e

sums_append : (a b : List ℕ) (c d e : Counters) → Sums a c d → Sums b d e → Sums (a ++ b) c e
sums_append a b c d e s t = record {
  emitted = omega (arith, s.emitted, t.emitted, count_append 1 a b);
  suppressed = omega (arith, s.suppressed, t.suppressed, count_append 2 a b);
  short = omega (arith, s.short, t.short, count_append 31 a b);
  mismatches = omega (arith, s.mismatches, t.mismatches, count_append 3 a b);
  failures = omega (arith, s.failures, t.failures, count_append 31 a b, count_append 3 a b);
  completed = omega (arith, s.completed, t.completed, count_append 1 a b, count_append 2 a b, count_append 31 a b, count_append 3 a b);
}

told_number : (a : gate.Said) → (outcome_of a).answer ≡ gate.number_of a
told_number (gate.plain n) = refl
told_number (gate.short n) = refl
told_number (gate.mismatch stored worked) = refl

told_numbers : (l : List gate.Said) → map (λ (o : Outcome). o.answer) (map outcome_of l) ≡ map gate.number_of l
told_numbers [] = refl
told_numbers (a ∷ l) = λ i. told_number a i ∷ told_numbers l i

pub gate_counts : (c : Card) (x : Given) → AllStand c → AllBytes x.packet → Sums (numbers_told (tells c x)) c.gates.counters (acts c x).gates.counters
unfolding card_acts
gate_counts c x st b =
    let q : numbers_told (tells c x) ≡ map gate.number_of (ruled (shown_by c) x).answers = ap numbers_told (call_tells_lem c x st b) ∙ told_numbers (ruled (shown_by c) x).answers in
    subst (λ (l : List ℕ). Sums l c.gates.counters (call_on c x.input x.packet).store.gate.counters) (sym q) (call c x st b).sums

pub all_counts : (c : Card) (xs : List Given) → AllStand c → OfBytes xs → Sums (all_numbers c xs) c.gates.counters (store_after acts c xs).gates.counters
unfolding all_numbers store_after
all_counts c [] st b = no_sums c.gates.counters
all_counts c (x ∷ xs) st b =
    sums_append (numbers_told (tells c x)) (all_numbers (acts c x) xs) c.gates.counters (acts c x).gates.counters (store_after acts (acts c x) xs).gates.counters
    (gate_counts c x st b.0) (all_counts (acts c x) xs (call_stands c x st b.0) b.1)

-- completed = emitted + suppressed + CRC failures, and CRC failures = too short + mismatches
pub balanced : (c : Card) (xs : List Given) → AllStand c → OfBytes xs → c.gates.counters ≡ zeroes
    → ((store_after acts c xs).gates.counters.completed ≡ (store_after acts c xs).gates.counters.emitted + (store_after acts c xs).gates.counters.suppressed + (store_after acts c xs).gates.counters.crc_failures)
    × ((store_after acts c xs).gates.counters.crc_failures ≡ (store_after acts c xs).gates.counters.short_sections + (store_after acts c xs).gates.counters.crc_mismatches)
balanced c xs st b z = balances (all_numbers c xs) c.gates.counters (store_after acts c xs).gates.counters (all_counts c xs st b) z
