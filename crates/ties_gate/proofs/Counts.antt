-- The counters: each offer that is judged is counted once, under its answer. From a fresh record, after each call, completed is the sum of emitted,
-- suppressed and CRC failures, CRC failures the sum of short sections and mismatches, and each term is the number of offers given that answer.
-- Assumes nothing.
use Prim.Native.Nat.{ℕ, ◌+◌, ◌<◌, ◌≤◌}
use mathlib.Core.Path.{◌≡◌}
use mathlib.Core.List.{List, [], ◌∷◌}
use mathlib.Core.Bool.{◌||◌}
use native.Mathlib.Omega.{arith}
use borrow.Author.Tests.{ltb-false, ne_eqb}
use Rattle.laws.specs.Runs.{answers, store_after}
use Rattle.answers.specs.Answers.{refusal_no}
use Rattle.answers.specs.declared.Refusal.{Refusal}
use Rattle.answers.proofs.Laws.{refused_from_10, refused_not_31}
use Rattle.counters.specs.Rules.{count_of, Sums, Counts}
use Rattle.counters.proofs.Sums.{kept, failed, counted, all_sums, balances}
use Rattle.ring.specs.Store.{seen_of, stamp_of}
use Rattle.ring.specs.declared.Seen.{Seen}
use Rattle.offers.specs.Offers.{is_short, verdict_of}
use Rattle.offers.specs.declared.Arrival.{Arrival}
use Rattle.offers.specs.declared.Verdict.{Verdict}
use Rattle.offers.specs.declared.Verdict.TheVariants.{Refused, Failed, Arrived}
use Rattle.gate_state.specs.State.{number_of, seen_by}
use Rattle.counters.specs.Counters.{zeroes}
use Rattle.gate.specs.Store.{is_whole, Store, admitted_to, carried, offered}
use Rattle.gate.specs.Rules.{Offer}
use Rattle.gate.specs.View.{store_tells, store_no, store_acts}
use Rattle.gate_state.proofs.Laws.{answer_said, failure_no_lem}

-- what the ring sees of a section that arrived
abbrev seen_for : Store → Arrival → Seen
seen_for s a = seen_of s.gate.ring s.keys s.changes a.key (stamp_of a.version a.change)

-- a refusal is neither 1 nor 2 nor 3, nor 31
refused_none : (r : Refusal) (n : ℕ) → n < 10 → count_of n (refusal_no r ∷ []) ≡ 0
refused_none r n h = let k : 10 ≤ refusal_no r = ltb-false _ _ (refused_from_10 r) in rw (ne_eqb (refusal_no r) n (λ e. omega (arith, h, k, e)))

refused_not_short : (r : Refusal) → count_of 31 (refusal_no r ∷ []) ≡ 0
refused_not_short r = rw (ne_eqb (refusal_no r) 31 (λ e. refused_not_31 r e))

-- every call on every store
pub counts : (s : Store) (o : Offer) → Counts (store_no s o) s.counters (store_acts s o).counters
unfolding store_tells store_acts offered carried admitted_to seen_by
counts s o = go (verdict_of (is_whole s) s.counters s.gate.change_rule o.input o.pid o.section)
  where
    go : (v : Verdict) → Counts (number_of (carried s o.section v).answer) s.counters (carried s o.section v).store.counters
    go (Refused r) = kept s.counters (refusal_no r) (refused_none r 1 (omega arith)) (refused_none r 2 (omega arith)) (refused_none r 3 (omega arith)) (refused_not_short r)
    go (Failed f) = rw (failure_no_lem f) (failed s.counters (is_short f))
    go (Arrived a) = let x = seen_for s a in rw (answer_said (x.changed || s.gate.repeats)) (counted s.counters (x.changed || s.gate.repeats) x.evicted)

-- every sequence of calls on every store
pub sums : (s : Store) (os : List Offer) → Sums (answers store_no store_acts s os) s.counters (store_after store_acts s os).counters
sums s os = all_sums store_no store_acts (λ (x : Store). x.counters) counts s os

-- from a fresh record: both sums
pub balanced : (s : Store) (os : List Offer) → s.counters ≡ zeroes →
    ((store_after store_acts s os).counters.completed ≡ (store_after store_acts s os).counters.emitted + (store_after store_acts s os).counters.suppressed + (store_after store_acts s os).counters.crc_failures)
    × ((store_after store_acts s os).counters.crc_failures ≡ (store_after store_acts s os).counters.short_sections + (store_after store_acts s os).counters.crc_mismatches)
balanced s os z = balances (answers store_no store_acts s os) s.counters (store_after store_acts s os).counters (sums s os) z
