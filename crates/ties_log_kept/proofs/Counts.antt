-- No counter of the gate reaches its end before as many sections came: each offer adds at most 1 to each.
-- Assumes nothing.
use mathlib.Core.Path.{◌≡◌, refl}
use mathlib.Core.Bool.{Bool, true, false, cond, not, ◌||◌}
use mathlib.Core.List.{List}
use Prim.Native.Nat.{ℕ, suc, ◌+◌, ◌≤◌}
use native.Mathlib.Omega.{arith}
use borrow.Author.Tests.{ne_eqb}
use Rattle.answers.specs.declared.Refusal.TheVariants.{CounterFull}
use Rattle.ring.specs.Rules.{changed, evicts}
use Rattle.counters.specs.Counters.{any_full, is_full, plus_of}
use Rattle.counters.specs.declared.Counters.{Counters}
use Rattle.offers.specs.Offers.{is_short, read_of}
use Rattle.offers.specs.declared.Verdict.{Verdict}
use Rattle.offers.specs.declared.Verdict.TheVariants.{Refused, Failed, Arrived}
use Rattle.gate.specs.Rules.{Offer, Manner, Held, row_from, admitted, carried_in, told}

-- n more offers can be counted
pub record CanCount (n : ℕ) (c : Counters) : Type 0 where
  pub completed : c.completed + n ≤ 18446744073709551615
  pub emitted : c.emitted + n ≤ 18446744073709551615
  pub suppressed : c.suppressed + n ≤ 18446744073709551615
  pub failures : c.crc_failures + n ≤ 18446744073709551615
  pub short : c.short_sections + n ≤ 18446744073709551615
  pub mismatches : c.crc_mismatches + n ≤ 18446744073709551615
  pub evictions : c.evictions + n ≤ 18446744073709551615

below : (m n : ℕ) → m + suc n ≤ 18446744073709551615 → is_full m ≡ false
below m n h = ne_eqb m 18446744073709551615 (λ e. omega arith)

pub not_full : (n : ℕ) (c : Counters) → CanCount (suc n) c → any_full c ≡ false
not_full n c k =
    rw (
      below c.completed n k.completed,
      below c.emitted n k.emitted,
      below c.suppressed n k.suppressed,
      below c.crc_failures n k.failures,
      below c.short_sections n k.short,
      below c.crc_mismatches n k.mismatches,
      below c.evictions n k.evictions,
    )
    refl

plus_one : (m n : ℕ) (b : Bool) → m + suc n ≤ 18446744073709551615 → plus_of m b + n ≤ 18446744073709551615
plus_one m n true h = omega arith
plus_one m n false h = omega arith

same_one : (m n : ℕ) → m + suc n ≤ 18446744073709551615 → m + n ≤ 18446744073709551615
same_one m n h = omega arith

module _ (n : ℕ) (m : Manner) (h : Held) (k : CanCount (suc n) h.counters) where
  carried_counts : (section : List ℕ) (v : Verdict) → CanCount n (carried_in m h section v).held.counters
  unfolding carried_in admitted
  carried_counts section (Refused r) = record {
    completed = same_one _ n k.completed;
    emitted = same_one _ n k.emitted;
    suppressed = same_one _ n k.suppressed;
    failures = same_one _ n k.failures;
    short = same_one _ n k.short;
    mismatches = same_one _ n k.mismatches;
    evictions = same_one _ n k.evictions;
  }
  carried_counts section (Failed f) = record {
    completed = plus_one h.counters.completed n true k.completed;
    emitted = same_one _ n k.emitted;
    suppressed = same_one _ n k.suppressed;
    failures = plus_one h.counters.crc_failures n true k.failures;
    short = plus_one h.counters.short_sections n (is_short f) k.short;
    mismatches = plus_one h.counters.crc_mismatches n (not (is_short f)) k.mismatches;
    evictions = same_one _ n k.evictions;
  }
  carried_counts section (Arrived a) = record {
    completed = plus_one h.counters.completed n true k.completed;
    emitted = plus_one h.counters.emitted n (changed (row_from a) h.rows || m.repeats) k.emitted;
    suppressed = plus_one h.counters.suppressed n (not (changed (row_from a) h.rows || m.repeats)) k.suppressed;
    failures = same_one _ n k.failures;
    short = same_one _ n k.short;
    mismatches = same_one _ n k.mismatches;
    evictions = plus_one h.counters.evictions n (evicts m.capacity (row_from a) h.rows) k.evictions;
  }

  pub told_counts : (o : Offer) → CanCount n (told m h o).held.counters
  unfolding told
  told_counts o = carried_counts o.section (cond (any_full h.counters) (Refused CounterFull) (read_of m.rule o.input o.pid o.section))
