-- The gate's rule for stores that pass the test of 10 and came from no history (docs/RULES.md, "Gate"): the rule as written, by the first matching row. The
-- rows are those in use by place; which of them leaves next is told by its place.
use Rattle.std.specs.Prelude.{ℕ, List, cond}
use Rattle.answers.specs.Answers.{refusal_no}
use Rattle.answers.specs.declared.Refusal.TheVariants.{CounterFull}
use Rattle.counters.specs.Counters.{any_full, failed_of}
use Rattle.counters.specs.declared.Counters.{Counters}
use Rattle.offers.specs.Offers.{is_short, read_of}
use Rattle.gate_state.specs.State.{Said, plain, failure_said}
use Rattle.offers.specs.declared.Verdict.{Verdict}
use Rattle.offers.specs.declared.Verdict.TheVariants.{Refused, Failed, Arrived}
use Rattle.ring.specs.Rules.{Laid, laid_after}
use Rattle.ring.specs.View.{laid_in}
use Rattle.watched.specs.Rules.{Watch}
use Rattle.watched.specs.View.{watch_in}
use Rattle.gate.specs.Rules.{Offer, Manner, Held, Told, row_from, admitted}
use Rattle.gate.specs.Store.{Store, Offering}
use Rattle.gate.specs.View.{memory_of}

-- what such a gate holds
pub record Placed : Type 0 where
  pub laid : Laid
  pub counters : Counters
  pub watch : Watch

-- the rows by place taken for the rows in order
abbrev pub held_at : Placed → Held
held_at x = record { rows = x.laid.rows; counters = x.counters; watch = x.watch }

pub record SaidAt : Type 0 where
  pub answer : Said
  pub held : Placed

-- answer, counters and watch are those of the gate's rule; the rows are updated, added to or replaced by place
unfoldable pub carried_at : Manner → Placed → List ℕ → Verdict → SaidAt
carried_at m x section (Refused r) = record { answer = plain (refusal_no r); held = x }
carried_at m x section (Failed f) =
    record { answer = failure_said f; held = record { laid = x.laid; counters = failed_of x.counters (is_short f); watch = x.watch } }
carried_at m x section (Arrived a) =
    let t : Told = admitted m (held_at x) (row_from a) section in
    record { answer = t.answer; held = record { laid = laid_after m.capacity (row_from a) x.laid; counters = t.held.counters; watch = t.held.watch } }

unfoldable pub said : Manner → Placed → Offer → SaidAt
said m x o = carried_at m x o.section (cond (any_full x.counters) (Refused CounterFull) (read_of m.rule o.input o.pid o.section))

unfoldable pub says_at : Manner → Placed → Offer → Said
says_at m x o = (said m x o).answer

unfoldable pub acts_at : Manner → Placed → Offer → Placed
acts_at m x o = (said m x o).held

-- what a store stands for
abbrev pub placed_by : Store → Placed
placed_by s = record { laid = laid_in (memory_of s); counters = s.counters; watch = watch_in s.words }

abbrev pub said_by : Offering → SaidAt
said_by l = record { answer = l.answer; held = placed_by l.store }
