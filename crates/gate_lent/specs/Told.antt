-- What the gate's offer over lent counters leaves, as the promise of the gate with a watch record says it (docs/RULES.md, "Gate" and "Watched PIDs").
use Rattle.std.specs.Prelude.{List, ℕ}
use Rattle.gate_state.specs.State.{said_of}
use Rattle.counters.specs.declared.Counters.{Counters}
use Rattle.pats.specs.Store.{Record}
use Rattle.gate_pats.specs.Store.{kept_of, Offering}
use Rattle.gate_lent.specs.declared.Told.{Told}

-- what a call handed back, with the counters, the slices of the ring and the watch record as it left them
abbrev pub told_by : Told → Counters → List ℕ → List ℕ → Record → Offering
told_by t counters keys changes watch = record { answer = said_of t.answer; left = kept_of t.gate counters keys changes watch }
