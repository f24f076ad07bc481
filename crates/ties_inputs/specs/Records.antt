-- A card over lent memory (docs/RULES.md, "Inputs" and "Watched PIDs"): one gate, and for each input a watch record of three slices. A call on an input is
-- lent the record of that input, and only that one.
use Rattle.std.specs.Prelude.{ℕ, List, cond, eqb}
use Rattle.counters.specs.declared.Counters.{Counters}
use Rattle.gate_state.specs.State.{Said}
use Rattle.gate_state.specs.declared.Gate.{Gate}
use Rattle.gate.specs.Rules.{Offer}
use Rattle.pats.specs.Store.{Record}
use Rattle.gate_pats.specs.Store.{Kept, kept_of}
use Rattle.gate_pats.specs.View.{kept_tells, kept_acts}

pub record Records : Type 0 where
  pub gate : Gate
  pub counters : Counters
  pub keys : List ℕ
  pub changes : List ℕ
  pub watches : (input : ℕ) → Record

-- the gate with the record of input i
abbrev pub kept_on : (i : ℕ) → Records → Kept
kept_on i c = kept_of c.gate c.counters c.keys c.changes (c.watches i)

-- the card when that call is over
abbrev pub returned : (i : ℕ) → Kept → Records → Records
returned i s c =
    record { gate = s.gate; counters = s.counters; keys = s.keys; changes = s.changes; watches = λ j. cond (eqb j i) s.watch (c.watches j) }

-- a section on an input: what is answered, and the card after it
unfoldable pub records_tell : Records → Offer → Said
records_tell c o = kept_tells (kept_on o.input c) o

unfoldable pub records_act : Records → Offer → Records
records_act c o = returned o.input (kept_acts (kept_on o.input c) o) c
