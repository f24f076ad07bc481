-- A card (docs/RULES.md, "Inputs"): several tuners, each with a watch record of its own, and one gate for all. A call on an input is lent the record of
-- that input, and only that one.
use Rattle.std.specs.Prelude.{ℕ, List, [], ◌∷◌, Bool, cond, ◌&&◌, eqb}
use Rattle.ring.specs.Rules.{Row}
use Rattle.pat.specs.Pat.{set_n}
use Rattle.watched.specs.Rules.{Watch}
use Rattle.counters.specs.Counters.{zeroes}
use Rattle.counters.specs.declared.Counters.{Counters}
use Rattle.gate_state.specs.State.{Said}
use Rattle.gate.specs.Rules.{Offer, Manner, Held, tells, acts}
use Rattle.ties_gate.specs.Watching.{no_pid, is_followed}

-- one gate, and the watch record of each input
pub record Card : Type 0 where
  pub rows : List Row
  pub counters : Counters
  pub watches : (input : ℕ) → Watch

-- the gate with the record of input i
abbrev pub lent_on : (i : ℕ) → Card → Held
lent_on i c = record { rows = c.rows; counters = c.counters; watch = c.watches i }

-- the card when that call is over
abbrev pub back_from : (i : ℕ) → Held → Card → Card
back_from i h c = record { rows = h.rows; counters = h.counters; watches = λ j. cond (eqb j i) h.watch (c.watches j) }

-- a section on an input: what is answered, and the card after it
unfoldable pub card_tells : Manner → Card → Offer → Said
card_tells m c o = tells m (lent_on o.input c) o

unfoldable pub card_acts : Manner → Card → Offer → Card
card_acts m c o = back_from o.input (acts m (lent_on o.input c) o) c

-- as opening leaves it: no rows, counters 0, on each input its protected PIDs watched and no PAT followed
abbrev pub empty_card : (protected : ℕ → ℕ → Bool) → Card
empty_card protected = record { rows = []; counters = zeroes; watches = λ i. record { watched = protected i; protected = protected i; followed = no_pid } }

-- N of input i after a history of offers: the PIDs of the programs, but program 0, of the last PAT that was followed on that input; n where none was
unfoldable pub n_on : (i : ℕ) → Manner → Card → (n : ℕ → Bool) → List Offer → ℕ → Bool
n_on i m c n [] = n
n_on i m c n (o ∷ os) = n_on i m (card_acts m c o) (cond (eqb i o.input && is_followed m (lent_on o.input c) o) (set_n o.section) n) os
