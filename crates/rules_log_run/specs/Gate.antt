-- What the gate's rule answers beside the kinds of a log's records (docs/RULES.md, "Gate" and "Logs").
-- Assumes nothing.
use Rattle.std.specs.Prelude.{ℕ, List, [], ◌∷◌, Bool, cond, ◌||◌, eqb, get_or}
use Rattle.gate.specs.Rules.{Offer, Manner}
use Rattle.rules_logs.specs.Records.{Bytes}
use Rattle.rules_logs.specs.Sections.{Given}
use Rattle.rules_log_run.specs.Run.{Settings, Kept, entry_of}

-- the section as it is offered
abbrev pub offer_of : Given → Offer
offer_of g = record { input = g.input; pid = g.pid; section = g.section }

-- a gate with a log's settings, following or not
abbrev pub manner_of : Settings → (follow : Bool) → Manner
manner_of o follow = record { capacity = o.capacity; repeats = o.repeats; follow = follow; rule = o.rule }

-- the kind of the record for this answer of the gate: emitted 1, suppressed 2, short (31) 3, mismatch (3) 4; 0: every other gives none
unfoldable pub kind_for : (answer : ℕ) → ℕ
kind_for a = cond (eqb a 31) 3 (cond (eqb a 3) 4 (cond (eqb a 1 || eqb a 2) a 0))

-- the kind of the first record; 0 where there is none
abbrev pub kind_in : List Bytes → ℕ
kind_in [] = 0
kind_in (e ∷ es) = get_or e 0 0

-- for each section the kind of the gate's record, which is its first
unfoldable pub kinds_from : Settings → Kept → List Given → List ℕ
kinds_from o k [] = []
kinds_from o k (g ∷ gs) = kind_in (entry_of o k g).records ∷ kinds_from o (entry_of o k g).kept gs
