-- The counters in every history of offers (docs/RULES.md, "Gate"), by the numbers of the answers and by what the rule says of each offer.
use Rattle.std.specs.Prelude.{ℕ, suc, List, [], ◌∷◌, Bool, false, cond}
use Rattle.answers.specs.declared.Refusal.TheVariants.{CounterFull}
use Rattle.counters.specs.Counters.{any_full}
use Rattle.offers.specs.Offers.{read_of}
use Rattle.offers.specs.declared.Verdict.{Verdict}
use Rattle.offers.specs.declared.Verdict.TheVariants.{Refused, Failed, Arrived}
use Rattle.ring.specs.Rules.{evicts}
use Rattle.gate.specs.Rules.{Offer, Manner, Held, row_from, acts}

-- a key leaves for a section that arrived: its key is new, and as many keys are held as the capacity says
abbrev pub leaves_for : Manner → Held → Verdict → Bool
leaves_for m h (Refused r) = false
leaves_for m h (Failed f) = false
leaves_for m h (Arrived a) = evicts m.capacity (row_from a) h.rows

unfoldable pub is_evicting : Manner → Held → Offer → Bool
is_evicting m h o = leaves_for m h (cond (any_full h.counters) (Refused CounterFull) (read_of m.rule o.input o.pid o.section))

-- for how many offers of a history a key leaves
unfoldable pub evictions_in : Manner → Held → List Offer → ℕ
evictions_in m h [] = 0
evictions_in m h (o ∷ os) = cond (is_evicting m h o) (suc (evictions_in m (acts m h o) os)) (evictions_in m (acts m h o) os)
