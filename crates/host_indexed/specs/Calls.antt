-- What the calls of the gate with an index answer and leave in the words that a host lends: what gate_pats_indexed/specs/Store.antt says of the gate that
-- the words hold.
use Rattle.std.specs.Prelude.{ℕ, List, cond, length, eqb}
use Rattle.host_words.specs.Inputs.{input_number}
use Rattle.host_words.specs.Pids.{pid_number}
use Rattle.gate_state.specs.State.{number_of}
use Rattle.host_gate_words.specs.Words.{settings_of, gate_of, counters_of, words_of, words_after, failure_after}
use Rattle.ring_index.specs.Store.{index_of}
use Rattle.pats.specs.Store.{Record}
use Rattle.gate_indexed.specs.Store.{Begun}
use Rattle.gate_pats_indexed.specs.Store as indexed

-- an answer, the gate's thirteen words, the buckets, and the words of the watch
pub record GateBegun : Type 0 where
  pub answer : ℕ
  pub gate : List ℕ
  pub buckets : List ℕ
  pub watch : List ℕ

abbrev pub begun : ℕ → List ℕ → List ℕ → List ℕ → GateBegun
begun answer gate buckets watch = record { answer = answer; gate = gate; buckets = buckets; watch = watch }

abbrev pub begun_as : List ℕ → Begun → GateBegun
begun_as gate b =
    begun b.answer (cond (eqb b.answer 7) (words_of b.gate b.counters) gate) b.buckets b.words

unfoldable pub gate_opened : List ℕ → ℕ → ℕ → ℕ → List ℕ → List ℕ → List ℕ → List ℕ → List ℕ → List ℕ → List ℕ → List ℕ → GateBegun
gate_opened gate capacity settings rule extra keys changes buckets links slots cells watch =
    begun_as gate (indexed.opened_with (settings_of capacity settings rule) extra (length keys) (length changes) (length links) (length slots) (length cells) buckets watch)

-- an answer, the gate's thirteen words, its rows and their index, the watch record, and the words of a failure
pub record GateLeft : Type 0 where
  pub answer : ℕ
  pub gate : List ℕ
  pub keys : List ℕ
  pub changes : List ℕ
  pub buckets : List ℕ
  pub links : List ℕ
  pub watch : Record
  pub failure : List ℕ

abbrev pub left : ℕ → List ℕ → List ℕ → List ℕ → List ℕ → List ℕ → Record → List ℕ → GateLeft
left answer gate keys changes buckets links watch failure =
    record { answer = answer; gate = gate; keys = keys; changes = changes; buckets = buckets; links = links; watch = watch; failure = failure }

abbrev pub left_as : List ℕ → List ℕ → indexed.Offering → GateLeft
left_as gate failure l =
    left (number_of l.answer)
    (words_after gate l.left.kept.gate l.left.kept.counters)
    l.left.kept.keys
    l.left.kept.changes
    l.left.index.buckets
    l.left.index.links
    l.left.kept.watch
    (failure_after l.answer failure)

unfoldable pub gate_offered : List ℕ → List ℕ → List ℕ → List ℕ → List ℕ → Record → (input pid : ℕ) → List ℕ → List ℕ → GateLeft
gate_offered gate keys changes buckets links watch input pid section failure =
    left_as gate failure (indexed.offered_with (indexed.kept_by (gate_of gate) (counters_of gate) keys changes (index_of buckets links) watch) (input_number input) (pid_number pid) section)
