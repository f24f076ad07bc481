-- What the calls of the gate and of the watch answer and leave in the words that a host lends: what gate_pats/specs/Store.antt and
-- watched/specs/Store.antt say of the gate that the words hold.
use Rattle.std.specs.Prelude.{ℕ, List, cond, length, eqb}
use Rattle.host_words.specs.Inputs.{input_number}
use Rattle.host_words.specs.Pids.{pid_number}
use Rattle.gate_state.specs.State.{number_of}
use Rattle.host_words.specs.Answers.{Words, words}
use Rattle.host_gate_words.specs.Words.{settings_of, gate_of, counters_of, words_of, words_after, failure_after}
use Rattle.watched.specs.Store.{Opening, asked}
use Rattle.pats.specs.Store.{Record}
use Rattle.gate.specs.Store.{Begun}
use Rattle.gate_pats.specs.Store.{opened_with, record_opened, Offering, kept_of, offered_with}

-- ---- opening

-- an answer, the gate's thirteen words and the words of the watch
pub record GateBegun : Type 0 where
  pub answer : ℕ
  pub gate : List ℕ
  pub watch : List ℕ

abbrev pub begun : ℕ → List ℕ → List ℕ → GateBegun
begun answer gate watch = record { answer = answer; gate = gate; watch = watch }

-- 7 writes all thirteen words; a refused opening leaves them as they were
abbrev pub begun_as : List ℕ → Begun → GateBegun
begun_as gate b = begun b.answer (cond (eqb b.answer 7) (words_of b.gate b.counters) gate) b.words

unfoldable pub gate_opened : List ℕ → ℕ → ℕ → ℕ → List ℕ → List ℕ → List ℕ → List ℕ → List ℕ → List ℕ → GateBegun
gate_opened gate capacity settings rule extra keys changes slots cells watch =
    begun_as gate (opened_with (settings_of capacity settings rule) extra (length keys) (length changes) (length slots) (length cells) watch)

-- ---- offering

-- an answer, the gate's thirteen words, its rows, the watch record, and the words of a failure
pub record GateLeft : Type 0 where
  pub answer : ℕ
  pub gate : List ℕ
  pub keys : List ℕ
  pub changes : List ℕ
  pub watch : Record
  pub failure : List ℕ

abbrev pub left : ℕ → List ℕ → List ℕ → List ℕ → Record → List ℕ → GateLeft
left answer gate keys changes watch failure = record { answer = answer; gate = gate; keys = keys; changes = changes; watch = watch; failure = failure }

-- words 4 to 12 are written; where the gate and its counters stay as they were, all thirteen do
abbrev pub left_as : List ℕ → List ℕ → Offering → GateLeft
left_as gate failure l =
    left (number_of l.answer) (words_after gate l.left.gate l.left.counters) l.left.keys l.left.changes l.left.watch (failure_after l.answer failure)

unfoldable pub gate_offered : List ℕ → List ℕ → List ℕ → Record → (input pid : ℕ) → List ℕ → List ℕ → GateLeft
gate_offered gate keys changes watch input pid section failure =
    left_as gate failure (offered_with (kept_of (gate_of gate) (counters_of gate) keys changes watch) (input_number input) (pid_number pid) section)

-- ---- the watch

abbrev pub opened_as : Opening → Words
opened_as o = words o.answer o.words

-- the record of one input: 12, then 13, each with its words as before, else 7. Capacity and change rule are not looked at
unfoldable pub watch_opened : ℕ → List ℕ → List ℕ → List ℕ → List ℕ → Words
watch_opened settings extra slots cells watch = opened_as (record_opened (settings_of 0 settings 0) extra (length slots) (length cells) watch)

-- a number of 8192 or more answers 12, also one of more than 16 bits
unfoldable pub watch_asked : List ℕ → ℕ → ℕ
watch_asked watch pid = asked watch (pid_number pid)
