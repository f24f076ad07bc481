-- Offers to a gate as a host in another language makes them, one after another, on the words and slices that it lends.
use Rattle.std.specs.Prelude.{ℕ, ◌≡◌, List}
use Rattle.gate.specs.Rules.{Offer}
use Rattle.pats.specs.Store.{Record}
use Rattle.gate_pats.specs.Store.{Kept, kept_of}
use Rattle.host_words.specs.Inputs.{input_number}
use Rattle.host_words.specs.Pids.{pid_number}
use Rattle.host_gate_words.specs.Words.{gate_of, counters_of}
use Rattle.host_gate.specs.Calls.{gate_opened, gate_offered}

-- what the host keeps from call to call: the thirteen words of the gate and its counters, the slices of its rows, and a watch record
pub record Lent : Type 0 where
  pub words : List ℕ
  pub keys : List ℕ
  pub changes : List ℕ
  pub watch : Record
  pub failure : List ℕ

-- `petrizolu_gate_offer`: a PID of 32 bits and a section. The number that is answered
unfoldable pub tells : Lent → Offer → ℕ
tells l o = (gate_offered l.words l.keys l.changes l.watch o.input o.pid o.section l.failure).answer

-- what stands in the words and slices then
unfoldable pub acts : Lent → Offer → Lent
acts l o =
    let r = gate_offered l.words l.keys l.changes l.watch o.input o.pid o.section l.failure in
    record { words = r.gate; keys = r.keys; changes = r.changes; watch = r.watch; failure = r.failure }

-- the gate and the counters that the words stand for, and the record
abbrev pub store_in : Lent → Kept
store_in l = kept_of (gate_of l.words) (counters_of l.words) l.keys l.changes l.watch

-- the offer to the crate gate_pats that is made of it: a number of more than 16 bits stays no PID, one of more than 8 no input
abbrev pub offer_of : Offer → Offer
offer_of o = record { input = input_number o.input; pid = pid_number o.pid; section = o.section }

-- as `petrizolu_gate_open` leaves the words of the gate and of the watch where it answers 7, whatever stood in them and in what else is lent
pub record OpenedBy (l : Lent) : Type 0 where
  pub before : List ℕ
  pub capacity : ℕ
  pub settings : ℕ
  pub rule : ℕ
  pub extra : List ℕ
  pub watched : List ℕ
  pub answer : (gate_opened before capacity settings rule extra l.keys l.changes l.watch.slots l.watch.cells watched).answer ≡ 7
  pub words : l.words ≡ (gate_opened before capacity settings rule extra l.keys l.changes l.watch.slots l.watch.cells watched).gate
  pub watch : l.watch.words ≡ (gate_opened before capacity settings rule extra l.keys l.changes l.watch.slots l.watch.cells watched).watch
