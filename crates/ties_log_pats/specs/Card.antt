-- A card as it is opened (docs/RULES.md, "Inputs" and "Lent memory"): the gate with the watch record of one input, and the record of each further input like it.
-- Assumes nothing.
use Rattle.std.specs.Prelude.{ℕ, ◌≡◌, List, length}
use Rattle.gate_state.specs.declared.Settings.{Settings}
use Rattle.pats.specs.Store.{Record, record_of}
use Rattle.gate_pats.specs.Store.{Kept, record_opened}
use Rattle.ties_inputs.specs.Records.{Records}

-- a record that an opening answered 7 for: the one that the gate was opened with, or one that was opened alone, with extra PIDs of its own
pub data OpenRecord (st : Settings) (first : Record) : Record → Type 0 where
  with_gate : OpenRecord st first first
  alone : (extra slots cells words : List ℕ) → (record_opened st extra (length slots) (length cells) words).answer ≡ 7
      → OpenRecord st first (record_of (record_opened st extra (length slots) (length cells) words).words slots cells)

-- the gate that opening left, with these records
abbrev pub card_of : Kept → (watches : ℕ → Record) → Records
card_of s watches = record { gate = s.gate; counters = s.counters; keys = s.keys; changes = s.changes; watches = watches }
