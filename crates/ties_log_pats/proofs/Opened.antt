-- From the opening of a card: the log that is kept beside it is the log of the rules.
-- Assumes nothing.
use mathlib.Core.Path.{◌≡◌, ap}
use mathlib.Core.List.{List, map}
use Prim.Native.Nat.{ℕ, ◌^◌, ◌<◌}
use lib.ListN.{length}
use Rattle.laws.specs.Runs.{answers}
use Rattle.counters.specs.Counters.{zeroes}
use Rattle.rules_shared.specs.Touch.{untouched}
use Rattle.store.specs.Store.{store, asked}
use Rattle.sets_settle.specs.Settle.{done}
use Rattle.sets.specs.Store.{opened_of}
use Rattle.watched.specs.View.{InStep}
use Rattle.gate_state.specs.State.{said_of}
use Rattle.gate_state.specs.declared.Answer.{Answer}
use Rattle.gate_state.specs.declared.Gate.{Gate}
use Rattle.gate_state.specs.declared.Settings.{Settings as GateSettings}
use Rattle.pats.specs.Store.{Record}
use Rattle.gate_pats.specs.Store.{Kept, kept_of, opened_with}
use Rattle.ties_gate_pats.specs.Rules.{Holding, most}
use Rattle.ties_gate_pats.specs.View.{pats_of}
use Rattle.ties_gate_pats.proofs.Order.{OpenedWith}
use Rattle.ties_gate_pats.proofs.Opening.{left_open, opening_opens, opened_empty, opening_in_step, opening_gate, further_opens, further_empty, further_in_step}
use Rattle.ties_inputs.specs.Records.{records_tell, records_act}
use Rattle.ties_inputs.proofs.Records.{OpenedAll}
use Rattle.rules_logs.specs.Sections.{Given}
use Rattle.rules_log_run.specs.Run.{log_of}
use Rattle.rules_log_run.specs.Gate.{offer_of}
use Rattle.rules_log_run.specs.Lists.{AllTakable}
use Rattle.ties_log_kept.specs.Kept.{kept_log, settings_for}
use Rattle.ties_log_pats.specs.Card.{OpenRecord, with_gate, alone, card_of}
use Rattle.ties_log_pats.proofs.Card.{kept_log_passes_on_all_inputs}

module _ (st : GateSettings) (extra keys changes slots cells words : List ℕ) (h : (opened_with st extra (length keys) (length changes) (length slots) (length cells) words).answer ≡ 7) where
  abbrev start : Kept
  start = left_open (opened_with st extra (length keys) (length changes) (length slots) (length cells) words) keys changes slots cells

  abbrev lent : Record → Kept
  lent r = kept_of start.gate start.counters start.keys start.changes r

  opens : OpenedWith start
  opens = opening_opens st extra keys changes slots cells words h

  same : start.gate.follow ≡ st.follow
  same = ap (λ (g : Gate). g.follow) (opening_gate st extra keys changes slots cells words h)

  counters_zero : start.counters ≡ zeroes
  counters_zero = ap (λ (x : Holding). x.held.counters) (opened_empty st extra keys changes slots cells words h)

  each : (r : Record) → OpenRecord st start.watch r → OpenedWith (lent r)
  each r with_gate = opens
  each r (alone e s c w k) = further_opens st e s c w k start opens same

  steps : (r : Record) → OpenRecord st start.watch r → InStep r.words
  steps r with_gate = opening_in_step st extra keys changes slots cells words h
  steps r (alone e s c w k) = further_in_step st e s c w k

  none : (r : Record) → OpenRecord st start.watch r → most (pats_of (lent r)) ≡ 0
  unfolding untouched
  none r with_gate = ap (λ (x : Holding). most x.pats) (opened_empty st extra keys changes slots cells words h)
  none r (alone e s c w k) = ap (λ (x : Holding). most x.pats) (further_empty st e s c w k start opens same)

  -- THE THEOREM: opened for all its inputs, with any PIDs watched and in each manner of following, and an opened collector
  module _ (watches : ℕ → Record) (begun : (i : ℕ) → OpenRecord st start.watch (watches i))
      (limit size count : ℕ) (heads slots' cells' : List ℕ) (k : (opened_of (store (asked limit size count) heads slots' cells')).told ≡ done) where
    all_open : OpenedAll (card_of start watches)
    all_open = record { each = λ i. each (watches i) (begun i); step = λ i. steps (watches i) (begun i) }

    pub kept_log_passes_on_a_card : (gs : List Given) → AllTakable gs → length gs < 2 ^ 64 → (as' : List Answer)
        → map said_of as' ≡ answers records_tell records_act (card_of (left_open (opened_with st extra (length keys) (length changes) (length slots) (length cells) words) keys changes slots cells) watches) (map offer_of gs)
        → kept_log (settings_for st limit size count) (store (asked limit size count) heads slots' cells') as' gs ≡ log_of (settings_for st limit size count) gs
    kept_log_passes_on_a_card =
        kept_log_passes_on_all_inputs st (card_of start watches) all_open (opening_gate st extra keys changes slots cells words h) counters_zero (λ i. none (watches i) (begun i)) limit size count heads slots' cells' k
