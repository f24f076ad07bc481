-- The log that is kept beside an opened gate and an opened collector is the log of the rules: `kept-log-passes`.
-- Assumes nothing.
use mathlib.Core.Path.{◌≡◌, refl, sym, ap, ◌∙◌}
use mathlib.Core.Bool.{Bool, true}
use mathlib.Core.List.{List, [], ◌∷◌, map}
use Prim.Native.Nat.{ℕ, suc, ◌^◌, ◌<◌}
use native.Mathlib.Omega.{arith}
use lib.ListN.{length, replicate, length-replicate}
use Rattle.laws.specs.Runs.{answers}
use Rattle.rules_shared.specs.Cells.{Cells}
use Rattle.counters.specs.Counters.{zeroes}
use Rattle.ticks.specs.Slots.{cells_seen}
use Rattle.ticks.proofs.Cells.{cells_length}
use Rattle.store.specs.Store.{Store, store, asked}
use Rattle.sets_settle.specs.Settle.{done}
use Rattle.sets.specs.Store.{opened_of}
use Rattle.ties_sets.specs.View.{seen}
use Rattle.ties_sets.specs.View.{Opened as OpenedSets}
use Rattle.ties_sets.specs.View.{Reached as SetsReached}
use Rattle.ties_sets.proofs.History as sets
use Rattle.gate_state.specs.State.{said_of, by_sections}
use Rattle.gate_state.specs.declared.Answer.{Answer}
use Rattle.gate_state.specs.declared.Settings.{Settings as GateSettings}
use Rattle.gate.specs.Rules.{Held, told, tells, acts, OfBytes}
use Rattle.gate.specs.Store.{opened}
use Rattle.gate.specs.View.{store_tells, store_acts}
use Rattle.ties_gate.specs.Watching.{is_protected, empty_held}
use Rattle.ties_gate.proofs.Opening.{left_open, answers_from_open}
use Rattle.rules_logs.specs.Records.{Bytes}
use Rattle.rules_logs.specs.Sections.{Given}
use Rattle.rules_logs.specs.Verdict as records
use Rattle.rules_log_run.specs.Run as rules
use Rattle.rules_log_run.specs.Run.{Settings, Kept, records_from, records_of, log_of}
use Rattle.rules_log_run.specs.Gate.{offer_of, manner_of}
use Rattle.rules_log_run.specs.Entries.{joined}
use Rattle.rules_log_run.specs.Lists.{Takable, AllTakable}
use Rattle.ties_log_kept.proofs.Cells.{cells_do_not_matter, entries_joined}
use Rattle.ties_log_kept.specs.Kept.{kept_log, settings_for}
use Rattle.ties_log_kept.proofs.Kept.{Turn, keeps}
use Rattle.ties_log_kept.proofs.Counts.{CanCount, not_full, told_counts}

pub all_bytes : (gs : List Given) → AllTakable gs → OfBytes (map offer_of gs)
all_bytes [] t = tt
all_bytes (g ∷ gs) t = (t.0.of_bytes, all_bytes gs t.1)

-- ---- the gate's rule

module _ (o : Settings) (with : o.pids ≡ true) (follow : Bool) where
  one : (n : ℕ) (h : Held) (g : Given) → Takable g → CanCount (suc n) h.counters
      → Turn o follow h.rows (acts (manner_of o follow) h (offer_of g)).rows (tells (manner_of o follow) h (offer_of g)) g × CanCount n (acts (manner_of o follow) h (offer_of g)).counters
  unfolding tells acts
  one n h g t k = (record { held = h; same = refl; counts = not_full n h.counters k; says = refl; rows = refl }, told_counts n (manner_of o follow) h k (offer_of g))

  -- from any gate of the rule, whatever it watches
  pub rule_keeps : (gs : List Given) → AllTakable gs → (h : Held) → CanCount (length gs) h.counters → (c : Store) → SetsReached c → (as' : List Answer)
      → map said_of as' ≡ answers (tells (manner_of o follow)) (acts (manner_of o follow)) h (map offer_of gs)
      → kept_log o c as' gs ≡ records.log_of (records_from o (record { rows = h.rows; sets = seen c }) gs)
  rule_keeps gs t h k c z as' e = keeps o with follow (tells (manner_of o follow)) (acts (manner_of o follow)) (λ (h : Held). h.rows) (λ n h. CanCount n h.counters) one gs t h k c z as' e

-- ---- an opened collector

module _ (o : Settings) (heads slots cells : List ℕ) (h : (opened_of (store (asked o.limit o.size o.count) heads slots cells)).told ≡ done) where
  abbrev collector : Store
  collector = store (asked o.limit o.size o.count) heads slots cells

  pub opened_collector : OpenedSets collector
  opened_collector = sets.opening_opens o.limit o.size o.count heads slots cells h

  abbrev cells_there : Cells
  cells_there = cells_seen cells o.size o.count

  pub shown_opened : record { rows = []; sets = seen collector } ≡ rules.opened_over o cells_there
  unfolding seen
  shown_opened =
      let e = sets.opened_seen collector opened_collector in
      λ i. record { rows = []; sets = record { settings = record { limit = o.limit; cell_size = o.size }; sets = e i; cells = cells_there; clock = 0 } }

  -- what its cells held before matters to no record
  pub opened_records : (gs : List Given) → records_from o (record { rows = []; sets = seen collector }) gs ≡ records_of o gs
  unfolding records_of
  opened_records gs =
      ap (λ (k : Kept). records_from o k gs) shown_opened
      ∙ sym (entries_joined o gs (rules.opened_over o cells_there))
      ∙ ap joined (cells_do_not_matter o cells_there (replicate o.count []) (cells_length cells o.size o.count ∙ sym (length-replicate {A = Bytes} o.count [])) gs)
      ∙ entries_joined o gs (rules.opened o)

-- ---- THE THEOREM: from an opened gate, whatever it watches and follows, and an opened collector

module _
    (st : GateSettings) (extra keys changes words : List ℕ) (h : (opened st extra (length keys) (length changes) words).answer ≡ 7)
    (limit size count : ℕ) (heads slots cells : List ℕ) (k : (opened_of (store (asked limit size count) heads slots cells)).told ≡ done)
  where
    abbrev o : Settings
    o = settings_for st limit size count

    pub kept_log_passes : (gs : List Given) → AllTakable gs → length gs < 2 ^ 64 → (as' : List Answer)
        → map said_of as' ≡ answers store_tells store_acts (left_open (opened st extra (length keys) (length changes) words) keys changes) (map offer_of gs)
        → kept_log (settings_for st limit size count) (store (asked limit size count) heads slots cells) as' gs ≡ log_of (settings_for st limit size count) gs
    unfolding log_of
    kept_log_passes gs t n as' e =
        rule_keeps o refl (by_sections st.follow) gs t (empty_held (is_protected st.well_known extra)) zero_counts (store (asked limit size count) heads slots cells)
        (sets.opened_reached (store (asked limit size count) heads slots cells) (opened_collector o heads slots cells k)) as'
        (e ∙ answers_from_open st extra keys changes words h (map offer_of gs) (all_bytes gs t))
        ∙ ap records.log_of (opened_records o heads slots cells k gs)
      where
        zero_counts : CanCount (length gs) zeroes
        zero_counts = record {
          completed = omega arith;
          emitted = omega arith;
          suppressed = omega arith;
          failures = omega arith;
          short = omega arith;
          mismatches = omega arith;
          evictions = omega arith;
        }
