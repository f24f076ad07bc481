-- The log that is kept beside an opened gate with a watch record, whatever it watches and in each manner of following, and an opened collector is the log of
-- the rules.
-- Assumes nothing.
use mathlib.Core.Path.{◌≡◌, refl, sym, ap, subst, ◌∙◌}
use mathlib.Core.Bool.{Bool, true, false, cond, ◌&&◌}
use mathlib.Core.List.{List, map}
use Prim.Native.Nat.{ℕ, suc, ◌+◌, ◌^◌, ◌≤◌, ◌<◌}
use native.Mathlib.Omega.{arith}
use borrow.Author.Tests.{ne_eqb}
use lib.ListN.{length}
use Rattle.laws.specs.Runs.{answers}
use Rattle.rules_shared.specs.Touch.{untouched}
use Rattle.store.specs.Store.{Store, store, asked}
use Rattle.sets_settle.specs.Settle.{done}
use Rattle.sets.specs.Store.{opened_of}
use Rattle.ties_sets.specs.View.{seen}
use Rattle.ties_sets.specs.View.{Reached as SetsReached}
use Rattle.ties_sets.proofs.History as sets
use Rattle.gate_state.specs.State.{plain, said_of, by_sections, by_tables}
use Rattle.gate_state.specs.declared.Answer.{Answer}
use Rattle.gate_state.specs.declared.Follow.{Follow}
use Rattle.gate_state.specs.declared.Settings.{Settings as GateSettings}
use Rattle.gate.specs.Rules.{Told, told}
use Rattle.gate_pats.specs.Store.{opened_with}
use Rattle.gate_pats.specs.View.{kept_tells, kept_acts}
use Rattle.gate_pats_indexed.specs.Store as indexed
use Rattle.ties_gate.specs.Watching.{is_protected}
use Rattle.ties_pats.specs.Rules.{pat_settings, read_pat}
use Rattle.ties_pats.proofs.Obey.{clock_one}
use Rattle.rules_sets.specs.Rules.{tells}
use Rattle.ties_gate_pats.specs.Rules.{Holding, empty_holding, at_end, entered_with, enters_from, ToldWith, told_with, tells_with, acts_with, most}
use Rattle.ties_gate_pats.specs.View.{kept_tells_by, kept_acts_by}
use Rattle.ties_gate_pats.proofs.Opening as opening
use Rattle.ties_gate_pats.proofs.Indexed as by_index
use Rattle.rules_logs.specs.Sections.{Given}
use Rattle.rules_logs.specs.Verdict as records
use Rattle.rules_log_run.specs.Run.{Settings, records_from, log_of}
use Rattle.rules_log_run.specs.Gate.{offer_of, manner_of}
use Rattle.rules_log_run.specs.Lists.{AllTakable}
use Rattle.ties_log_kept.specs.Kept.{kept_log, settings_for}
use Rattle.ties_log_kept.proofs.Kept.{Turn, keeps}
use Rattle.ties_log_kept.proofs.Counts.{CanCount, not_full, told_counts}
use Rattle.ties_log_kept.proofs.Gate.{all_bytes, opened_collector, opened_records}
use Rattle.ties_log_pats.proofs.Evicted.{acts_one}

-- ---- the gate's rule with the PAT store behind it

-- n more offers can be counted, by the PAT store too
pub record Counts (n : ℕ) (x : Holding) : Type 0 where
  pub gate : CanCount n x.held.counters
  pub pats : most x.pats + n ≤ 18446744073709551615

and_false : (a b : Bool) → b ≡ false → (a && b) ≡ false
and_false true b e = e
and_false false b e = refl

module _ (o : Settings) (follow : Bool) (f : Follow) (n : ℕ) (x : Holding) (g : Given) (k : Counts (suc n) x) where
  abbrev t : Told
  t = told (manner_of o follow) x.held (offer_of g)

  abbrev behind : Bool → Holding
  behind b = cond b (entered_with (record { held = t.held; pats = x.pats }) (offer_of g)) (record { held = t.held; pats = x.pats })

  can : (by_tables f && at_end x.pats) ≡ false
  can =
      let h = k.pats in
      and_false (by_tables f) (at_end x.pats)
      (rw (
        ne_eqb x.pats.sets.evicted 18446744073709551615 (λ (e : x.pats.sets.evicted ≡ 18446744073709551615). omega arith),
        ne_eqb x.pats.clock 18446744073709551615 (λ (e : x.pats.clock ≡ 18446744073709551615). omega arith),
      ) refl)

  -- the PAT store changes no row and no counter of the gate
  behind_rows : (b : Bool) → (behind b).held.rows ≡ t.held.rows
  behind_rows true = refl
  behind_rows false = refl

  behind_counts : (b : Bool) → Counts n (behind b)
  behind_counts true =
      let h = k.pats in
      let e = acts_one x.pats.sets pat_settings (read_pat g.input g.section) in
      let c = clock_one (tells pat_settings x.pats.sets (read_pat g.input g.section)) x.pats.clock in
      record { gate = told_counts n (manner_of o follow) x.held k.gate (offer_of g); pats = omega arith }
  behind_counts false = let h = k.pats in record { gate = told_counts n (manner_of o follow) x.held k.gate (offer_of g); pats = omega arith }

  abbrev pub Good : ToldWith → Type 0
  Good u = Turn o follow x.held.rows u.holding.held.rows u.answer g × Counts n u.holding

  pub told_good : Good (told_with f (manner_of o follow) x (offer_of g))
  unfolding told_with
  told_good =
      subst (λ (b : Bool). Good (cond b (record { answer = plain 11; holding = x }) (record { answer = t.answer; holding = behind (enters_from f t.answer (offer_of g)) }))) (sym can)
      (record { held = x.held; same = refl; counts = not_full n x.held.counters k.gate; says = refl; rows = behind_rows (enters_from f t.answer (offer_of g)) }, behind_counts (enters_from f t.answer (offer_of g)))

  one : Turn o follow x.held.rows (acts_with f (manner_of o follow) x (offer_of g)).held.rows (tells_with f (manner_of o follow) x (offer_of g)) g × Counts n (acts_with f (manner_of o follow) x (offer_of g))
  unfolding tells_with acts_with
  one = told_good

pub rule_keeps : (o : Settings) (with : o.pids ≡ true) (follow : Bool) (f : Follow) (gs : List Given) → AllTakable gs → (x : Holding) → Counts (length gs) x → (c : Store) → SetsReached c → (as' : List Answer)
    → map said_of as' ≡ answers (tells_with f (manner_of o follow)) (acts_with f (manner_of o follow)) x (map offer_of gs)
    → kept_log o c as' gs ≡ records.log_of (records_from o (record { rows = x.held.rows; sets = seen c }) gs)
rule_keeps o with follow f gs t x k c z as' e =
    keeps o with follow (tells_with f (manner_of o follow)) (acts_with f (manner_of o follow)) (λ (x : Holding). x.held.rows) Counts (λ n x g t k. one o follow f n x g k) gs t x k c z as' e

-- ---- THE THEOREM: from an opened gate, whatever it watches and in each manner of following, and an opened collector

module _ (st : GateSettings) (limit size count : ℕ) (heads slots cells : List ℕ) (k : (opened_of (store (asked limit size count) heads slots cells)).told ≡ done)
    (gs : List Given) (t : AllTakable gs) (n : length gs < 2 ^ 64) (as' : List Answer)
  where
    abbrev o : Settings
    o = settings_for st limit size count

    from_empty : (protected : ℕ → Bool)
        → map said_of as' ≡ answers (tells_with st.follow (manner_of o (by_sections st.follow))) (acts_with st.follow (manner_of o (by_sections st.follow))) (empty_holding protected) (map offer_of gs)
        → kept_log (settings_for st limit size count) (store (asked limit size count) heads slots cells) as' gs ≡ log_of (settings_for st limit size count) gs
    unfolding log_of untouched
    from_empty protected e =
        rule_keeps o refl (by_sections st.follow) st.follow gs t (empty_holding protected) zero_counts (store (asked limit size count) heads slots cells)
        (sets.opened_reached (store (asked limit size count) heads slots cells) (opened_collector o heads slots cells k)) as' e
        ∙ ap records.log_of (opened_records o heads slots cells k gs)
      where
        zero_counts : Counts (length gs) (empty_holding protected)
        zero_counts = record {
          gate = record {
            completed = omega arith;
            emitted = omega arith;
            suppressed = omega arith;
            failures = omega arith;
            short = omega arith;
            mismatches = omega arith;
            evictions = omega arith;
          };
          pats = omega arith;
        }

    -- the search through the rows
    module _ (extra keys changes slots' cells' words : List ℕ) (h : (opened_with st extra (length keys) (length changes) (length slots') (length cells') words).answer ≡ 7) where
      pub kept_log_passes : map said_of as' ≡ answers kept_tells kept_acts (opening.left_open (opened_with st extra (length keys) (length changes) (length slots') (length cells') words) keys changes slots' cells') (map offer_of gs)
          → kept_log (settings_for st limit size count) (store (asked limit size count) heads slots cells) as' gs ≡ log_of (settings_for st limit size count) gs
      kept_log_passes e = from_empty (is_protected st.well_known extra) (e ∙ opening.answers_from_open st extra keys changes slots' cells' words h (map offer_of gs) (all_bytes gs t))

    -- with an index
    module _ (extra keys changes buckets links slots' cells' words : List ℕ)
        (h : (indexed.opened_with st extra (length keys) (length changes) (length links) (length slots') (length cells') buckets words).answer ≡ 7) where
      pub kept_log_passes_indexed : map said_of as'
          ≡ answers kept_tells_by kept_acts_by
          (by_index.left_open (indexed.opened_with st extra (length keys) (length changes) (length links) (length slots') (length cells') buckets words) keys changes links slots' cells') (map offer_of gs)
          → kept_log (settings_for st limit size count) (store (asked limit size count) heads slots cells) as' gs ≡ log_of (settings_for st limit size count) gs
      kept_log_passes_indexed e =
          from_empty (is_protected st.well_known extra) (e ∙ by_index.answers_from_open st extra keys changes buckets links slots' cells' words h (map offer_of gs) (all_bytes gs t))
