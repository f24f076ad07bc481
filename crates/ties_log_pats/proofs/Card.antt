-- The log that is kept beside a card: one opened gate for all inputs, and for each input a watch record of its own, opened. Whatever is watched there and in each
-- manner of following, it is the log of the rules.
-- Assumes nothing.
use mathlib.Core.Path.{◌≡◌, refl, sym, ap, subst, ◌∙◌}
use mathlib.Core.Bool.{Bool, true, false, cond}
use mathlib.Core.List.{List, [], ◌∷◌, map}
use Prim.Native.Nat.{ℕ, suc, ◌+◌, ◌^◌, ◌≤◌, ◌<◌}
use native.Mathlib.Omega.{arith}
use lib.Dec.{eqb}
use lib.ListN.{length}
use Rattle.laws.specs.Runs.{answers, store_after}
use Rattle.counters.specs.Counters.{zeroes}
use Rattle.ring.specs.Rules.{Row}
use Rattle.ring.specs.View.{in_order}
use Rattle.rules_sets.specs.Rules.{opened}
use Rattle.store.specs.Store.{store, asked}
use Rattle.sets_settle.specs.Settle.{done}
use Rattle.sets.specs.Store.{opened_of}
use Rattle.ties_sets.specs.View.{seen}
use Rattle.ties_sets.proofs.History as sets
use Rattle.gate_state.specs.State.{said_of, by_tables, by_sections, empty_gate}
use Rattle.gate_state.specs.declared.Answer.{Answer}
use Rattle.gate_state.specs.declared.Follow.{Follow}
use Rattle.gate_state.specs.declared.Gate.{Gate}
use Rattle.gate_state.specs.declared.Settings.{Settings as GateSettings}
use Rattle.gate.specs.View as view
use Rattle.gate_pats.specs.Store.{Kept, Offering, kept_of, offered_with}
use Rattle.gate_pats.specs.View.{kept_tells, kept_acts}
use Rattle.ties_pats.specs.View.{shown}
use Rattle.ties_gate_pats.specs.Rules.{Holding, ToldWith, told_with, begun, most}
use Rattle.ties_gate_pats.specs.View.{pats_of, holding, pats_in}
use Rattle.ties_gate_pats.proofs.Order.{FollowsWith, follows_with}
use Rattle.ties_inputs.specs.Records.{Records, kept_on, records_tell, records_act}
use Rattle.ties_inputs.proofs.Records.{OpenedAll, all_opened}
use Rattle.rules_logs.specs.Sections.{Given}
use Rattle.rules_logs.specs.Verdict as records
use Rattle.rules_log_run.specs.Run.{Settings, records_from, log_of}
use Rattle.rules_log_run.specs.Gate.{offer_of, manner_of}
use Rattle.rules_log_run.specs.Lists.{Takable, AllTakable}
use Rattle.ties_log_kept.specs.Kept.{kept_log, settings_for}
use Rattle.ties_log_kept.proofs.Kept.{Turn, keeps}
use Rattle.ties_log_kept.proofs.Counts.{CanCount}
use Rattle.ties_log_kept.proofs.Gate.{opened_collector, opened_records}
use Rattle.ties_log_pats.proofs.Kept.{Good, told_good}

-- the gate's rows in order of first arrival: no record has a part in them
abbrev pub rows_on : Records → List Row
rows_on c = in_order (record { ring = c.gate.ring; keys = c.keys; changes = c.changes })

-- a card to which n sections may still come
pub record Stands (o : Settings) (follow : Bool) (f : Follow) (n : ℕ) (c : Records) : Type 0 where
  pub opened_all : OpenedAll c
  pub follows : c.gate.follow ≡ f
  pub manner : view.manner_of c.gate ≡ manner_of o follow
  pub counts : CanCount n c.counters
  pub pats : (i : ℕ) → most (pats_of (kept_on i c)) + n ≤ 18446744073709551615

module _ (o : Settings) (follow : Bool) (f : Follow) (n : ℕ) (c : Records) (g : Given) (t : Takable g) (k : Stands o follow f (suc n) c) where
  abbrev s : Kept
  s = kept_on g.input c

  abbrev l : Offering
  l = offered_with s g.input g.pid g.section

  abbrev u : ToldWith
  u = told_with f (manner_of o follow) (holding s) (offer_of g)

  fw : FollowsWith s l (told_with s.gate.follow (view.manner_of s.gate) (holding s) (offer_of g))
  fw = follows_with s (offer_of g) (k.opened_all.each g.input) t.of_bytes

  told_as : told_with s.gate.follow (view.manner_of s.gate) (holding s) (offer_of g) ≡ u
  told_as = let a = k.follows in let b = k.manner in λ i. told_with (a i) (b i) (holding s) (offer_of g)

  answer_as : l.answer ≡ u.answer
  answer_as = ap (λ (x : ToldWith). x.answer) (fw.same ∙ told_as)

  holding_as : holding l.left ≡ u.holding
  holding_as = ap (λ (x : ToldWith). x.holding) (fw.same ∙ told_as)

  good : Good o follow f n (holding s) g (record { gate = k.counts; pats = k.pats g.input }) u
  good = told_good o follow f n (holding s) g (record { gate = k.counts; pats = k.pats g.input })

  next : Records
  next = records_act c (offer_of g)

  turn : Turn o follow (rows_on c) (rows_on (records_act c (offer_of g))) (records_tell c (offer_of g)) g
  unfolding records_tell records_act kept_tells kept_acts
  turn = record {
    held = good.0.held;
    same = good.0.same;
    counts = good.0.counts;
    says = answer_as ∙ good.0.says;
    rows = ap (λ (x : Holding). x.held.rows) holding_as ∙ good.0.rows;
  }

  later : (m : ℕ) → m + suc n ≤ 18446744073709551615 → m + n ≤ 18446744073709551615
  later m h = omega arith

  -- of the record that was lent, and of the others
  pats_next : (j : ℕ) (b : Bool)
      → most (pats_of (kept_of l.left.gate l.left.counters l.left.keys l.left.changes (cond b l.left.watch (c.watches j)))) + n ≤ 18446744073709551615
  pats_next j true = subst (λ (x : Holding). most x.pats + n ≤ 18446744073709551615) (sym holding_as) good.1.pats
  pats_next j false =
      subst (λ (x : Follow). most (cond (by_tables x) (pats_in (c.watches j)) begun) + n ≤ 18446744073709551615) (sym fw.follow)
      (later _ (k.pats j))

  stands : Stands o follow f n (records_act c (offer_of g))
  unfolding records_act kept_acts store_after
  stands = record {
    opened_all = all_opened (offer_of g ∷ []) c (t.of_bytes, tt) k.opened_all;
    follows = fw.follow ∙ k.follows;
    manner = fw.manner ∙ k.manner;
    counts = subst (λ (x : Holding). CanCount n x.held.counters) (sym holding_as) good.1.gate;
    pats = λ j. pats_next j (eqb j g.input);
  }

-- THE THEOREM: from an opened gate with opened records, one for each input
module _ (st : GateSettings) (c : Records) (a : OpenedAll c) (e : c.gate ≡ empty_gate st) (z : c.counters ≡ zeroes) (p : (i : ℕ) → most (pats_of (kept_on i c)) ≡ 0)
    (limit size count : ℕ) (heads slots cells : List ℕ) (k : (opened_of (store (asked limit size count) heads slots cells)).told ≡ done)
  where
    abbrev o : Settings
    o = settings_for st limit size count

    begins : (n : ℕ) → n < 2 ^ 64 → Stands o (by_sections st.follow) st.follow n c
    begins n h = record {
      opened_all = a;
      follows = ap (λ (x : Gate). x.follow) e;
      manner = ap view.manner_of e;
      counts = subst (CanCount n) (sym z) (record {
        completed = omega arith;
        emitted = omega arith;
        suppressed = omega arith;
        failures = omega arith;
        short = omega arith;
        mismatches = omega arith;
        evictions = omega arith;
      });
      pats = λ i. let q = p i in omega arith;
    }

    no_rows : rows_on c ≡ []
    no_rows = ap (λ (x : Gate). in_order (record { ring = x.ring; keys = c.keys; changes = c.changes })) e

    pub kept_log_passes_on_all_inputs : (gs : List Given) → AllTakable gs → length gs < 2 ^ 64 → (as' : List Answer) → map said_of as' ≡ answers records_tell records_act c (map offer_of gs)
        → kept_log (settings_for st limit size count) (store (asked limit size count) heads slots cells) as' gs ≡ log_of (settings_for st limit size count) gs
    unfolding log_of
    kept_log_passes_on_all_inputs gs t n as' q =
        keeps o refl (by_sections st.follow) records_tell records_act rows_on (Stands o (by_sections st.follow) st.follow)
        (λ m x g t k. (turn o (by_sections st.follow) st.follow m x g t k, stands o (by_sections st.follow) st.follow m x g t k))
        gs t c (begins (length gs) n) (store (asked limit size count) heads slots cells)
        (sets.opened_reached (store (asked limit size count) heads slots cells) (opened_collector o heads slots cells k)) as' q
        ∙ ap (λ (rows : List Row). records.log_of (records_from o (record { rows = rows; sets = seen (store (asked limit size count) heads slots cells) }) gs)) no_rows
        ∙ ap records.log_of (opened_records o heads slots cells k gs)
