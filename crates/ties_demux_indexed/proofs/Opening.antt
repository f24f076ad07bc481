-- A card on which everything was opened, its gate with an index: without the index everything was opened too, and the index tells of the rows.
-- Assumes nothing.
use mathlib.Core.Path.{◌≡◌, refl, sym, ap, subst, ◌∙◌}
use mathlib.Core.Bool.{Bool, true, false, cond}
use mathlib.Core.List.{List}
use Prim.Native.Nat.{ℕ, ◌≤◌}
use lib.ListN.{length}
use Rattle.section.specs.Judged.{rule_known}
use Rattle.ring.specs.View.{Memory, Reached}
use Rattle.ring_index.specs.Store.{Index, index_of}
use Rattle.ring_index.proofs.Same.{Sound}
use Rattle.gate_state.specs.declared.Gate.{Gate}
use Rattle.gate_state.specs.declared.Settings.{Settings}
use Rattle.gate.specs.Store.{whole_of}
use Rattle.gate.specs.Store as sections
use Rattle.gate.proofs.Laws.{fits}
use Rattle.gate_indexed.specs.Store.{Begun}
use Rattle.gate_indexed.specs.Store as lower
use Rattle.gate_pats.specs.Store.{room_with, refused_with, opened_with}
use Rattle.gate_pats.specs.Store as plain
use Rattle.gate_pats_indexed.specs.Store as indexed
use Rattle.ties_gate.proofs.Indexed as low
use Rattle.ties_gate_pats.proofs.Opening.{no_seven}
use Rattle.ties_demux.specs.Card.{Gates}
use Rattle.ties_demux.specs.Opened.{OpenedGate, OpenedCard}
use Rattle.ties_demux.proofs.Opening.{opened_stands}
use Rattle.ties_demux_indexed.specs.Card.{CardBy}
use Rattle.ties_demux_indexed.specs.Opened.{begun_on, OpenedGateBy, OpenedCardBy}
use Rattle.ties_demux_indexed.proofs.Card.{rows_in, Fit}

-- what opening with an index left, and what opening without one
record Both (keys changes links : List ℕ) (l : Begun) (k : sections.Begun) : Type 0 where
  pub answer : k.answer ≡ 7
  pub gate : l.gate ≡ k.gate
  pub counters : l.counters ≡ k.counters
  pub reached : Reached (record { ring = l.gate.ring; keys = keys; changes = changes })
  pub index : Sound (record { ring = l.gate.ring; keys = keys; changes = changes }) (index_of l.buckets links)
  pub rule : rule_known l.gate.change_rule ≡ true

module _ (st : Settings) (extra keys changes buckets links words : List ℕ) (slots cells : ℕ) where
  abbrev below : Begun
  below = lower.opened_by st extra (length keys) (length changes) (length links) buckets words

  both : (indexed.opened_with st extra (length keys) (length changes) (length links) slots cells buckets words).answer ≡ 7
      → Both keys changes links (indexed.opened_with st extra (length keys) (length changes) (length links) slots cells buckets words) (opened_with st extra (length keys) (length changes) slots cells words)
  unfolding indexed.opened_with opened_with
  both = go (room_with st.follow (length words) slots cells)
    where
      go : (b : Bool) → (cond b (indexed.begun_with st.follow below) (lower.begins (refused_with extra) st buckets words)).answer ≡ 7
          → Both keys changes links (cond b (indexed.begun_with st.follow below) (lower.begins (refused_with extra) st buckets words))
          (cond b (plain.begun_with st.follow (sections.opened st extra (length keys) (length changes) words)) (sections.begins (refused_with extra) st words))
      go true k =
          let same = low.opening_same st extra keys changes buckets links words k in
          let opens = low.opening_opens st extra keys changes buckets links words k in
          record {
            answer = same.0;
            gate = ap (λ (s : sections.Store). s.gate) same.1;
            counters = ap (λ (s : sections.Store). s.counters) same.1;
            reached = opens.opened.reached;
            index = opens.kept;
            rule = opens.opened.rule;
          }
      go false k = absurd (no_seven extra k)

module _ (st : Settings) (c : CardBy) (o : OpenedCardBy st c) where
  abbrev g : Gates
  g = c.card.gates

  abbrev y : OpenedGateBy st c
  y = o.gate

  z : Both g.keys g.changes c.index.links (begun_on st y.extra y.slots y.cells y.buckets y.words c)
      (opened_with st y.extra (length g.keys) (length g.changes) y.slots y.cells y.words)
  z = both st y.extra g.keys g.changes y.buckets c.index.links y.words y.slots y.cells y.seven

  -- without the index
  pub plain_opened : OpenedCard st c.card
  plain_opened = record {
    gate = record { extra = y.extra; slots = y.slots; cells = y.cells; words = y.words; seven = z.answer; gate = y.gate ∙ z.gate; counters = y.counters ∙ z.counters };
    records = o.records;
    streams = o.streams;
    places = o.places;
  }

  words_there : (i : ℕ) → 384 ≤ length (g.watches i).words
  words_there i =
      (fits g.gate (length g.keys) (length g.changes) (length (g.watches i).words) (whole_of g.gate (length g.keys) (length g.changes) (length (g.watches i).words)) refl
      (opened_stands st c.card plain_opened i).whole.gate).watch

  abbrev rows_of : Gate → Memory
  rows_of x = record { ring = x.ring; keys = g.keys; changes = g.changes }

  pub opened_fit : Fit c
  opened_fit =
      record {
        reached = subst (λ (v : Gate). Reached (rows_of v)) (sym y.gate) z.reached;
        index = subst (λ (v : Gate). Sound (rows_of v) c.index) (sym y.gate)
            (subst (λ (v : List ℕ). Sound (rows_of (begun_on st y.extra y.slots y.cells y.buckets y.words c).gate) (index_of v c.index.links)) (sym y.chains) z.index);
        rule = subst (λ (v : Gate). rule_known v.change_rule ≡ true) (sym y.gate) z.rule;
        words = words_there;
        bytes = λ i. (o.streams i).bytes;
      }
