-- The gate with an index and a watch record, and the one without an index: from an opened store every sequence of offers has the same answers, and leaves
-- the same gate, counters, rows and record.
-- Assumes nothing.
use Prim.Native.Nat.{ℕ}
use mathlib.Core.Path.{◌≡◌, refl, sym, ap, subst, ◌∙◌}
use mathlib.Core.List.{List, [], ◌∷◌}
use mathlib.Core.Bool.{Bool, true, false, cond}
use lib.ListN.{length}
use Rattle.laws.specs.Runs.{answers, store_after}
use Rattle.section.specs.Facts.{Bytes}
use Rattle.ring_index.specs.Store.{index_of}
use Rattle.ring_index.proofs.Same.{Sound}
use Rattle.counters.specs.Counters.{zeroes}
use Rattle.gate_state.specs.State.{plain, empty_gate}
use Rattle.gate_state.specs.declared.Settings.{Settings}
use Rattle.gate.specs.Rules.{Offer, OfBytes}
use Rattle.gate.specs.Store as sections
use Rattle.gate.specs.View.{memory_of}
use Rattle.gate_indexed.specs.Store.{Begun}
use Rattle.gate_indexed.specs.Store as lower
use Rattle.ties_gate.proofs.Order.{opened_whole}
use Rattle.ties_gate.specs.Watching.{is_protected}
use Rattle.ties_gate.proofs.Opening.{manner_for}
use Rattle.ties_gate.proofs.Indexed as low
use Rattle.pats.specs.Store.{record_of}
use Rattle.gate_pats.specs.Store.{Kept, kept_of, sections_in, Offering, state_of, room_with, words_with, refused_with, begun_with, opened_with, record_after, taken_with, full_no, offered_by, offered_with}
use Rattle.gate_pats.specs.View.{kept_tells, kept_acts}
use Rattle.gate_pats.specs.declared.inner.State.{State}
use Rattle.gate_pats.specs.declared.inner.State.TheVariants.{NotWhole, Full, Ready}
use Rattle.gate_pats_indexed.specs.Store as indexed
use Rattle.gate_pats_indexed.specs.Store.{KeptBy, sections_by, taken_by, offered_as}
use Rattle.ties_gate_pats.specs.Rules.{empty_holding, tells_with, acts_with}
use Rattle.ties_gate_pats.specs.View.{holding, kept_tells_by, kept_acts_by}
use Rattle.ties_gate_pats.proofs.Order.{OpenedWith, follows_with}
use Rattle.ties_gate_pats.proofs.Opening as opening
use Rattle.ties_gate_pats.proofs.Opening.{no_seven}

-- what every store has that came from an opened one
pub record OpenedBy (s : KeptBy) : Type 0 where
  pub opened : OpenedWith s.kept
  pub index : Sound (memory_of (sections_in s.kept)) s.index

-- what the gate with an index answered and left, and what the one without
pub record Same (l : indexed.Offering) (k : Offering) : Type 0 where
  pub answer : l.answer ≡ k.answer
  pub kept : l.left.kept ≡ k.left
  pub index : Sound (memory_of (sections_in k.left)) l.left.index

-- the gate of sections in it, which is all that an offer asks of
pub below : (s : KeptBy) → OpenedBy s → low.OpenedBy (sections_by s)
below s r = record { opened = r.opened.sections; kept = r.index }

module _ (s : KeptBy) (r : low.OpenedBy (sections_by s)) (input pid : ℕ) (section : List ℕ) (b : Bytes section) where
  same_below : low.Same (lower.offered_by (sections_by s) input pid section) (sections.offered (sections_in s.kept) input pid section)
  same_below = low.offer_same (sections_by s) r input pid section b

  -- the PAT store behind them
  pub taken_same : Same (taken_by s input pid section) (taken_with s.kept input pid section)
  unfolding taken_by taken_with
  taken_same = record {
    answer = same_below.answer;
    kept = λ i.
        kept_of (same_below.store i).gate (same_below.store i).counters (same_below.store i).keys (same_below.store i).changes
        (record_after s.kept.gate.follow (same_below.answer i) input pid section (record_of (same_below.store i).words s.kept.watch.slots s.kept.watch.cells));
    index = same_below.kept;
  }

  by_state : (x : State) → Same (offered_as s input pid section x) (offered_by s.kept input pid section x)
  unfolding offered_as offered_by
  by_state NotWhole = record { answer = refl; kept = refl; index = r.kept }
  by_state Full = record {
    answer = ap (λ (w : Bool). plain (full_no w)) (low.opened_whole_by (sections_by s) r ∙ sym (opened_whole (sections_in s.kept) r.opened));
    kept = refl;
    index = r.kept;
  }
  by_state Ready = taken_same

  -- every offer
  pub offer_same : Same (indexed.offered_with s input pid section) (offered_with s.kept input pid section)
  unfolding indexed.offered_with offered_with
  offer_same = by_state (state_of s.kept.gate.follow s.kept.watch)

-- the store that is left came from opening too
next : (s : KeptBy) (o : Offer) → OpenedBy s → Bytes o.section → OpenedBy (kept_acts_by s o)
unfolding kept_acts_by
next s o r b =
    let e = offer_same s (below s r) o.input o.pid o.section b in
    record {
      opened = subst OpenedWith (sym e.kept) (follows_with s.kept o r.opened b).opened;
      index = subst (λ (k : Kept). Sound (memory_of (sections_in k)) (indexed.offered_with s o.input o.pid o.section).left.index) (sym e.kept) e.index;
    }

-- THE THEOREM: the answers, and the gate, counters, rows and record that are left
pub same_answers : (s : KeptBy) (os : List Offer) → OpenedBy s → OfBytes os → answers kept_tells_by kept_acts_by s os ≡ answers kept_tells kept_acts s.kept os
unfolding answers kept_tells_by kept_tells kept_acts_by kept_acts
same_answers s [] r b = refl
same_answers s (o ∷ os) r b =
    let e = offer_same s (below s r) o.input o.pid o.section b.0 in
    let ih = same_answers (indexed.offered_with s o.input o.pid o.section).left os (next s o r b.0) b.1 ∙ ap (λ (k : Kept). answers kept_tells kept_acts k os) e.kept in
    λ i. e.answer i ∷ ih i

pub same_kept : (s : KeptBy) (os : List Offer) → OpenedBy s → OfBytes os → (store_after kept_acts_by s os).kept ≡ store_after kept_acts s.kept os
unfolding store_after kept_acts_by kept_acts
same_kept s [] r b = refl
same_kept s (o ∷ os) r b =
    let e = offer_same s (below s r) o.input o.pid o.section b.0 in
    same_kept (indexed.offered_with s o.input o.pid o.section).left os (next s o r b.0) b.1 ∙ ap (λ (k : Kept). store_after kept_acts k os) e.kept

-- ---- opening

-- what a call of `open` left, with the slices that it does not write
abbrev pub left_open : Begun → (keys changes links slots cells : List ℕ) → KeptBy
left_open b keys changes links slots cells = indexed.kept_by b.gate b.counters keys changes (index_of b.buckets links) (record_of b.words slots cells)

-- what opening with an index left, and what opening without one
record Both (keys changes links slots cells : List ℕ) (l : Begun) (k : sections.Begun) : Type 0 where
  answer : k.answer ≡ 7
  kept : (left_open l keys changes links slots cells).kept ≡ opening.left_open k keys changes slots cells
  index : Sound (memory_of (sections_in (left_open l keys changes links slots cells).kept)) (index_of l.buckets links)

module _ (st : Settings) (extra keys changes buckets links slots cells words : List ℕ) where
  abbrev begun : Begun
  begun = indexed.opened_with st extra (length keys) (length changes) (length links) (length slots) (length cells) buckets words

  abbrev begun_below : Begun
  begun_below = lower.opened_by st extra (length keys) (length changes) (length links) buckets words

  abbrev plain_below : sections.Begun
  plain_below = sections.opened st extra (length keys) (length changes) words

  both : begun.answer ≡ 7 → Both keys changes links slots cells begun (opened_with st extra (length keys) (length changes) (length slots) (length cells) words)
  unfolding indexed.opened_with opened_with
  both = go (room_with st.follow (length words) (length slots) (length cells))
    where
      go : (b : Bool) → (cond b (indexed.begun_with st.follow begun_below) (lower.begins (refused_with extra) st buckets words)).answer ≡ 7
          → Both keys changes links slots cells (cond b (indexed.begun_with st.follow begun_below) (lower.begins (refused_with extra) st buckets words))
          (cond b (begun_with st.follow plain_below) (sections.begins (refused_with extra) st words))
      go true k =
          let same = low.opening_same st extra keys changes buckets links words k in
          let opens = low.opening_opens st extra keys changes buckets links words k in
          let ans = k ∙ sym same.0 in
          record {
            answer = same.0;
            kept = λ i.
                kept_of (same.1 i).gate (same.1 i).counters (same.1 i).keys (same.1 i).changes (record_of (words_with st.follow (ans i) (same.1 i).words) slots cells);
            index = opens.kept;
          }
      go false k = absurd (no_seven extra k)

  module _ (h : begun.answer ≡ 7) where
    z : Both keys changes links slots cells begun (opened_with st extra (length keys) (length changes) (length slots) (length cells) words)
    z = both h

    -- what is left is an opened gate, its index and an opened record
    pub opening_opens : OpenedBy (left_open (indexed.opened_with st extra (length keys) (length changes) (length links) (length slots) (length cells) buckets words) keys changes links slots cells)
    opening_opens = record { opened = subst OpenedWith (sym z.kept) (opening.opening_opens st extra keys changes slots cells words z.answer); index = z.index }

    -- with no rows and fresh counters
    pub opening_fresh :
        ((indexed.opened_with st extra (length keys) (length changes) (length links) (length slots) (length cells) buckets words).gate ≡ empty_gate st)
        × ((indexed.opened_with st extra (length keys) (length changes) (length links) (length slots) (length cells) buckets words).counters ≡ zeroes)
    opening_fresh =
        let left = (opening.seven st extra (length keys) (length changes) (length slots) (length cells) words z.answer).left in (
          ap (λ (k : Kept). k.gate) z.kept ∙ ap (λ (b : sections.Begun). b.gate) left,
          ap (λ (k : Kept). k.counters) z.kept ∙ ap (λ (b : sections.Begun). b.counters) left,
        )

    -- but for the index, it is what opening without one leaves: what holds in every history from that holds here too
    pub opening_same :
        ((opened_with st extra (length keys) (length changes) (length slots) (length cells) words).answer ≡ 7)
        × ((left_open (indexed.opened_with st extra (length keys) (length changes) (length links) (length slots) (length cells) buckets words) keys changes links slots cells).kept
        ≡ opening.left_open (opened_with st extra (length keys) (length changes) (length slots) (length cells) words) keys changes slots cells)
    opening_same = (z.answer, z.kept)

    pub opened_empty :
        holding (left_open (indexed.opened_with st extra (length keys) (length changes) (length links) (length slots) (length cells) buckets words) keys changes links slots cells).kept
        ≡ empty_holding (is_protected st.well_known extra)
    opened_empty = ap holding z.kept ∙ opening.opened_empty st extra keys changes slots cells words z.answer

    module _ (os : List Offer) (b : OfBytes os) where
      abbrev start : KeptBy
      start = left_open begun keys changes links slots cells

      -- THE THEOREM: from an opening that answers 7 every sequence of offers of bytes has the rules' answers from the empty gate and the empty PAT store, and
      -- leaves what the rules leave
      pub answers_from_open :
          answers kept_tells_by kept_acts_by (left_open (indexed.opened_with st extra (length keys) (length changes) (length links) (length slots) (length cells) buckets words) keys changes links slots cells) os
          ≡ answers (tells_with st.follow (manner_for st)) (acts_with st.follow (manner_for st)) (empty_holding (is_protected st.well_known extra)) os
      answers_from_open =
          same_answers start os opening_opens b
          ∙ ap (λ (k : Kept). answers kept_tells kept_acts k os) z.kept
          ∙ opening.answers_from_open st extra keys changes slots cells words z.answer os b

      pub view_from_open :
          holding (store_after kept_acts_by (left_open (indexed.opened_with st extra (length keys) (length changes) (length links) (length slots) (length cells) buckets words) keys changes links slots cells) os).kept
          ≡ store_after (acts_with st.follow (manner_for st)) (empty_holding (is_protected st.well_known extra)) os
      view_from_open =
          ap holding (same_kept start os opening_opens b ∙ ap (λ (k : Kept). store_after kept_acts k os) z.kept)
          ∙ opening.view_from_open st extra keys changes slots cells words z.answer os b
