-- One call on a card with an index and on the same card without: a packet or a section that is offered tells the same and leaves the same card, and what holds of a card
-- that came from openings holds on.
-- Assumes nothing.
use mathlib.Core.Path.{◌≡◌, refl, sym, ap, subst, ◌∙◌}
use mathlib.Core.Bool.{Bool, true, false, cond, ◌&&◌, true≢false}
use mathlib.Core.List.{List}
use Prim.Native.Nat.{ℕ, ◌≤◌}
use native.Mathlib.Omega.{arith}
use lib.Dec.{eqb}
use lib.ListN.{length}
use Rattle.laws.proofs.Tests.{and_true}
use Rattle.section.specs.Facts.{Bytes}
use Rattle.section.specs.Judged.{rule_known}
use Rattle.ring.specs.View.{Memory, Reached}
use Rattle.ring_index.proofs.Same.{Sound}
use Rattle.gate_state.specs.State.{by_tables}
use Rattle.gate.specs.Store.{offered}
use Rattle.gate.specs.Store as sections
use Rattle.pats.specs.Store.{Record, record_of, pats_whole, pats_full, entered_in, PatsReady}
use Rattle.pats.proofs.Laws.{ready, entered_lengths}
use Rattle.gate_pats.specs.Store.{Kept, sections_in, sound_by, state_of, record_after, taken_with, offered_with}
use Rattle.gate_pats.specs.declared.inner.State.{State}
use Rattle.gate_pats.specs.declared.inner.State.TheVariants.{NotWhole, Full, Ready}
use Rattle.gate_pats.proofs.Laws.{words_kept}
use Rattle.gate_pats_indexed.specs.Store.{KeptBy, sections_by, taken_by, offered_as}
use Rattle.gate_pats_indexed.specs.Store as indexed
use Rattle.ties_gate.proofs.Order.{follows}
use Rattle.ties_gate.proofs.Indexed as low
use Rattle.ties_gate_pats.proofs.Indexed.{offer_same}
use Rattle.demux_steady.specs.Steady.{acts}
use Rattle.demux_store.specs.Carried.{StoreOf, LeftOf}
use Rattle.ties_demux.specs.Card.{Gates, Input, Card, kept_on, gates_with, input_of, back_from, Told, told_by, call_on, card_acts, card_tells}
use Rattle.ties_demux_indexed.specs.Card.{CardBy, kept_with, bare, bare_left, lent_with, call_with, feed_acts, feed_tells, with_gates, plain_acts, plain_tells, offer_acts, offer_tells}
use Rattle.ties_demux_indexed.proofs.Gate.{taken_opens}
use Rattle.ties_demux_indexed.proofs.Feed.{AlikeLeft, fed_same}

abbrev pub rows_in : CardBy → Memory
rows_in c = record { ring = c.card.gates.gate.ring; keys = c.card.gates.keys; changes = c.card.gates.changes }

-- what every card has that came from openings: the rows and their index, the words of each record, and bytes in the buffers
pub record Fit (c : CardBy) : Type 0 where
  pub reached : Reached (rows_in c)
  pub index : Sound (rows_in c) c.index
  pub rule : rule_known c.card.gates.gate.change_rule ≡ true
  pub words : (i : ℕ) → 384 ≤ length (c.card.gates.watches i).words
  pub bytes : (i : ℕ) → Bytes (c.card.inputs i).buffers

-- the gate of an input is an opened one
rows_on_lem : (c : CardBy) → Fit c → (i : ℕ) → low.OpenedBy (sections_by (kept_with i c))
rows_on_lem c f i = record { opened = record { reached = f.reached; watch = f.words i; rule = f.rule }; kept = f.index }

-- and so is every other when a call is over
module _ (c : CardBy) (f : Fit c) (i : ℕ) (k : KeptBy) (r : low.OpenedBy (sections_by k)) where
  fit_then : (inputs : ℕ → Input) (places : List ℕ) → ((j : ℕ) → Bytes (inputs j).buffers)
      → Fit (record { card = record { gates = gates_with i k.kept c.card.gates; inputs = inputs; places = places }; index = k.index })
  fit_then inputs places b = record { reached = r.opened.reached; index = r.kept; rule = r.opened.rule; words = λ j. go j (eqb j i); bytes = b }
    where
      go : (j : ℕ) (t : Bool) → 384 ≤ length (cond t k.kept.watch (c.card.gates.watches j)).words
      go j true = r.opened.watch
      go j false = f.words j

-- ---- a packet

pub record AlikeFed (c : CardBy) (i : ℕ) (packet : List ℕ) : Type 0 where
  pub tells : feed_tells c i packet ≡ card_tells c.card i packet
  pub acts : (feed_acts c i packet).card ≡ card_acts c.card i packet
  pub fit : Fit (feed_acts c i packet)

pub feed_alike : (c : CardBy) → Fit c → (i : ℕ) (packet : List ℕ) → Bytes packet → AlikeFed c i packet
unfolding feed_tells feed_acts card_tells card_acts
feed_alike c f i packet b =
    let x : AlikeLeft (call_with c i packet) (call_on c.card i packet) = fed_same (lent_with i c) i packet b (f.bytes i) (rows_on_lem c f i) in
    let l : StoreOf KeptBy = (call_with c i packet).store in
    record {
      tells = ap (λ (y : LeftOf Kept). told_by y packet) x.same;
      acts = ap (λ (y : LeftOf Kept). back_from i y.store c.card) x.same;
      fit = fit_then c f i l.gate x.rows (λ j. cond (eqb j i) (input_of (bare l)) (c.card.inputs j)) l.places
          (λ j. buffers l (subst (λ (y : LeftOf Kept). Bytes y.store.buffers) (sym x.same) x.bytes) j (eqb j i));
    }
  where
    buffers : (l : StoreOf KeptBy) → Bytes l.buffers → (j : ℕ) (t : Bool) → Bytes (cond t (input_of (bare l)) (c.card.inputs j)).buffers
    buffers l y j true = y
    buffers l y j false = f.bytes j

-- ---- a section that is offered

-- a record whose PAT store is asked for is one that a section may enter
pats_ready : (k : Kept) → state_of k.gate.follow k.watch ≡ Ready → by_tables k.gate.follow ≡ true → PatsReady k.watch
unfolding state_of
pats_ready k e t = go (pats_whole k.watch) (pats_full k.watch.words) refl refl (sym (ap (λ (b : Bool). cond b (cond (pats_whole k.watch) (cond (pats_full k.watch.words) Full Ready) NotWhole) Ready) t) ∙ e)
  where
    go : (a b : Bool) → pats_whole k.watch ≡ a → pats_full k.watch.words ≡ b → cond a (cond b Full Ready) NotWhole ≡ Ready → PatsReady k.watch
    go true false w n q = ready k.watch w n
    go true true w n q = let z : ◌≡◌ {A = ℕ} 0 1 = cc in absurd (omega arith)
    go false b w n q = let z : ◌≡◌ {A = ℕ} 0 1 = cc in absurd (omega arith)

-- a record keeps its words
module _ (s : KeptBy) (r : low.OpenedBy (sections_by s)) (i pid : ℕ) (section : List ℕ) (b : Bytes section) (e : state_of s.kept.gate.follow s.kept.watch ≡ Ready) where
  abbrev o : sections.Offering
  o = offered (sections_in s.kept) i pid section

  abbrev then : Record
  then = record_of o.store.words s.kept.watch.slots s.kept.watch.cells

  words_then : 384 ≤ length o.store.words
  words_then = (follows (sections_in s.kept) (record { input = i; pid = pid; section = section }) r.opened b).opened.watch

  entered_words : by_tables s.kept.gate.follow ≡ true → 384 ≤ length (entered_in then i section).words
  entered_words t =
      let q : o.store.words ≡ s.kept.watch.words = words_kept (sections_in s.kept) section t i pid in
      let y : PatsReady then = subst (λ (w : List ℕ). PatsReady (record_of w s.kept.watch.slots s.kept.watch.cells)) (sym q) (pats_ready s.kept e t) in
      omega (arith, (entered_lengths then y i section (b 7)).0, words_then)

  words_after : 384 ≤ length (acts s.kept i pid section).watch.words
  unfolding taken_with record_after
  words_after = go (by_tables s.kept.gate.follow && sound_by o.answer && eqb pid 0) refl
    where
      go : (t : Bool) → (by_tables s.kept.gate.follow && sound_by o.answer && eqb pid 0) ≡ t → 384 ≤ length (cond t (entered_in then i section) then).words
      go true q = entered_words (and_true (by_tables s.kept.gate.follow) (sound_by o.answer) (and_true (by_tables s.kept.gate.follow && sound_by o.answer) (eqb pid 0) q).0).0
      go false q = words_then

-- the gate that an offer leaves is an opened one
offer_opens : (s : KeptBy) → low.OpenedBy (sections_by s) → (i pid : ℕ) (section : List ℕ) → Bytes section → low.OpenedBy (sections_by (indexed.offered_with s i pid section).left)
unfolding indexed.offered_with offered_as
offer_opens s r i pid section b = go (state_of s.kept.gate.follow s.kept.watch) refl
  where
    go : (x : State) → state_of s.kept.gate.follow s.kept.watch ≡ x → low.OpenedBy (sections_by (offered_as s i pid section x).left)
    go NotWhole e = r
    go Full e = r
    go Ready e = taken_opens s r i pid section b (words_after s r i pid section b e)

pub record AlikeOffered (c : CardBy) (i pid : ℕ) (section : List ℕ) : Type 0 where
  pub tells : offer_tells c i pid section ≡ plain_tells c.card i pid section
  pub acts : (offer_acts c i pid section).card ≡ plain_acts c.card i pid section
  pub fit : Fit (offer_acts c i pid section)

pub offer_alike : (c : CardBy) → Fit c → (i pid : ℕ) (section : List ℕ) → Bytes section → AlikeOffered c i pid section
unfolding offer_tells offer_acts plain_tells plain_acts
offer_alike c f i pid section b =
    let x = offer_same (kept_with i c) (rows_on_lem c f i) i pid section b in
    record {
      tells = x.answer;
      acts = ap (λ (k : Kept). with_gates c.card (gates_with i k c.card.gates)) x.kept;
      fit = fit_then c f i (indexed.offered_with (kept_with i c) i pid section).left (offer_opens (kept_with i c) (rows_on_lem c f i) i pid section b) c.card.inputs c.card.places f.bytes;
    }
