-- The same of the gate with an index: from an opening on it answers as the gate without, and so as the rule.
-- Assumes nothing.
use Prim.Native.Nat.{ℕ}
use mathlib.Core.Path.{◌≡◌, refl, sym, ap, subst, ◌∙◌}
use mathlib.Core.List.{List, map}
use lib.ListN.{length}
use Rattle.laws.specs.Runs.{answers, store_after}
use Rattle.ring.specs.Store.{stamp_of}
use Rattle.ring.specs.declared.Ring.{Ring}
use Rattle.ring_index.specs.Store.{Index, index_of, is_found, found_by}
use Rattle.ring_index.specs.Store.{seen_by as found_in}
use Rattle.offers.specs.Offers.{verdict_of}
use Rattle.offers.specs.declared.Verdict.{Verdict}
use Rattle.offers.specs.declared.Verdict.TheVariants.{Refused, Failed, Arrived}
use Rattle.gate.specs.Rules.{Offer, OfBytes}
use Rattle.gate_state.specs.State.{number_of, empty_gate, gate_with, seen_by}
use Rattle.gate.specs.View.{manner_of}
use Rattle.gate_state.specs.declared.Gate.{Gate}
use Rattle.gate_state.specs.declared.Settings.{Settings}
use Rattle.counters.specs.Counters.{zeroes}
use Rattle.gate_indexed.specs.Store.{Begun, Indexed, admitted_by, carried_by, is_whole_by, offered_by}
use Rattle.pats.specs.Store.{record_of}
use Rattle.gate_pats.specs.Store.{state_of}
use Rattle.gate_pats.specs.declared.inner.State.{State}
use Rattle.gate_pats.specs.declared.inner.State.TheVariants.{NotWhole, Full, Ready}
use Rattle.gate_pats_indexed.specs.Store.{KeptBy, kept_by, sections_by, opened_with, taken_by, offered_as, offered_with}
use Rattle.ties_gate.specs.Watching.{is_protected}
use Rattle.ties_gate_pats.specs.Rules.{empty_holding, tells_with, acts_with}
use Rattle.ties_gate_pats.specs.View.{holding, kept_tells_by, kept_acts_by}
use Rattle.ties_gate_pats.proofs.Order as order
use Rattle.ties_gate_pats.proofs.Indexed as same
use Rattle.host_words.specs.Inputs.{input_number}
use Rattle.host_words.specs.Pids.{pid_number}
use Rattle.host_gate_words.specs.Words.{settings_of, gate_of, counters_of, words_of, failure_after}
use Rattle.host_indexed.specs.Calls.{gate_opened, gate_offered}
use Rattle.ties_host.specs.Gate.{offer_of}
use Rattle.ties_host.specs.Indexed.{Lent, tells, acts, store_in, OpenedBy}
use Rattle.ties_host.proofs.Gate.{ring_counted, counted, picked_counts, opened_read}
use Rattle.ties_host.proofs.Runs as runs

-- ---- no offer changes the settings, whatever the memory holds

seen_counts : (g : Ring) (keys changes : List ℕ) (x : Index) (key number : ℕ) → (found_in g keys changes x key number).ring ≡ ring_counted g (found_in g keys changes x key number).ring
unfolding found_in
seen_counts g keys changes x key number = picked_counts g changes (found_by g keys x key) number (is_found g keys x key)

carried_counts : (s : Indexed) (section : List ℕ) (v : Verdict) → (carried_by s section v).left.store.gate ≡ counted s.store.gate (carried_by s section v).left.store.gate
unfolding carried_by admitted_by seen_by
carried_counts s section (Refused r) = refl
carried_counts s section (Failed f) = refl
carried_counts s section (Arrived a) =
    ap (λ (r : Ring). gate_with s.store.gate r) (seen_counts s.store.gate.ring s.store.keys s.store.changes s.index a.key (stamp_of a.version a.change))

offered_counts : (s : Indexed) (input pid : ℕ) (section : List ℕ) → (offered_by s input pid section).left.store.gate ≡ counted s.store.gate (offered_by s input pid section).left.store.gate
unfolding offered_by
offered_counts s input pid section = carried_counts s section (verdict_of (is_whole_by s) s.store.counters s.store.gate.change_rule input pid section)

kept_counts : (s : KeptBy) (input pid : ℕ) (section : List ℕ) → (offered_with s input pid section).left.kept.gate ≡ counted s.kept.gate (offered_with s input pid section).left.kept.gate
unfolding offered_with offered_as taken_by
kept_counts s input pid section = go (state_of s.kept.gate.follow s.kept.watch)
  where
    go : (x : State) → (offered_as s input pid section x).left.kept.gate ≡ counted s.kept.gate (offered_as s input pid section x).left.kept.gate
    go NotWhole = refl
    go Full = refl
    go Ready = offered_counts (sections_by s) input pid section

-- ---- one call

pub reads_back : (l : Lent) (o : Offer) → store_in (acts l o) ≡ kept_acts_by (store_in l) (offer_of o)
unfolding acts kept_acts_by gate_offered
reads_back l o =
    let a = (offered_with (store_in l) (input_number o.input) (pid_number o.pid) o.section).left in
    ap (λ (g : Gate). kept_by g a.kept.counters a.kept.keys a.kept.changes (index_of a.index.buckets a.index.links) a.kept.watch)
    (sym (kept_counts (store_in l) (input_number o.input) (pid_number o.pid) o.section))

pub tells_as : (l : Lent) (o : Offer) → tells l o ≡ number_of (kept_tells_by (store_in l) (offer_of o))
unfolding tells kept_tells_by gate_offered
tells_as l o = refl

pub tells_failure : (l : Lent) (o : Offer) → (acts l o).failure ≡ failure_after (kept_tells_by (store_in l) (offer_of o)) l.failure
unfolding acts kept_tells_by gate_offered
tells_failure l o = refl

-- ---- every sequence of C calls, on any words and slices

pub same_answers : (offers : List Offer) (l : Lent) → answers tells acts l offers ≡ map number_of (answers kept_tells_by kept_acts_by (store_in l) (map offer_of offers))
same_answers offers l = runs.same_answers store_in offer_of number_of tells acts kept_tells_by kept_acts_by tells_as reads_back offers l

pub same_store : (offers : List Offer) (l : Lent) → store_in (store_after acts l offers) ≡ store_after kept_acts_by (store_in l) (map offer_of offers)
same_store = runs.same_store store_in offer_of number_of tells acts kept_tells_by kept_acts_by tells_as reads_back

-- ---- from an opening on

module _ (l : Lent) (o : OpenedBy l) where
  abbrev asked : Settings
  asked = settings_of o.capacity o.settings o.rule

  abbrev begun : Begun
  begun =
      opened_with asked o.extra (length l.keys) (length l.changes) (length l.links) (length l.watch.slots) (length l.watch.cells) o.old o.watched

  answered : begun.answer ≡ 7
  unfolding gate_opened
  answered = o.answer

  fresh : (begun.gate ≡ empty_gate asked) × (begun.counters ≡ zeroes)
  fresh = same.opening_fresh asked o.extra l.keys l.changes o.old l.links l.watch.slots l.watch.cells o.watched answered

  words_read : l.words ≡ words_of (empty_gate asked) zeroes
  unfolding gate_opened
  words_read = o.words ∙ rw (answered, fresh.0, fresh.1)

  buckets_read : l.buckets ≡ begun.buckets
  unfolding gate_opened
  buckets_read = o.buckets

  watch_read : l.watch.words ≡ begun.words
  unfolding gate_opened
  watch_read = o.watch

  -- the words and slices stand for what the call of the crate left
  is_left : store_in l ≡ same.left_open begun l.keys l.changes l.links l.watch.slots l.watch.cells
  is_left =
      let g = ap gate_of words_read ∙ opened_read asked ∙ sym fresh.0 in
      let c = ap counters_of words_read ∙ sym fresh.1 in
      λ i. kept_by (g i) (c i) l.keys l.changes (index_of (buckets_read i) l.links) (record_of (watch_read i) l.watch.slots l.watch.cells)

  -- where opening answers 7, the words stand for an opened gate, its index is sound, and the record is an opened one
  pub opened_by_lem : same.OpenedBy (store_in l)
  opened_by_lem =
      subst same.OpenedBy (sym is_left)
      (same.opening_opens asked o.extra l.keys l.changes o.old l.links l.watch.slots l.watch.cells o.watched answered)

  pub opened_empty : holding (store_in l).kept ≡ empty_holding (is_protected asked.well_known o.extra)
  opened_empty =
      ap (λ (s : KeptBy). holding s.kept) is_left
      ∙ same.opened_empty asked o.extra l.keys l.changes o.old l.links l.watch.slots l.watch.cells o.watched answered

  -- the answers are those of the rules without memory; 10 never occurs
  pub as_rules :
      (offers : List Offer) → OfBytes (map offer_of offers) →
      answers tells acts l offers
      ≡ map number_of (answers (tells_with (gate_of l.words).follow (manner_of (gate_of l.words))) (acts_with (gate_of l.words).follow (manner_of (gate_of l.words))) (holding (store_in l).kept) (map offer_of offers))
  as_rules offers b =
      same_answers offers l
      ∙ ap (map number_of) (same.same_answers (store_in l) (map offer_of offers) opened_by_lem b ∙ order.same_answers (store_in l).kept (map offer_of offers) opened_by_lem.opened b)
