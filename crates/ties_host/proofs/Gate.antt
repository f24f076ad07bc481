-- What an offer writes into the words is what the next offer reads, so the answers to every sequence of C calls are those of the crate's calls, and from
-- an opening on those of the rule.
-- Assumes nothing.
use Prim.Native.Nat.{ℕ, ◌+◌, ◌%◌}
use mathlib.Core.Path.{◌≡◌, refl, sym, ap, subst, ◌∙◌}
use mathlib.Core.List.{List, map}
use mathlib.Core.Bool.{Bool, true, false, cond}
use lib.ListN.{length}
use Rattle.laws.specs.Runs.{answers, store_after}
use Rattle.counters.specs.Counters.{zeroes}
use Rattle.ring.specs.Store.{room_of, stamp_of, ring_with, has_free, row_for, is_known, renewed, arrived, seen_of}
use Rattle.ring.specs.declared.Ring.{Ring}
use Rattle.offers.specs.Offers.{verdict_of}
use Rattle.offers.specs.declared.Verdict.{Verdict}
use Rattle.offers.specs.declared.Verdict.TheVariants.{Refused, Failed, Arrived}
use Rattle.gate.specs.Rules.{Offer, OfBytes}
use Rattle.gate_state.specs.State.{number_of, empty_gate, gate_with, seen_by}
use Rattle.gate.specs.Store.{Begun, Store, admitted_to, carried, is_whole, offered}
use Rattle.gate.specs.View.{manner_of}
use Rattle.gate_state.specs.declared.Gate.{Gate}
use Rattle.gate_state.specs.declared.Follow.{Follow}
use Rattle.gate_state.specs.declared.Follow.TheVariants.{Off, Sections, Tables}
use Rattle.gate_state.specs.declared.Settings.{Settings}
use Rattle.pats.specs.Store.{record_of}
use Rattle.gate_pats.specs.Store.{opened_with, state_of, Kept, kept_of, sections_in, taken_with, offered_by, offered_with}
use Rattle.gate_pats.specs.View.{kept_tells, kept_acts}
use Rattle.gate_pats.specs.declared.inner.State.{State}
use Rattle.gate_pats.specs.declared.inner.State.TheVariants.{NotWhole, Full, Ready}
use Rattle.ties_gate.specs.Watching.{is_protected}
use Rattle.ties_gate_pats.specs.Rules.{empty_holding, tells_with, acts_with}
use Rattle.ties_gate_pats.specs.View.{holding}
use Rattle.ties_gate_pats.proofs.Order as order
use Rattle.ties_gate_pats.proofs.Order.{OpenedWith}
use Rattle.ties_gate_pats.proofs.Opening as opening
use Rattle.host_words.specs.Inputs.{input_number}
use Rattle.host_words.specs.Pids.{pid_number}
use Rattle.host_gate_words.specs.Words.{settings_of, gate_of, counters_of, bit, is_on, follow_in, follow_word, words_of, failure_after}
use Rattle.host_gate.specs.Calls.{begun_as, gate_opened, gate_offered}
use Rattle.ties_host.specs.Gate.{Lent, tells, acts, store_in, offer_of, OpenedBy}
use Rattle.ties_host.proofs.Runs as runs

-- ---- no offer changes the settings, whatever the memory holds

-- the capacity of one, the rows in use of the other
abbrev pub ring_counted : Ring → Ring → Ring
ring_counted g h = ring_with g h.used h.first

-- the settings of one, the rows in use of the other
abbrev pub counted : Gate → Gate → Gate
counted g h = gate_with g (ring_counted g.ring h.ring)

pub arrived_counts : (g : Ring) → (arrived g).ring ≡ ring_counted g (arrived g).ring
unfolding arrived
arrived_counts g = go (has_free g)
  where
    go : (b : Bool) → ◌≡◌ {A = Ring} (cond b (ring_with g (g.used + 1) g.first) (ring_with g g.used ((g.first + 1) % room_of g.capacity)))
        (ring_counted g (cond b (ring_with g (g.used + 1) g.first) (ring_with g g.used ((g.first + 1) % room_of g.capacity))))
    go true = refl
    go false = refl

pub picked_counts : (g : Ring) (changes : List ℕ) (i number : ℕ) (known : Bool) →
    (cond known (renewed g changes i number) (arrived g)).ring ≡ ring_counted g (cond known (renewed g changes i number) (arrived g)).ring
unfolding renewed
picked_counts g changes i number true = refl
picked_counts g changes i number false = arrived_counts g

seen_counts : (g : Ring) (keys changes : List ℕ) (key number : ℕ) → (seen_of g keys changes key number).ring ≡ ring_counted g (seen_of g keys changes key number).ring
unfolding seen_of
seen_counts g keys changes key number = picked_counts g changes (row_for g keys key) number (is_known g keys key)

carried_counts : (s : Store) (section : List ℕ) (v : Verdict) → (carried s section v).store.gate ≡ counted s.gate (carried s section v).store.gate
unfolding carried admitted_to seen_by
carried_counts s section (Refused r) = refl
carried_counts s section (Failed f) = refl
carried_counts s section (Arrived a) = ap (λ (r : Ring). gate_with s.gate r) (seen_counts s.gate.ring s.keys s.changes a.key (stamp_of a.version a.change))

offered_counts : (s : Store) (input pid : ℕ) (section : List ℕ) → (offered s input pid section).store.gate ≡ counted s.gate (offered s input pid section).store.gate
unfolding offered
offered_counts s input pid section = carried_counts s section (verdict_of (is_whole s) s.counters s.gate.change_rule input pid section)

kept_counts : (s : Kept) (input pid : ℕ) (section : List ℕ) → (offered_with s input pid section).left.gate ≡ counted s.gate (offered_with s input pid section).left.gate
unfolding offered_with offered_by taken_with
kept_counts s input pid section = go (state_of s.gate.follow s.watch)
  where
    go : (x : State) → (offered_by s input pid section x).left.gate ≡ counted s.gate (offered_by s input pid section x).left.gate
    go NotWhole = refl
    go Full = refl
    go Ready = offered_counts (sections_in s) input pid section

-- ---- one call

-- what is written is what is read: after the call the words stand for the gate and the counters that the call of the crate left
pub reads_back : (l : Lent) (o : Offer) → store_in (acts l o) ≡ kept_acts (store_in l) (offer_of o)
unfolding acts kept_acts gate_offered
reads_back l o =
    let a = (offered_with (store_in l) (input_number o.input) (pid_number o.pid) o.section).left in
    ap (λ (g : Gate). kept_of g a.counters a.keys a.changes a.watch) (sym (kept_counts (store_in l) (input_number o.input) (pid_number o.pid) o.section))

pub tells_as : (l : Lent) (o : Offer) → tells l o ≡ number_of (kept_tells (store_in l) (offer_of o))
unfolding tells kept_tells gate_offered
tells_as l o = refl

-- what a section failed by is told in its words, and every other answer leaves them
pub tells_failure : (l : Lent) (o : Offer) → (acts l o).failure ≡ failure_after (kept_tells (store_in l) (offer_of o)) l.failure
unfolding acts kept_tells gate_offered
tells_failure l o = refl

-- ---- every sequence of C calls, on any words and slices

pub same_answers : (offers : List Offer) (l : Lent) → answers tells acts l offers ≡ map number_of (answers kept_tells kept_acts (store_in l) (map offer_of offers))
same_answers offers l = runs.same_answers store_in offer_of number_of tells acts kept_tells kept_acts tells_as reads_back offers l

pub same_store : (offers : List Offer) (l : Lent) → store_in (store_after acts l offers) ≡ store_after kept_acts (store_in l) (map offer_of offers)
same_store = runs.same_store store_in offer_of number_of tells acts kept_tells kept_acts tells_as reads_back

-- ---- from an opening on

-- a setting that is written is read
pub bit_read : (b : Bool) → is_on (bit b) ≡ b
bit_read true = refl
bit_read false = refl

pub follow_read : (f : Follow) → follow_in (follow_word f) ≡ f
follow_read Off = refl
follow_read Sections = refl
follow_read Tables = refl

pub opened_read : (s : Settings) → gate_of (words_of (empty_gate s) zeroes) ≡ empty_gate s
opened_read s = rw (bit_read s.repeats, follow_read s.follow)

module _ (l : Lent) (o : OpenedBy l) where
  abbrev asked : Settings
  asked = settings_of o.capacity o.settings o.rule

  abbrev begun : Begun
  begun = opened_with asked o.extra (length l.keys) (length l.changes) (length l.watch.slots) (length l.watch.cells) o.watched

  answered : begun.answer ≡ 7
  unfolding gate_opened
  answered = o.answer

  words_read : l.words ≡ words_of (empty_gate asked) zeroes
  unfolding gate_opened
  words_read = o.words ∙ ap (λ (b : Begun). (begun_as o.before b).gate) (opening.seven asked o.extra _ _ _ _ o.watched answered).left

  watch_read : l.watch.words ≡ begun.words
  unfolding gate_opened
  watch_read = o.watch

  -- the words stand for what the call of the crate left
  is_left : store_in l ≡ opening.left_open begun l.keys l.changes l.watch.slots l.watch.cells
  is_left =
      let w = words_read in
      let b = sym (opening.opening_gate asked o.extra l.keys l.changes l.watch.slots l.watch.cells o.watched answered) in
      let g = ap gate_of w ∙ opened_read asked ∙ b in
      let c = ap counters_of w ∙ ap (λ (x : Begun). x.counters) (sym (opening.seven asked o.extra _ _ _ _ o.watched answered).left) in
      λ i. kept_of (g i) (c i) l.keys l.changes (record_of (watch_read i) l.watch.slots l.watch.cells)

  -- where opening answers 7, the words stand for an opened gate, and the record is an opened one
  pub opened_by_lem : OpenedWith (store_in l)
  opened_by_lem = subst OpenedWith (sym is_left) (opening.opening_opens asked o.extra l.keys l.changes l.watch.slots l.watch.cells o.watched answered)

  -- they hold nothing, and watch the protected PIDs
  pub opened_empty : holding (store_in l) ≡ empty_holding (is_protected asked.well_known o.extra)
  opened_empty = ap holding is_left ∙ opening.opened_empty asked o.extra l.keys l.changes l.watch.slots l.watch.cells o.watched answered

  -- the answers are those of the rules without memory; 10 never occurs
  pub as_rules :
      (offers : List Offer) → OfBytes (map offer_of offers) →
      answers tells acts l offers
      ≡ map number_of (answers (tells_with (gate_of l.words).follow (manner_of (gate_of l.words))) (acts_with (gate_of l.words).follow (manner_of (gate_of l.words))) (holding (store_in l)) (map offer_of offers))
  as_rules offers b = same_answers offers l ∙ ap (map number_of) (order.same_answers (store_in l) (map offer_of offers) opened_by_lem b)
