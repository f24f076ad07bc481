-- A refusal leaves every word that is lent as it was, whatever the words hold. An array of n words is a list of length n.
-- Assumes nothing.
use Prim.Native.Nat.{ℕ, ◌≤◌, ◌<◌}
use mathlib.Core.Path.{◌≡◌, refl}
use mathlib.Core.List.{List}
use mathlib.Core.Bool.{Bool, true, false, cond}
use native.Mathlib.Omega.{arith}
use lib.ListN.{length}
use lib.Dec.{eqb}
use Rattle.ring.specs.Store.{stamp_of}
use Rattle.ring_index.specs.Store.{index_of}
use Rattle.ring_index.specs.Store.{seen_by as found_by}
use Rattle.offers.specs.Offers.{verdict_of}
use Rattle.offers.specs.declared.Verdict.{Verdict}
use Rattle.offers.specs.declared.Verdict.TheVariants.{Refused, Failed, Arrived}
use Rattle.watched.specs.Store.{all_pids}
use Rattle.gate_state.specs.State.{number_of, is_judged, by_tables, emits_of, seen_by}
use Rattle.gate_state.specs.declared.Settings.{Settings}
use Rattle.pats.specs.Store.{Record}
use Rattle.gate_indexed.specs.Store as sections
use Rattle.gate_pats.specs.Store.{room_with, state_of, sound_by, record_after}
use Rattle.gate_pats.specs.declared.inner.State.{State}
use Rattle.gate_pats.specs.declared.inner.State.TheVariants.{NotWhole, Full, Ready}
use Rattle.gate_pats_indexed.specs.Store as indexed
use Rattle.host_words.specs.Inputs.{input_number}
use Rattle.host_words.specs.Pids.{pid_number}
use Rattle.host_gate_words.specs.Words.{settings_of, gate_of, counters_of, failure_after}
use Rattle.host_gate_words.proofs.Same.{gate_same}
use Rattle.host_gate.proofs.Refusals.{told_judged, failure_judged, not_judged, and_none, and_last}
use Rattle.host_indexed.specs.Calls.{begun, begun_as, gate_opened, left, left_as, gate_offered}

-- what a refusal leaves and says
record Kept (l : sections.Offering) (s : sections.Indexed) : Type 0 where
  left' : l.left ≡ s
  failure : (w : List ℕ) → failure_after l.answer w ≡ w

carried_refused : (s : sections.Indexed) (section : List ℕ) (v : Verdict) → is_judged (number_of (sections.carried_by s section v).answer) ≡ false → Kept (sections.carried_by s section v) s
unfolding sections.carried_by sections.admitted_by seen_by
carried_refused s section (Refused r) h = record { left' = refl; failure = λ w. refl }
carried_refused s section (Failed f) h = absurd (failure_judged f h)
carried_refused s section (Arrived a) h =
    absurd
    (told_judged (emits_of s.store.gate (found_by s.store.gate.ring s.store.keys s.store.changes s.index a.key (stamp_of a.version a.change))) h)

offer_refused_by :
    (s : sections.Indexed) (input pid : ℕ) (section : List ℕ) → is_judged (number_of (sections.offered_by s input pid section).answer) ≡ false → Kept (sections.offered_by s input pid section) s
unfolding sections.offered_by
offer_refused_by s input pid section h = carried_refused s section (verdict_of (sections.is_whole_by s) s.store.counters s.store.gate.change_rule input pid section) h

-- what a refusal of the gate with a record leaves and says
record Stays (l : indexed.Offering) (s : indexed.KeptBy) : Type 0 where
  left' : l.left ≡ s
  failure : (w : List ℕ) → failure_after l.answer w ≡ w

taken_refused : (s : indexed.KeptBy) (input pid : ℕ) (section : List ℕ) → is_judged (number_of (indexed.taken_by s input pid section).answer) ≡ false → Stays (indexed.taken_by s input pid section) s
unfolding indexed.taken_by record_after
taken_refused s input pid section h =
    let o = sections.offered_by (indexed.sections_by s) input pid section in
    let k = offer_refused_by (indexed.sections_by s) input pid section h in
    record { left' = same o k.left' h; failure = k.failure }
  where
    same : (o : sections.Offering) → o.left ≡ indexed.sections_by s → is_judged (number_of o.answer) ≡ false → (indexed.then_entered s input pid section o).left ≡ s
    same o e h = rw (e, and_none (by_tables s.kept.gate.follow) (sound_by o.answer) (eqb pid 0) (not_judged o.answer h))

as_state :
    (s : indexed.KeptBy) (input pid : ℕ) (section : List ℕ) (x : State) → is_judged (number_of (indexed.offered_as s input pid section x).answer) ≡ false →
    Stays (indexed.offered_as s input pid section x) s
unfolding indexed.offered_as
as_state s input pid section NotWhole h = record { left' = refl; failure = λ w. refl }
as_state s input pid section Full h = record { left' = refl; failure = λ w. refl }
as_state s input pid section Ready h = taken_refused s input pid section h

offered_refused :
    (s : indexed.KeptBy) (input pid : ℕ) (section : List ℕ) → is_judged (number_of (indexed.offered_with s input pid section).answer) ≡ false →
    Stays (indexed.offered_with s input pid section) s
unfolding indexed.offered_with
offered_refused s input pid section h = as_state s input pid section (state_of s.kept.gate.follow s.kept.watch) h

-- every answer but 1, 2, 31 and 3
pub indexed_offer_refused :
    (gate keys changes buckets links : List ℕ) (watch : Record) (input pid : ℕ) (section failure : List ℕ) (answer : ℕ) → length gate ≡ 13 →
    answer ≡ (gate_offered gate keys changes buckets links watch input pid section failure).answer → is_judged answer ≡ false →
    gate_offered gate keys changes buckets links watch input pid section failure ≡ left answer gate keys changes buckets links watch failure
unfolding gate_offered
indexed_offer_refused gate keys changes buckets links watch input pid section failure answer n e h =
    let s : indexed.KeptBy = indexed.kept_by (gate_of gate) (counters_of gate) keys changes (index_of buckets links) watch in
    let l : indexed.Offering = indexed.offered_with s (input_number input) (pid_number pid) section in
    let k : is_judged (number_of l.answer) ≡ false = rw (← e) h in
    let r = offered_refused s (input_number input) (pid_number pid) section k in
    go l r.left' (r.failure failure) e
  where
    go :
        (l : indexed.Offering) → l.left ≡ indexed.kept_by (gate_of gate) (counters_of gate) keys changes (index_of buckets links) watch →
        failure_after l.answer failure ≡ failure → answer ≡ number_of l.answer →
        left_as gate failure l ≡ left answer gate keys changes buckets links watch failure
    go l p f e = rw (p, f, e, gate_same gate n)

-- 12 and 13
pub indexed_open_refused :
    (gate : List ℕ) (capacity settings rule : ℕ) (extra keys changes buckets links slots cells watch : List ℕ) (answer : ℕ) →
    answer ≡ (gate_opened gate capacity settings rule extra keys changes buckets links slots cells watch).answer → (answer ≡ 7 → ⊥) →
    gate_opened gate capacity settings rule extra keys changes buckets links slots cells watch ≡ begun answer gate buckets watch
unfolding gate_opened indexed.opened_with sections.opened_by
indexed_open_refused gate capacity settings rule extra keys changes buckets links slots cells watch answer e h =
    all (settings_of capacity settings rule) _ _ (room_with (settings_of capacity settings rule).follow (length watch) (length slots) (length cells)) (all_pids extra)
    (sections.can_open_by (settings_of capacity settings rule) (length keys) (length changes) (length buckets) (length links) (length watch)) e
  where
    lower : Settings → List ℕ → List ℕ → Bool → Bool → sections.Begun
    lower s bs ws good room = cond good (cond room (sections.begins 7 s bs ws) (sections.begins 13 s buckets watch)) (sections.begins 12 s buckets watch)

    upper : Settings → List ℕ → List ℕ → Bool → Bool → Bool → sections.Begun
    upper s bs ws there good room = cond there (indexed.begun_with s.follow (lower s bs ws good room)) (sections.begins (cond good 13 12) s buckets watch)

    all :
        (s : Settings) (bs ws : List ℕ) (there good room : Bool) → answer ≡ (begun_as gate (upper s bs ws there good room)).answer →
        begun_as gate (upper s bs ws there good room) ≡ begun answer gate buckets watch
    all s bs ws true true true e = absurd (h e)
    all s bs ws true true false e = rw (e, and_last (by_tables s.follow))
    all s bs ws true false room e = rw (e, and_last (by_tables s.follow))
    all s bs ws false true room e = rw e
    all s bs ws false false room e = rw e
