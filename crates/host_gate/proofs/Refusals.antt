-- A refusal leaves every word that is lent as it was, whatever the words hold. An array of n words is a list of length n.
-- Assumes nothing.
use Prim.Native.Nat.{ℕ, ◌≤◌, ◌<◌}
use mathlib.Core.Path.{◌≡◌, refl}
use mathlib.Core.List.{List}
use mathlib.Core.Bool.{Bool, true, false, cond, ◌&&◌, ◌||◌, true≢false}
use native.Mathlib.Omega.{arith}
use lib.ListN.{length}
use lib.Dec.{leb, eqb}
use Rattle.ring.specs.Store.{stamp_of, seen_of}
use Rattle.offers.specs.Offers.{verdict_of}
use Rattle.offers.specs.declared.Verdict.{Verdict}
use Rattle.offers.specs.declared.Verdict.TheVariants.{Refused, Failed, Arrived}
use Rattle.watched.specs.Store.{Opening, all_pids, filled}
use Rattle.watched.specs.Store as watched
use Rattle.offers.specs.declared.Failure.{Failure}
use Rattle.offers.specs.declared.Failure.TheVariants.{TooShort, Mismatch}
use Rattle.gate_state.specs.State.{Said, plain, short, mismatch, said_of, number_of, is_judged, by_tables, failure_no, answer_of, emits_of, seen_by}
use Rattle.gate.specs.Store.{can_open, begins, opened, is_whole, Store, admitted_to, carried, offered}
use Rattle.gate.specs.Store as sections
use Rattle.pats.specs.Store.{Record}
use Rattle.gate_pats.specs.Store.{room_with, state_of, begun_with, opened_with, opening_with, record_opened, Kept, kept_of, sections_in, Offering, sound_by, record_after, then_entered, taken_with, offered_by, offered_with}
use Rattle.gate_pats.specs.declared.inner.State.{State}
use Rattle.gate_pats.specs.declared.inner.State.TheVariants.{NotWhole, Full, Ready}
use Rattle.gate_state.specs.declared.Follow.{Follow}
use Rattle.gate_state.specs.declared.Settings.{Settings}
use Rattle.host_words.specs.Inputs.{input_number}
use Rattle.host_words.specs.Pids.{pid_number}
use Rattle.host_words.specs.Answers.{words}
use Rattle.host_gate_words.specs.Words.{asks_for_known, settings_of, gate_of, counters_of, failure_after}
use Rattle.host_gate.specs.Calls.{begun, begun_as, gate_opened, left, left_as, gate_offered, opened_as, watch_opened}
use Rattle.host_gate_words.proofs.Same.{gate_same}

-- a section that is admitted is told 1 or 2, one that fails 31 or 3
pub told_judged : (emits : Bool) → is_judged (number_of (said_of (answer_of emits))) ≡ false → ⊥
told_judged true e = true≢false e
told_judged false e = true≢false e

pub failure_judged : (f : Failure) → is_judged (failure_no f) ≡ false → ⊥
failure_judged (TooShort n) e = true≢false e
failure_judged (Mismatch stored worked) e = true≢false e

-- what a refusal says has no values
pub record KeptBy (l : sections.Offering) (s : Store) : Type 0 where
  pub store : l.store ≡ s
  pub failure : (w : List ℕ) → failure_after l.answer w ≡ w

carried_refused : (s : Store) (section : List ℕ) (v : Verdict) → is_judged (number_of (carried s section v).answer) ≡ false → KeptBy (carried s section v) s
unfolding carried admitted_to seen_by
carried_refused s section (Refused r) h = record { store = refl; failure = λ w. refl }
carried_refused s section (Failed f) h = absurd (failure_judged f h)
carried_refused s section (Arrived a) h =
    absurd (told_judged (emits_of s.gate (seen_of s.gate.ring s.keys s.changes a.key (stamp_of a.version a.change))) h)

pub offer_refused : (s : Store) (input pid : ℕ) (section : List ℕ) → is_judged (number_of (offered s input pid section).answer) ≡ false → KeptBy (offered s input pid section) s
unfolding offered
offer_refused s input pid section h = carried_refused s section (verdict_of (is_whole s) s.counters s.gate.change_rule input pid section) h

-- a section that was not judged enters no PAT store
pub not_judged : (a : Said) → is_judged (number_of a) ≡ false → sound_by a ≡ false
not_judged (plain n) h = or_none (eqb n 1 || eqb n 2) (eqb n 31) (or_none (eqb n 1 || eqb n 2 || eqb n 31) (eqb n 3) h)
  where
    or_none : (a b : Bool) → (a || b) ≡ false → a ≡ false
    or_none true b h = absurd (true≢false h)
    or_none false b h = refl
not_judged (short n) h = refl
not_judged (mismatch stored worked) h = refl

-- what a refusal of the gate with a record leaves and says
pub record Stays (l : Offering) (s : Kept) : Type 0 where
  pub left : l.left ≡ s
  pub failure : (w : List ℕ) → failure_after l.answer w ≡ w

pub and_none : (a b c : Bool) → b ≡ false → (a && b && c) ≡ false
and_none true true c h = absurd (true≢false h)
and_none true false c h = refl
and_none false b c h = refl

taken_refused : (s : Kept) (input pid : ℕ) (section : List ℕ) → is_judged (number_of (taken_with s input pid section).answer) ≡ false → Stays (taken_with s input pid section) s
unfolding taken_with record_after
taken_refused s input pid section h =
    let o = offered (sections_in s) input pid section in
    let k = offer_refused (sections_in s) input pid section h in
    record { left = same o k.store h; failure = k.failure }
  where
    same : (o : sections.Offering) → o.store ≡ sections_in s → is_judged (number_of o.answer) ≡ false → (then_entered s input pid section o).left ≡ s
    same o e h = rw (e, and_none (by_tables s.gate.follow) (sound_by o.answer) (eqb pid 0) (not_judged o.answer h))

as_state : (s : Kept) (input pid : ℕ) (section : List ℕ) (x : State) → is_judged (number_of (offered_by s input pid section x).answer) ≡ false → Stays (offered_by s input pid section x) s
unfolding offered_by
as_state s input pid section NotWhole h = record { left = refl; failure = λ w. refl }
as_state s input pid section Full h = record { left = refl; failure = λ w. refl }
as_state s input pid section Ready h = taken_refused s input pid section h

pub offered_refused : (s : Kept) (input pid : ℕ) (section : List ℕ) → is_judged (number_of (offered_with s input pid section).answer) ≡ false → Stays (offered_with s input pid section) s
unfolding offered_with
offered_refused s input pid section h = as_state s input pid section (state_of s.gate.follow s.watch) h

-- every answer but 1, 2, 31 and 3
pub gate_offer_refused :
    (gate keys changes : List ℕ) (watch : Record) (input pid : ℕ) (section failure : List ℕ) (answer : ℕ) → length gate ≡ 13 →
    answer ≡ (gate_offered gate keys changes watch input pid section failure).answer → is_judged answer ≡ false →
    gate_offered gate keys changes watch input pid section failure ≡ left answer gate keys changes watch failure
unfolding gate_offered
gate_offer_refused gate keys changes watch input pid section failure answer n e h =
    let s : Kept = kept_of (gate_of gate) (counters_of gate) keys changes watch in
    let l : Offering = offered_with s (input_number input) (pid_number pid) section in
    let k : is_judged (number_of l.answer) ≡ false = rw (← e) h in
    let r = offered_refused s (input_number input) (pid_number pid) section k in
    go l r.left (r.failure failure) e
  where
    go :
        (l : Offering) → l.left ≡ kept_of (gate_of gate) (counters_of gate) keys changes watch → failure_after l.answer failure ≡ failure →
        answer ≡ number_of l.answer → left_as gate failure l ≡ left answer gate keys changes watch failure
    go l p f e = rw (p, f, e, gate_same gate n)

-- an opening that does not answer 7 begins no PAT store
pub and_last : (b : Bool) → (b && false) ≡ false
and_last true = refl
and_last false = refl

-- 12 and 13
pub gate_open_refused :
    (gate : List ℕ) (capacity settings rule : ℕ) (extra keys changes slots cells watch : List ℕ) (answer : ℕ) →
    answer ≡ (gate_opened gate capacity settings rule extra keys changes slots cells watch).answer → (answer ≡ 7 → ⊥) →
    gate_opened gate capacity settings rule extra keys changes slots cells watch ≡ begun answer gate watch
unfolding gate_opened opened_with opened
gate_open_refused gate capacity settings rule extra keys changes slots cells watch answer e h =
    all (settings_of capacity settings rule) _ (room_with (settings_of capacity settings rule).follow (length watch) (length slots) (length cells)) (all_pids extra)
    (can_open (settings_of capacity settings rule) (length keys) (length changes) (length watch)) e
  where
    lower : Settings → List ℕ → Bool → Bool → sections.Begun
    lower s ws good room = cond good (cond room (begins 7 s ws) (begins 13 s watch)) (begins 12 s watch)

    upper : Settings → List ℕ → Bool → Bool → Bool → sections.Begun
    upper s ws there good room = cond there (begun_with s.follow (lower s ws good room)) (begins (cond good 13 12) s watch)

    all : (s : Settings) (ws : List ℕ) (there good room : Bool) → answer ≡ (begun_as gate (upper s ws there good room)).answer → begun_as gate (upper s ws there good room) ≡ begun answer gate watch
    all s ws true true true e = absurd (h e)
    all s ws true true false e = rw (e, and_last (by_tables s.follow))
    all s ws true false room e = rw (e, and_last (by_tables s.follow))
    all s ws false true room e = rw e
    all s ws false false room e = rw e

-- 12 and 13
pub watch_open_refused :
    (settings : ℕ) (extra slots cells watch : List ℕ) (answer : ℕ) → answer ≡ (watch_opened settings extra slots cells watch).answer → (answer ≡ 7 → ⊥) →
    watch_opened settings extra slots cells watch ≡ words answer watch
unfolding watch_opened record_opened watched.opened
watch_open_refused settings extra slots cells watch answer e h =
    all (settings_of 0 settings 0).follow (filled watch (asks_for_known settings) extra) (room_with (settings_of 0 settings 0).follow (length watch) (length slots) (length cells)) (all_pids extra) (leb 384 (length watch)) e
  where
    told : ℕ → List ℕ → Opening
    told n ws = record { answer = n; words = ws }

    upper : Follow → List ℕ → Bool → Bool → Bool → Opening
    upper f ws there good room = cond there (opening_with f (cond good (cond room (told 7 ws) (told 13 watch)) (told 12 watch))) (told (cond good 13 12) watch)

    all : (f : Follow) (ws : List ℕ) (there good room : Bool) → answer ≡ (opened_as (upper f ws there good room)).answer → opened_as (upper f ws there good room) ≡ words answer watch
    all f ws true true true e = absurd (h e)
    all f ws true true false e = rw (e, and_last (by_tables f))
    all f ws true false room e = rw (e, and_last (by_tables f))
    all f ws false true room e = rw e
    all f ws false false room e = rw e
