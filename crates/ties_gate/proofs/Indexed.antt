-- The gate with an index and the gate without: from an opened store every sequence of offers has the same answers, and leaves the same gate,
-- counters, rows and watch.
-- Assumes nothing.
use Prim.Native.Nat.{ℕ, ◌^◌, ◌<◌, ◌≤◌}
use mathlib.Core.Path.{◌≡◌, refl, sym, ap, subst, ◌∙◌}
use mathlib.Core.List.{List, [], ◌∷◌}
use mathlib.Core.Bool.{Bool, true, false, cond, ◌&&◌}
use lib.ListN.{length}
use lib.Dec.{leb}
use native.Mathlib.Omega.{arith}
use borrow.Author.Tests.{le-leb, leb-true}
use Rattle.laws.proofs.Tests.{true_and, and_true}
use Rattle.laws.specs.Runs.{answers, store_after}
use Rattle.ring.specs.Store.{room_of, stamp_of}
use Rattle.ring.specs.View.{memory_after}
use Rattle.ring.proofs.Order.{opened_reached}
use Rattle.ring_index.specs.Store.{index_of, cleared_by}
use Rattle.ring_index.specs.Runs.{opened_index}
use Rattle.ring_index.proofs.Same.{Sound as Kept, seen_same, keys_same, changes_same, sound_after, opened_sound}
use Rattle.section.specs.Facts.{Bytes}
use Rattle.answers.specs.declared.Refusal.TheVariants.{CounterFull}
use Rattle.section.specs.Judged.{rule_known}
use Rattle.offers.specs.Offers.{read_of, verdict_of}
use Rattle.offers.specs.declared.Arrival.{Arrival}
use Rattle.offers.specs.declared.Verdict.{Verdict}
use Rattle.offers.specs.declared.Verdict.TheVariants.{Refused, Failed, Arrived}
use Rattle.gate_state.specs.State.{empty_gate}
use Rattle.gate.specs.Store.{can_open, Store, admitted_to, carried, opened, offered}
use Rattle.counters.specs.Counters.{zeroes, any_full}
use Rattle.gate_state.specs.State.{seen_by as answered_by}
use Rattle.gate.specs.Store.{Offering as Told}
use Rattle.gate.specs.Rules.{Offer, Held, row_from, tells_no, acts, OfBytes}
use Rattle.gate.specs.View.{memory_of, Opened, store_tells, store_acts}
use Rattle.gate_state.specs.declared.Settings.{Settings}
use Rattle.watched.specs.Store.{all_pids, filled}
use Rattle.watched.proofs.Meaning.{length_filled}
use Rattle.gate.specs.Store as plain
use Rattle.ties_gate.proofs.Order.{follows, verdict_small, opened_whole}
use Rattle.watched.specs.Store.{asked}
use Rattle.ties_gate.specs.Watching.{is_protected, no_pid, empty_held, n_after, answered}
use Rattle.ties_gate.specs.Counting.{evictions_in}
use Rattle.ties_gate.proofs.Opening.{manner_for}
use Rattle.ties_gate.proofs.Opening.{left_open as left_store}
use Rattle.ties_gate.proofs.Watching.{ask_in_every_history}
use Rattle.ties_gate.proofs.Counting.{Tells, counters_in_every_history}
use Rattle.gate_indexed.specs.Store.{can_open_by, Begun, begins, opened_by, is_whole_by, Indexed, indexed_of, Offering, admitted_by, carried_by, offered_by}
use Rattle.gate_indexed.specs.Runs.{tells_by, acts_by}

-- what every store has that came from an opened one
pub record OpenedBy (s : Indexed) : Type 0 where
  pub opened : Opened s.store
  pub kept : Kept (memory_of s.store) s.index

-- what the gate with an index answered and left, and what the one without
pub record Same (l : Offering) (k : Told) : Type 0 where
  pub answer : l.answer ≡ k.answer
  pub store : l.left.store ≡ k.store
  pub kept : Kept (memory_of k.store) l.left.index

module _ (s : Indexed) (r : OpenedBy s) (section : List ℕ) where
  admitted_same : (a : Arrival) → a.change < 2 ^ 32 → Same (admitted_by s section a) (admitted_to s.store section a)
  unfolding admitted_by admitted_to answered_by memory_after
  admitted_same a small =
      let x = seen_same (memory_of s.store) r.opened.reached s.index r.kept a.key (stamp_of a.version a.change) in
      let b = keys_same (memory_of s.store) r.opened.reached s.index r.kept a.key 0 in
      let c = changes_same (memory_of s.store) r.opened.reached s.index r.kept a.key (stamp_of a.version a.change) in
      record {
        answer = rw x;
        store = rw (x, b, c);
        kept = sound_after (memory_of s.store) s.index (row_from a) r.opened.reached r.kept small;
      }

  carried_same : (v : Verdict) → ((a : Arrival) → v ≡ Arrived a → a.change < 2 ^ 32) → Same (carried_by s section v) (carried s.store section v)
  unfolding carried_by carried
  carried_same (Refused x) k = record { answer = refl; store = refl; kept = r.kept }
  carried_same (Failed f) k = record { answer = refl; store = refl; kept = record { covers = r.kept.covers; holds = r.kept.holds } }
  carried_same (Arrived a) k = admitted_same a (k a refl)

-- 10 does not occur
pub opened_whole_by : (s : Indexed) → OpenedBy s → is_whole_by s ≡ true
opened_whole_by s r =
    true_and (true_and (opened_whole s.store r.opened) (le-leb (room_of s.store.gate.ring.capacity) (length s.index.buckets) r.kept.covers.buckets_long))
    (le-leb (room_of s.store.gate.ring.capacity) (length s.index.links) r.kept.covers.links_long)

module _ (s : Indexed) (r : OpenedBy s) (input pid : ℕ) (section : List ℕ) where
  -- every offer
  pub offer_same : Bytes section → Same (offered_by s input pid section) (offered s.store input pid section)
  unfolding offered_by offered verdict_of
  offer_same b =
      rw (opened_whole_by s r, opened_whole s.store r.opened)
      (carried_same s r section (cond (any_full s.store.counters) (Refused CounterFull) (read_of s.store.gate.change_rule input pid section)) (verdict_small s.store.gate.change_rule (record { input = input; pid = pid; section = section }) b (any_full s.store.counters)))

-- the store that is left came from opening too
next : (s : Indexed) (o : Offer) → OpenedBy s → Bytes o.section → OpenedBy (acts_by s o)
unfolding acts_by
next s o r b =
    let e = offer_same s r o.input o.pid o.section b in
    record {
      opened = subst (λ (t : Store). Opened t) (sym e.store) (follows s.store o r.opened b).opened;
      kept = subst (λ (t : Store). Kept (memory_of t) (offered_by s o.input o.pid o.section).left.index) (sym e.store) e.kept;
    }

-- THE THEOREM: the answers, and the gate, counters, rows and watch that are left
pub same_answers :
    (s : Indexed) (os : List Offer) → OpenedBy s → OfBytes os → answers tells_by acts_by s os ≡ answers store_tells store_acts s.store os
unfolding answers tells_by store_tells acts_by store_acts
same_answers s [] r b = refl
same_answers s (o ∷ os) r b =
    let e = offer_same s r o.input o.pid o.section b.0 in
    let ih = same_answers (offered_by s o.input o.pid o.section).left os (next s o r b.0) b.1 in
    rw (e.answer, ih, e.store)

pub same_store : (s : Indexed) (os : List Offer) → OpenedBy s → OfBytes os → (store_after acts_by s os).store ≡ store_after store_acts s.store os
unfolding store_after acts_by store_acts
same_store s [] r b = refl
same_store s (o ∷ os) r b =
    let e = offer_same s r o.input o.pid o.section b.0 in
    let ih = same_store (offered_by s o.input o.pid o.section).left os (next s o r b.0) b.1 in
    ih ∙ ap (λ (t : Store). store_after store_acts t os) e.store

-- what opening leaves, whatever the slices held
pub opened_by_lem :
    (st : Settings) (keys changes buckets links words : List ℕ) →
    room_of st.capacity ≤ length keys → room_of st.capacity ≤ length changes → room_of st.capacity ≤ length buckets → room_of st.capacity ≤ length links →
    384 ≤ length words → rule_known st.change_rule ≡ true → OpenedBy (indexed_of (empty_gate st) zeroes keys changes (opened_index st.capacity buckets links) words)
opened_by_lem st keys changes buckets links words k c b l w q =
    record {
      opened = record { reached = opened_reached st.capacity keys changes k c; watch = w; rule = q };
      kept = opened_sound st.capacity keys changes buckets links b l;
    }

-- what a call of `open` left, with the slices that it does not write
abbrev pub left_open : Begun → List ℕ → List ℕ → List ℕ → Indexed
left_open o keys changes links = indexed_of o.gate o.counters keys changes (index_of o.buckets links) o.words

-- where opening answers 7, the store that it leaves is an opened one: the theorems above hold of it
pub opening_opens : (st : Settings) (extra keys changes buckets links words : List ℕ)
    → (opened_by st extra (length keys) (length changes) (length links) buckets words).answer ≡ 7
    → OpenedBy (left_open (opened_by st extra (length keys) (length changes) (length links) buckets words) keys changes links)
unfolding opened_by
opening_opens st extra keys changes buckets links words = go (all_pids extra) (can_open_by st (length keys) (length changes) (length buckets) (length links) (length words)) refl
  where
    n : ℕ
    n = room_of st.capacity

    done : Begun
    done = begins 7 st (cleared_by n buckets) (filled words st.well_known extra)

    room : can_open_by st (length keys) (length changes) (length buckets) (length links) (length words) ≡ true → OpenedBy (left_open done keys changes links)
    room e =
        let a = and_true (can_open st (length keys) (length changes) (length words) && leb n (length buckets)) (leb n (length links)) e in
        let b = and_true (can_open st (length keys) (length changes) (length words)) (leb n (length buckets)) a.0 in
        let q = and_true (leb n (length keys) && leb n (length changes) && leb 384 (length words)) (rule_known st.change_rule) b.0 in
        let c = and_true (leb n (length keys) && leb n (length changes)) (leb 384 (length words)) q.0 in
        let d = and_true (leb n (length keys)) (leb n (length changes)) c.0 in
        let w = leb-true 384 (length words) c.1 in
        opened_by_lem st keys changes buckets links (filled words st.well_known extra)
        (leb-true _ _ d.0) (leb-true _ _ d.1) (leb-true _ _ b.1) (leb-true _ _ a.1)
        (subst (λ (l : ℕ). 384 ≤ l) (sym (length_filled words st.well_known extra w)) w) q.1

    go : (p q : Bool) → can_open_by st (length keys) (length changes) (length buckets) (length links) (length words) ≡ q
        → (cond p (cond q done (begins 13 st buckets words)) (begins 12 st buckets words)).answer ≡ 7
        → OpenedBy (left_open (cond p (cond q done (begins 13 st buckets words)) (begins 12 st buckets words)) keys changes links)
    go true true e h = room e
    go true false e h = absurd (omega arith)
    go false q e h = absurd (omega arith)

-- the store that it leaves is, but for the index, the one that opening without an index leaves: what holds in every history from that holds here too
pub opening_same : (st : Settings) (extra keys changes buckets links words : List ℕ)
    → (opened_by st extra (length keys) (length changes) (length links) buckets words).answer ≡ 7
    → ((opened st extra (length keys) (length changes) words).answer ≡ 7)
    × ((left_open (opened_by st extra (length keys) (length changes) (length links) buckets words) keys changes links).store ≡ left_store (opened st extra (length keys) (length changes) words) keys changes)
unfolding opened_by opened
opening_same st extra keys changes buckets links words = go (all_pids extra) (can_open st (length keys) (length changes) (length words)) (leb (room_of st.capacity) (length buckets)) (leb (room_of st.capacity) (length links))
  where
    ws : List ℕ
    ws = filled words st.well_known extra

    go : (p q b l : Bool)
        → (cond p (cond (q && b && l) (begins 7 st (cleared_by (room_of st.capacity) buckets) ws) (begins 13 st buckets words)) (begins 12 st buckets words)).answer ≡ 7
        → ((cond p (cond q (plain.begins 7 st ws) (plain.begins 13 st words)) (plain.begins 12 st words)).answer ≡ 7)
        × ((left_open (cond p (cond (q && b && l) (begins 7 st (cleared_by (room_of st.capacity) buckets) ws) (begins 13 st buckets words)) (begins 12 st buckets words)) keys changes links).store
        ≡ left_store (cond p (cond q (plain.begins 7 st ws) (plain.begins 13 st words)) (plain.begins 12 st words)) keys changes)
    go true true true true h = (refl, refl)
    go true true true false h = absurd (omega arith)
    go true true false l h = absurd (omega arith)
    go true false b l h = absurd (omega arith)
    go false q b l h = absurd (omega arith)

-- what is watched and what is counted, in every history from an opening of the gate with an index
module _
    (st : Settings) (extra keys changes buckets links words : List ℕ)
    (h : (opened_by st extra (length keys) (length changes) (length links) buckets words).answer ≡ 7)
    (os : List Offer) (b : OfBytes os)
  where
    abbrev start : Indexed
    start = left_open (opened_by st extra (length keys) (length changes) (length links) buckets words) keys changes links

    abbrev empty : Held
    empty = empty_held (is_protected st.well_known extra)

    -- the store after the offers is that of the gate without an index
    same_after : (store_after acts_by start os).store ≡ store_after store_acts (left_store (opened st extra (length keys) (length changes) words) keys changes) os
    same_after =
        same_store start os (opening_opens st extra keys changes buckets links words h) b
        ∙ ap (λ (t : Store). store_after store_acts t os) (opening_same st extra keys changes buckets links words h).1

    pub indexed_ask_in_every_history : (pid : ℕ) → pid < 8192 →
        asked (store_after acts_by start os).store.words pid ≡ answered (is_protected st.well_known extra) (n_after (manner_for st) empty no_pid os) pid
    indexed_ask_in_every_history pid k =
        ap (λ (t : Store). asked t.words pid) same_after
        ∙ ask_in_every_history st extra keys changes words (opening_same st extra keys changes buckets links words h).0 os b pid k

    pub indexed_counters_in_every_history :
        Tells (answers (tells_no (manner_for st)) (acts (manner_for st)) empty os) (evictions_in (manner_for st) empty os) (store_after acts_by start os).store.counters
    indexed_counters_in_every_history =
        subst (λ (t : Store). Tells (answers (tells_no (manner_for st)) (acts (manner_for st)) empty os) (evictions_in (manner_for st) empty os) t.counters) (sym same_after)
        (counters_in_every_history st extra keys changes words (opening_same st extra keys changes buckets links words h).0 os b)
