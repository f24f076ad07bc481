-- What the tests of an offer tell as orders of numbers, and one law for each way out of a function.
-- Assumes nothing.
use Prim.Native.Nat.{ℕ, ◌≤◌}
use mathlib.Core.Path.{◌≡◌, refl, sym, ◌∙◌}
use mathlib.Core.List.{List}
use mathlib.Core.Bool.{Bool, true, false, not, ◌&&◌}
use lib.ListN.{length}
use lib.Dec.{leb}
use borrow.Author.Tests.{leb-true, not-true, not-false}
use Rattle.laws.proofs.Tests.{and_true}
use Rattle.ring.specs.Store.{room_of, stamp_of}
use Rattle.ring.specs.declared.Seen.{Seen}
use Rattle.ring_index.specs.Store.{Index, cleared_by, seen_by, keys_by, changes_by, index_by}
use Rattle.section.specs.Judged.{rule_known}
use Rattle.offers.specs.Offers.{verdict_of}
use Rattle.offers.specs.declared.Arrival.{Arrival}
use Rattle.offers.specs.declared.Verdict.{Verdict}
use Rattle.offers.specs.declared.Verdict.TheVariants as verdict
use Rattle.watched.specs.Store.{all_pids, filled}
use Rattle.answers.specs.declared.Refusal.{Refusal}
use Rattle.answers.specs.declared.Refusal.TheVariants.{BadPid, TooLittle}
use Rattle.std.specs.Prelude.{Ok, Err}
use Rattle.counters.specs.declared.Counters.{Counters}
use Rattle.gate_state.specs.State.{by_sections, begun, refused, failed_by}
use Rattle.offers.specs.declared.Failure.{Failure}
use Rattle.gate.specs.Store.{can_open, watch_after}
use Rattle.gate_state.specs.State.{seen_by as answered_by}
use Rattle.gate_state.specs.declared.Gate.{Gate}
use Rattle.gate_state.specs.declared.Offered.{Offered}
use Rattle.gate_state.specs.declared.Settings.{Settings}
use Rattle.gate_state.specs.declared.Opened.{Opened}
use Rattle.gate.proofs.Laws.{fits}
use Rattle.gate_indexed.specs.Store.{can_open_by, begun_by, opened_by, whole_by, FitsBy, Indexed, indexed_of, Offering, left_by, admitted_by, carried_by, is_whole_by, offered_by}

-- not 10
pub fits_by :
    (g : Gate) (keys changes buckets links words : ℕ) (w : Bool) → w ≡ whole_by g keys changes buckets links words → w ≡ true →
    FitsBy g keys changes buckets links words
fits_by g keys changes buckets links words w e h =
    let a = and_true _ _ (sym e ∙ h) in
    let b = and_true _ _ a.0 in
    record {
      rows = fits g keys changes words true (sym b.0) refl;
      covers = record { buckets_long = leb-true _ _ b.1; links_long = leb-true _ _ a.1 };
    }

-- ---- the ways out of an offer

pub admitted_told :
    (g : Gate) (c : Counters) (keys changes : List ℕ) (x : Index) (words section : List ℕ) (a : Arrival) (seen : Seen) (ks ms : List ℕ) (y : Index) (ws : List ℕ) (o : Offered) →
    seen ≡ seen_by g.ring keys changes x a.key (stamp_of a.version a.change) →
    ks ≡ keys_by g.ring keys x a.key →
    ms ≡ changes_by g.ring keys changes x a.key (stamp_of a.version a.change) →
    y ≡ index_by g.ring keys x a.key →
    ws ≡ watch_after (seen.changed && by_sections g.follow) words section →
    o ≡ answered_by g c seen →
    left_by o ks ms y ws ≡ admitted_by (indexed_of g c keys changes x words) section a
unfolding admitted_by
admitted_told g c keys changes x words section a seen ks ms y ws o f k m d w j = rw (← f, ← k, ← m, ← d, ← w, ← j)

module _ (s : Indexed) (input pid : ℕ) (section : List ℕ) (w : Bool) (e : w ≡ is_whole_by s) (v : Verdict) (q : v ≡ verdict_of w s.store.counters s.store.gate.change_rule input pid section) where
  carries : carried_by s section v ≡ offered_by s input pid section
  unfolding offered_by
  carries = rw (← e, ← q)

  pub offered_refused :
      (r : Refusal) (o : Offered) → v ≡ verdict.Refused r → o ≡ refused r s.store.gate s.store.counters →
      left_by o s.store.keys s.store.changes s.index s.store.words ≡ offered_by s input pid section
  unfolding carried_by
  offered_refused r o h j = rw (j, ← carries, h)

  pub offered_failed :
      (f : Failure) (o : Offered) → v ≡ verdict.Failed f → o ≡ failed_by f s.store.gate s.store.counters →
      left_by o s.store.keys s.store.changes s.index s.store.words ≡ offered_by s input pid section
  unfolding carried_by
  offered_failed f o h j = rw (j, ← carries, h)

  pub offered_arrived : (a : Arrival) (l : Offering) → v ≡ verdict.Arrived a → l ≡ admitted_by s section a → l ≡ offered_by s input pid section
  unfolding carried_by
  offered_arrived a l h j = rw (← carries, h) j

-- ---- opening

module _ (s : Settings) (extra buckets words : List ℕ) (keys changes links : ℕ) (b : Bool) (e : b ≡ all_pids extra) where
  pub opened_pid : (o : Opened) → not b ≡ true → o ≡ begun (Err BadPid) s → begun_by o buckets words ≡ opened_by s extra keys changes links buckets words
  unfolding opened_by
  opened_pid o h j = rw (← e, not-true b h, j)

  pub pids_good : not b ≡ false → all_pids extra ≡ true
  pids_good h = sym e ∙ not-false b h

  module _ (h : not b ≡ false) (r : Bool) (d : r ≡ can_open_by s keys changes (length buckets) links (length words)) where
    pub opened_little : (o : Opened) → not r ≡ true → o ≡ begun (Err TooLittle) s → begun_by o buckets words ≡ opened_by s extra keys changes links buckets words
    unfolding opened_by
    opened_little o k j = rw (← e, not-false b h, ← d, not-true r k, j)

    pub opened_yes :
        (room : ℕ) (bs ws : List ℕ) (o : Opened) → not r ≡ false → room ≡ room_of s.capacity → bs ≡ cleared_by room buckets →
        ws ≡ filled words s.well_known extra → o ≡ begun (Ok tt) s → begun_by o bs ws ≡ opened_by s extra keys changes links buckets words
    unfolding opened_by
    opened_yes room bs ws o k a z f j = rw (← e, not-false b h, ← d, not-false r k, ← f, ← a, ← z, j)

    module _ (k : not r ≡ false) where
      all_room : (can_open s keys changes (length words) && leb (room_of s.capacity) (length buckets)) ≡ true
      all_room = (and_true _ (leb (room_of s.capacity) links) (sym d ∙ not-false r k)).0

      pub buckets_room : (room : ℕ) → room ≡ room_of s.capacity → room ≤ length buckets
      buckets_room room a = rw a (leb-true _ _ (and_true (can_open s keys changes (length words)) _ all_room).1)

      pub words_room : 384 ≤ length words
      words_room =
          let g = (and_true (can_open s keys changes (length words)) _ all_room).0 in
          let a = and_true (leb (room_of s.capacity) keys && leb (room_of s.capacity) changes && leb 384 (length words)) (rule_known s.change_rule) g in
          leb-true 384 (length words) (and_true (leb (room_of s.capacity) keys && leb (room_of s.capacity) changes) (leb 384 (length words)) a.0).1
