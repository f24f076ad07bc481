-- What an offer leaves of the gate of sections: whole as it was, its manner and its lengths as before, and each counter at most one higher.
-- Assumes nothing.
use mathlib.Core.Path.{◌≡◌, refl, sym, ap, ◌∙◌}
use mathlib.Core.Bool.{Bool, true, false, cond, not, ◌&&◌, ◌||◌}
use mathlib.Core.List.{List}
use Prim.Native.Nat.{ℕ, suc, ◌+◌, ◌%◌, ◌^◌, ◌≤◌, ◌<◌, max}
use native.Mathlib.Nat.{mod-lt}
use native.Mathlib.Omega.{arith}
use lib.Dec.{leb, ltb, eqb}
use lib.ListN.{length, set, replicate, length-set}
use borrow.Author.Tests.{le-leb, ltb-true, ltb-false}
use Rattle.counters.specs.Counters.{plus_of, counted_of, failed_of}
use Rattle.counters.specs.declared.Counters.{Counters}
use Rattle.ring.specs.Store.{room_of, Whole, row_for, is_known, has_free, free_row, ring_with, renewed, arrived, stamp_of, seen_of, keys_after, changes_after}
use Rattle.ring.specs.Store.{whole_of as ring_whole}
use Rattle.ring.specs.declared.Ring.{Ring}
use Rattle.ring.specs.declared.Seen.{Seen}
use Rattle.ring.proofs.Laws.{whole_test}
use Rattle.section.specs.Judged.{rule_known}
use Rattle.pat.specs.Pat.{readable, with_programs}
use Rattle.pat.proofs.Laws.{length_programs}
use Rattle.watched.specs.Store.{following}
use Rattle.watched.proofs.Meaning.{length_following}
use Rattle.offers.specs.Offers.{is_short, verdict_of}
use Rattle.offers.specs.declared.Failure.{Failure}
use Rattle.offers.specs.declared.Verdict.{Verdict}
use Rattle.offers.specs.declared.Verdict.TheVariants as verdict
use Rattle.gate_state.specs.State.{seen_by, failed_by, emits_of, by_sections}
use Rattle.gate_state.specs.declared.Gate.{Gate}
use Rattle.gate_state.specs.declared.Follow.{Follow}
use Rattle.gate.specs.Store.{Store, store_of, whole_of, is_whole, Fits, left_by, programs_of, followed_pat, watch_after, admitted_to, carried, offered}
use Rattle.gate.proofs.Laws.{fits}
use Rattle.demux_state.specs.State.{Spare}

-- ---- counters

plus_spare : (x n : ℕ) (b : Bool) → x + suc n < 2 ^ 64 → plus_of x b + n < 2 ^ 64
plus_spare x n true h = omega arith
plus_spare x n false h = omega arith

same_spare : (x n : ℕ) → x + suc n < 2 ^ 64 → x + n < 2 ^ 64
same_spare x n h = omega arith

module _ (n : ℕ) (c : Counters) (s : Spare (suc n) c) where
  pub less_spare : Spare n c
  less_spare = record {
    completed = same_spare c.completed n s.completed;
    emitted = same_spare c.emitted n s.emitted;
    suppressed = same_spare c.suppressed n s.suppressed;
    failures = same_spare c.crc_failures n s.failures;
    short = same_spare c.short_sections n s.short;
    mismatches = same_spare c.crc_mismatches n s.mismatches;
    evictions = same_spare c.evictions n s.evictions;
  }

  counted_spare : (emits evicted : Bool) → Spare n (counted_of c emits evicted)
  counted_spare emits evicted = record {
    completed = plus_spare c.completed n true s.completed;
    emitted = plus_spare c.emitted n emits s.emitted;
    suppressed = plus_spare c.suppressed n (not emits) s.suppressed;
    failures = same_spare c.crc_failures n s.failures;
    short = same_spare c.short_sections n s.short;
    mismatches = same_spare c.crc_mismatches n s.mismatches;
    evictions = plus_spare c.evictions n evicted s.evictions;
  }

  failed_spare : (short : Bool) → Spare n (failed_of c short)
  failed_spare short = record {
    completed = plus_spare c.completed n true s.completed;
    emitted = same_spare c.emitted n s.emitted;
    suppressed = same_spare c.suppressed n s.suppressed;
    failures = plus_spare c.crc_failures n true s.failures;
    short = plus_spare c.short_sections n short s.short;
    mismatches = plus_spare c.crc_mismatches n (not short) s.mismatches;
    evictions = same_spare c.evictions n s.evictions;
  }

-- no counter falls
pub record Rises (c d : Counters) : Type 0 where
  pub completed : c.completed ≤ d.completed
  pub emitted : c.emitted ≤ d.emitted
  pub suppressed : c.suppressed ≤ d.suppressed
  pub failures : c.crc_failures ≤ d.crc_failures
  pub short : c.short_sections ≤ d.short_sections
  pub mismatches : c.crc_mismatches ≤ d.crc_mismatches
  pub evictions : c.evictions ≤ d.evictions

pub rises_on : {c d e : Counters} → Rises c d → Rises d e → Rises c e
rises_on a b = record {
  completed = omega (arith, a.completed, b.completed);
  emitted = omega (arith, a.emitted, b.emitted);
  suppressed = omega (arith, a.suppressed, b.suppressed);
  failures = omega (arith, a.failures, b.failures);
  short = omega (arith, a.short, b.short);
  mismatches = omega (arith, a.mismatches, b.mismatches);
  evictions = omega (arith, a.evictions, b.evictions);
}

plus_rises : (x : ℕ) (b : Bool) → x ≤ plus_of x b
plus_rises x true = omega arith
plus_rises x false = omega arith

module _ (c : Counters) where
  pub same_rises : Rises c c
  same_rises = record {
    completed = omega arith;
    emitted = omega arith;
    suppressed = omega arith;
    failures = omega arith;
    short = omega arith;
    mismatches = omega arith;
    evictions = omega arith;
  }

  counted_rises : (emits evicted : Bool) → Rises c (counted_of c emits evicted)
  counted_rises emits evicted = record {
    completed = plus_rises c.completed true;
    emitted = plus_rises c.emitted emits;
    suppressed = plus_rises c.suppressed (not emits);
    failures = omega arith;
    short = omega arith;
    mismatches = omega arith;
    evictions = plus_rises c.evictions evicted;
  }

  failed_rises : (short : Bool) → Rises c (failed_of c short)
  failed_rises short = record {
    completed = plus_rises c.completed true;
    emitted = omega arith;
    suppressed = omega arith;
    failures = plus_rises c.crc_failures true;
    short = plus_rises c.short_sections short;
    mismatches = plus_rises c.crc_mismatches (not short);
    evictions = omega arith;
  }

-- ---- the ring

module _ (g : Ring) (keys changes : List ℕ) (key number : ℕ) (w : Whole g (length keys) (length changes)) where
  -- a key that is known or not, whatever its row
  pub row_stays : (known : Bool) (row : ℕ)
      → Whole (cond known (renewed g changes row number) (arrived g)).ring (length (cond known keys (set keys (free_row g) key)))
      (length (set changes (cond known row (free_row g)) number))
  unfolding renewed arrived
  row_stays = go
    where
      free : (b : Bool) → has_free g ≡ b
          → Whole (cond b (ring_with g (g.used + 1) g.first) (ring_with g g.used ((g.first + 1) % room_of g.capacity))) (length (set keys (free_row g) key)) (length (set changes (free_row g) number))
      free true e =
          let h : g.used < room_of g.capacity = ltb-true _ _ e in
          let a = w.first in
          let b = w.keys_long in
          let c = w.changes_long in
          rw (length-set keys (free_row g) key, length-set changes (free_row g) number) (record { used = omega arith; first = a; keys_long = b; changes_long = c })
      free false e =
          let a = w.used in
          let b = w.keys_long in
          let c = w.changes_long in
          rw (length-set keys (free_row g) key, length-set changes (free_row g) number) (record { used = a; first = mod-lt (g.first + 1) (omega arith); keys_long = b; changes_long = c })

      go : (known : Bool) (row : ℕ)
          → Whole (cond known (renewed g changes row number) (arrived g)).ring (length (cond known keys (set keys (free_row g) key)))
          (length (set changes (cond known row (free_row g)) number))
      go true row = rw (length-set changes row number) w
      go false row = free (has_free g) refl

  ring_stays : Whole (seen_of g keys changes key number).ring (length (keys_after g keys key)) (length (changes_after g keys changes key number))
  unfolding seen_of keys_after changes_after
  ring_stays = row_stays (is_known g keys key) (row_for g keys key)

-- ---- the words of the watch

pub watch_length : (f : Bool) (words section : List ℕ) → 384 ≤ length words → length (watch_after f words section) ≡ length words
unfolding followed_pat
watch_length f words section h = go f (readable section)
  where
    go : (a b : Bool) → length (cond a (cond b (following words (programs_of section)) words) words) ≡ length words
    go true true = length_following words (programs_of section) h (length_programs section (replicate 128 0))
    go true false = refl
    go false b = refl

-- ---- an offer

pub record Stays (n : ℕ) (s t : Store) : Type 0 where
  pub whole : is_whole t ≡ true
  pub spare : Spare n t.counters
  pub rises : Rises s.counters t.counters
  pub follow : t.gate.follow ≡ s.gate.follow
  pub words : length t.words ≡ length s.words

module _ (n : ℕ) (s : Store) (w : is_whole s ≡ true) (c : Spare (suc n) s.counters) (section : List ℕ) where
  fit : Fits s.gate (length s.keys) (length s.changes) (length s.words)
  fit = fits s.gate (length s.keys) (length s.changes) (length s.words) (is_whole s) refl w

  -- a section whose key was looked up
  pub seen_stays : (seen : Seen) (keys changes : List ℕ) → Whole seen.ring (length keys) (length changes)
      → Stays n s (left_by (seen_by s.gate s.counters seen) keys changes (watch_after (seen.changed && by_sections s.gate.follow) s.words section)).store
  unfolding seen_by
  seen_stays seen keys changes r =
      let f : Bool = seen.changed && by_sections s.gate.follow in
      let l : length (watch_after f s.words section) ≡ length s.words = watch_length f s.words section fit.watch in
      record {
        whole = rw (whole_test seen.ring (length keys) (length changes) r, l, le-leb 384 (length s.words) fit.watch) fit.rule;
        spare = counted_spare n s.counters c (emits_of s.gate seen) seen.evicted;
        rises = counted_rises s.counters (emits_of s.gate seen) seen.evicted;
        follow = refl;
        words = l;
      }

  -- a refusal, 31 and 3
  pub same_stays : Stays n s s
  same_stays = record { whole = w; spare = less_spare n s.counters c; rises = same_rises s.counters; follow = refl; words = refl }

  pub failed_stays : (f : Failure) → Stays n s (left_by (failed_by f s.gate s.counters) s.keys s.changes s.words).store
  failed_stays f = record { whole = w; spare = failed_spare n s.counters c (is_short f); rises = failed_rises s.counters (is_short f); follow = refl; words = refl }

  carried_stays : (v : Verdict) → Stays n s (carried s section v).store
  unfolding carried admitted_to
  carried_stays (verdict.Refused r) = same_stays
  carried_stays (verdict.Failed f) = failed_stays f
  carried_stays (verdict.Arrived a) =
      let g : Ring = s.gate.ring in
      let number : ℕ = stamp_of a.version a.change in
      seen_stays (seen_of g s.keys s.changes a.key number) (keys_after g s.keys a.key) (changes_after g s.keys s.changes a.key number)
      (ring_stays g s.keys s.changes a.key number fit.rows)

  pub offered_stays : (input pid : ℕ) → Stays n s (offered s input pid section).store
  unfolding offered
  offered_stays input pid = carried_stays (verdict_of (is_whole s) s.counters s.gate.change_rule input pid section)
