-- A gate and a record that can judge n + 1 more sections can judge n more after one, whatever it is.
-- Assumes nothing.
use mathlib.Core.Path.{◌≡◌, refl, sym, ap, subst, ◌∙◌}
use mathlib.Core.Bool.{Bool, true, false, cond, ◌&&◌, true≢false}
use mathlib.Core.List.{List}
use Prim.Native.Nat.{ℕ, suc, ◌+◌, ◌^◌, ◌≤◌, ◌<◌}
use native.Mathlib.Omega.{arith}
use lib.Dec.{leb, eqb}
use lib.ListN.{length, get_or}
use Rattle.gate_state.specs.State.{Said, by_tables}
use Rattle.gate.specs.Store.{Store, Offering, is_whole, whole_of, offered, Fits}
use Rattle.gate.proofs.Laws.{fits}
use Rattle.pats.specs.Store.{Record, record_of, pat_most, pats_whole, entered_in, PatsReady}
use Rattle.pats.proofs.Laws.{ready, entered_lengths, entered_whole}
use Rattle.pats.proofs.Counts.{entered_few, not_full}
use Rattle.gate_pats.specs.Store.{Kept, kept_of, sections_in, sound_by, record_after, taken_with, RecordReady}
use Rattle.gate_pats.proofs.Laws.{words_kept}
use Rattle.demux_state.specs.State.{Spare}
use Rattle.demux_steady.specs.Steady.{acts, Steady}
use Rattle.demux_steady.proofs.Sections.{Stays, Rises, offered_stays}

-- ---- who can judge m more can judge fewer

module _ (m n : ℕ) (h : n ≤ m) where
  few : (x : ℕ) → x + m < 2 ^ 64 → x + n < 2 ^ 64
  few x k = omega arith

  pub fewer : (s : Kept) → Steady m s → Steady n s
  fewer s o =
      let c = s.counters in
      let p = o.spare in
      record {
        whole = o.whole;
        spare = record {
          completed = few c.completed p.completed;
          emitted = few c.emitted p.emitted;
          suppressed = few c.suppressed p.suppressed;
          failures = few c.crc_failures p.failures;
          short = few c.short_sections p.short;
          mismatches = few c.crc_mismatches p.mismatches;
          evictions = few c.evictions p.evictions;
        };
        pats = o.pats;
        evictions = λ t. few (pat_most s.watch.words) (o.evictions t);
      }

-- ---- what is ready for one

pub words_whole : (s : Kept) → is_whole (sections_in s) ≡ true → 384 ≤ length s.watch.words
words_whole s w = (fits s.gate (length s.keys) (length s.changes) (length s.watch.words) (is_whole (sections_in s)) refl w).watch

module _ (n : ℕ) (s : Kept) (o : Steady (suc n) s) where
  pub pats_ready : by_tables s.gate.follow ≡ true → PatsReady s.watch
  pats_ready t = ready s.watch (o.pats t) (not_full s.watch.words (omega (arith, o.evictions t)))

  pub record_ready : RecordReady s.gate.follow s.watch
  record_ready = record { pats = pats_ready }

  pub words_there : 384 ≤ length s.watch.words
  words_there = words_whole s o.whole

-- ---- the record after one

-- what stays of a record where complete PATs are followed
record Keeps (n : ℕ) (r t : Record) : Type 0 where
  pub long : length t.words ≡ length r.words
  pub whole : pats_whole t ≡ true
  pub evictions : pat_most t.words + n < 2 ^ 64
  pub more : pat_most r.words ≤ pat_most t.words

module _ (n : ℕ) (r : Record) (w : pats_whole r ≡ true) (e : pat_most r.words + suc n < 2 ^ 64) (input : ℕ) (section : List ℕ) (b : get_or section 7 0 < 256) where
  is_ready : PatsReady r
  is_ready = ready r w (not_full r.words (omega (arith, e)))

  after_keeps : (t : Bool) → Keeps n r (cond t (entered_in r input section) r)
  after_keeps true = record {
    long = (entered_lengths r is_ready input section b).0;
    whole = entered_whole r is_ready input section b;
    evictions = omega (arith, (entered_few r is_ready input section b).most);
    more = (entered_few r is_ready input section b).least;
  }
  after_keeps false = record { long = refl; whole = w; evictions = omega arith; more = omega arith }

-- an offer leaves the gate of sections so, and the PAT store comes behind it
module _ (n : ℕ) (s : Kept) (o : Steady (suc n) s) (input pid : ℕ) (section : List ℕ) (b : get_or section 7 0 < 256) (answer : Said) (t : Store) where
  abbrev before : Record
  before = record_of t.words s.watch.slots s.watch.cells

  abbrev then : Record
  then = record_after s.gate.follow answer input pid section before

  module _ (stays : Stays n (sections_in s) t) (same_words : by_tables s.gate.follow ≡ true → t.words ≡ s.watch.words) where
    -- by complete PATs: the gate of sections writes no word
    by_tables_lem : by_tables s.gate.follow ≡ true → Keeps n s.watch then
    unfolding record_after
    by_tables_lem h =
        subst (λ (w : List ℕ). Keeps n s.watch (cond (by_tables s.gate.follow && sound_by answer && eqb pid 0) (entered_in (record_of w s.watch.slots s.watch.cells) input section) (record_of w s.watch.slots s.watch.cells)))
        (sym (same_words h)) (after_keeps n s.watch (o.pats h) (o.evictions h) input section b (by_tables s.gate.follow && sound_by answer && eqb pid 0))

    -- else it is the gate's
    not_tables : by_tables s.gate.follow ≡ false → then ≡ before
    unfolding record_after
    not_tables f = rw f refl

    as_long : (h : Bool) → by_tables s.gate.follow ≡ h → length then.words ≡ length t.words
    as_long true h = (by_tables_lem h).long ∙ ap length (sym (same_words h))
    as_long false f = ap (λ (r : Record). length r.words) (not_tables f)

    pub steady_after : Steady n (kept_of t.gate t.counters t.keys t.changes then)
    steady_after =
        let l : length then.words ≡ length t.words = as_long (by_tables s.gate.follow) refl in
        let same : by_tables t.gate.follow ≡ by_tables s.gate.follow = ap by_tables stays.follow in
        record {
          whole = ap (whole_of t.gate (length t.keys) (length t.changes)) l ∙ stays.whole;
          spare = stays.spare;
          pats = λ h. (by_tables_lem (sym same ∙ h)).whole;
          evictions = λ h. (by_tables_lem (sym same ∙ h)).evictions;
        }

    pub evictions_after : by_tables s.gate.follow ≡ true → pat_most s.watch.words ≤ pat_most then.words
    evictions_after h = (by_tables_lem h).more

module _ (n : ℕ) (s : Kept) (o : Steady (suc n) s) (input pid : ℕ) (section : List ℕ) (b : get_or section 7 0 < 256) where
  abbrev x : Offering
  x = offered (sections_in s) input pid section

  stays : Stays n (sections_in s) x.store
  stays = offered_stays n (sections_in s) o.whole o.spare section input pid

  pub steady_next : Steady n (acts s input pid section)
  unfolding taken_with
  steady_next = steady_after n s o input pid section b x.answer x.store stays (λ h. words_kept (sections_in s) section h input pid)

  -- no counter falls, and the manner of following stays
  pub counters_rise : Rises s.counters (acts s input pid section).counters
  unfolding taken_with
  counters_rise = stays.rises

  pub evictions_rise : by_tables s.gate.follow ≡ true → pat_most s.watch.words ≤ pat_most (acts s input pid section).watch.words
  unfolding taken_with
  evictions_rise t = evictions_after n s o input pid section b x.answer x.store stays (λ h. words_kept (sections_in s) section h input pid) t

  pub same_follow : (acts s input pid section).gate.follow ≡ s.gate.follow
  unfolding taken_with
  same_follow = stays.follow
