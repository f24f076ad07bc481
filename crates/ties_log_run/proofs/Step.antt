-- One section through a run over lent memory: what it gives and leaves is what the rules give and leave; 10 and 11 do not occur.
-- Assumes nothing.
use mathlib.Core.Path.{◌≡◌, refl, sym, ap, subst, ◌∙◌}
use mathlib.Core.Logic.{◌≢◌}
use mathlib.Core.Bool.{Bool, true, false, cond, not, ◌||◌}
use mathlib.Core.List.{[], ◌∷◌}
use Prim.Native.Nat.{ℕ, suc, ◌+◌, ◌^◌, ◌≤◌, ◌<◌}
use native.Mathlib.Omega.{arith}
use borrow.Author.Tests.{ne_eqb, le-ltb, eqb-false}
use lib.Dec.{ltb}
use lib.ListN.{length}
use Rattle.laws.proofs.Tests.{true_and}
use Rattle.answers.specs.declared.Refusal.TheVariants as refusal
use Rattle.section.specs.Facts.{Bytes as OfBytes}
use Rattle.section.specs.Ids.{origin_of}
use Rattle.section.specs.Judged.{rule_of, judged_of, collected_of}
use Rattle.section.proofs.Facts.{judged_parts, judged_change}
use Rattle.std.specs.Prelude.{Result, Ok, Err}
use Rattle.section.specs.declared.header.Header.{Header}
use Rattle.answers.specs.declared.Refusal.{Refusal}
use Rattle.section.specs.declared.header.Parts.{Parts}
use Rattle.section.specs.declared.header.Judged.{Judged}
use Rattle.section.specs.declared.header.Judged.TheVariants.{Short, Mismatch, Sound}
use Rattle.offers.specs.Offers.{read_as, read_of}
use Rattle.offers.specs.declared.Verdict.TheVariants as verdict
use Rattle.ring.specs.View.{memory_after}
use Rattle.ring.proofs.Laws.{whole_test}
use Rattle.ring.proofs.Order.{step}
use Rattle.ring.proofs.Order.{Step as RingStep}
use Rattle.rules_shared.specs.Same.{Origin}
use Rattle.rules_shared.specs.Cells.{at_end}
use Rattle.rules_sets.specs.Rules.{Call}
use Rattle.rules_sets.specs.Cells.{Turn, store_whole, ended, good, guarded, call, call_tells, call_acts}
use Rattle.rules_sets.specs.Cells.{Store as Shown}
use Rattle.rows.specs.declared.Origin.{Origin as Words}
use Rattle.ticks.specs.Origins.{plain_shown}
use Rattle.arrivals.specs.Arrivals.{set_key, entry_of as row_of_header, set_read}
use Rattle.store.specs.Store.{Store, WholeStore, counters_full}
use Rattle.store.specs.declared.Sets.{Sets}
use Rattle.store.proofs.Whole.{means_whole}
use Rattle.sets_plan.specs.Plan.{Ready}
use Rattle.sets_settle.specs.Settle.{Told, done, nothing, handed, refused}
use Rattle.sets.specs.Store.{pushed_as}
use Rattle.sets.proofs.Arrived.{entry_taken}
use Rattle.sets.proofs.Stays.{whole_stays}
use Rattle.ties_sets.specs.View.{seen, reads_as, answer_told, Standing}
use Rattle.ties_sets.proofs.Settle.{Tied}
use Rattle.ties_sets.proofs.Calls.{whole_seen, ended_seen, judged_tied}
use Rattle.ties_given.proofs.Given.{goes_out_as_read}
use Rattle.rules_logs.specs.Records.{Bytes, seen_record}
use Rattle.rules_logs.specs.Sections.{Given}
use Rattle.rules_log_run.specs.Run as rules
use Rattle.rules_log_run.specs.Run.{Settings, Entry, pushed, row_of, sound, judged, entry_of}
use Rattle.log_steps.specs.Steps.{from_for, gathered_of, set_records}
use Rattle.ties_log_kept.proofs.Sets.{line_given, line_bare}
use Rattle.log_state.specs.State.{is_with, Lent, sets_in, take_no, whole_by, ruled_by, ruling_by, ruling_of}
use Rattle.log_run.specs.Store.{Taking, seen_in, ruled, taking}
use Rattle.ties_log_run.specs.Run.{takes, leaves, memory_in, kept_in, settings_at, Reached}
use Rattle.ties_log_run.proofs.Counted.{counts_one, rises_one}

-- n more sections can be counted, each with an eviction and a touch
pub record CanTake (n : ℕ) (s : Lent) : Type 0 where
  pub evictions : s.run.sets.evictions + n < 18446744073709551616
  pub clock : s.run.sets.clock + n < 18446744073709551616

goes_counting : (s : Sets) → s.evictions < 18446744073709551615 → s.clock < 18446744073709551615 → counters_full s ≡ false
goes_counting s h l = rw (ne_eqb s.evictions 18446744073709551615 (λ e. omega (arith, e, h)), ne_eqb s.clock 18446744073709551615 (λ e. omega (arith, e, l)))

-- ---- a section into the collector

-- 11 is asked before what the section is read as
ended_as : (s : Shown) (bytes : Bytes) (from : Origin) (c : Result Header Refusal) → ended s (reads_as from bytes c) ≡ (at_end s.sets.evicted || at_end s.clock)
unfolding ended reads_as
ended_as s bytes from (Err refusal.ShortForm) = refl
ended_as s bytes from (Err r) = refl
ended_as s bytes from (Ok h) = refl

module _ (s : Store) (z : Standing s) (f : WholeStore s) (more : s.sets.evictions < 18446744073709551615) (runs : s.sets.clock < 18446744073709551615) (from : Words) (bytes : Bytes) (b : OfBytes bytes) where
  abbrev call' : Call
  call' = reads_as (plain_shown from) bytes (collected_of bytes)

  not_ended : (at_end (seen s).sets.evicted || at_end (seen s).clock) ≡ false
  unfolding seen
  not_ended = ended_seen s z ∙ goes_counting s.sets more runs

  -- a collector that is whole and can count goes on
  goes_on_lem : call (seen s) call' ≡ good (seen s) call'
  unfolding call guarded
  goes_on_lem =
      let w : store_whole (seen s) ≡ true = whole_seen s z ∙ means_whole s f in
      let e : ended (seen s) call' ≡ false = ended_as (seen s) bytes (plain_shown from) (collected_of bytes) ∙ not_ended in
      ap (λ (x : Bool). guarded x (ended (seen s) call') (seen s) call') w ∙ ap (λ (x : Bool). guarded true x (seen s) call') e

  gathered : Tied (gathered_of s from bytes) (good (seen s) call')
  unfolding gathered_of
  gathered = judged_tied s z f more runs bytes b from (collected_of bytes) refl

  pub gathered_tells : answer_told (gathered_of s from bytes).told ≡ call_tells (seen s) call'
  unfolding call_tells
  gathered_tells = gathered.told ∙ sym (ap (λ (t : Turn). t.answer) goes_on_lem)

  pub gathered_acts : seen (gathered_of s from bytes).store ≡ call_acts (seen s) call'
  unfolding call_acts
  gathered_acts = gathered.shown ∙ sym (ap (λ (t : Turn). t.store) goes_on_lem)

  pub gathered_stands : Standing (gathered_of s from bytes).store
  gathered_stands = gathered.reached

  ready : Ready s
  ready = record { whole = f; counts = λ e. omega (arith, e, more); runs = λ e. omega (arith, e, runs) }

  -- whole it stays
  pub gathered_whole : WholeStore (gathered_of s from bytes).store
  unfolding gathered_of
  gathered_whole = go (collected_of bytes) refl
    where
      go : (c : Result Header Refusal) → collected_of bytes ≡ c → WholeStore (pushed_as s bytes (set_read from c)).store
      go (Err refusal.ShortForm) q = f
      go (Err r) q = f
      go (Ok h) q = whole_stays s (row_of_header (set_key from h) h) bytes ready (entry_taken bytes h (set_key from h) q (b 7))

-- ---- the record of a set

module _ (s : Store) (f : WholeStore s) (bytes : Bytes) where
  told_same : (pids : Bool) (input pid : ℕ) (t : Told) → (gathered_of s (from_for pids input pid) bytes).told ≡ t → set_records pids input pid bytes t ≡ rules.set_records pids (answer_told t)
  unfolding rules.set_records answer_told gathered_of
  told_same pids input pid done e = refl
  told_same pids input pid nothing e = refl
  told_same true input pid (handed w) e = line_given bytes w (from_for true input pid) (goes_out_as_read bytes w s f (from_for true input pid) e)
  told_same false input pid (handed w) e = line_bare bytes w (from_for false input pid) (goes_out_as_read bytes w s f (from_for false input pid) e)
  told_same pids input pid (refused r) e = refl

-- ---- a section that arrived

-- what a section came to over lent memory, beside what it comes to by the rules
pub record Follows (l z c n : ℕ) (s : Lent) (t : Taking) (e : Entry) : Type 0 where
  pub records : t.records ≡ e.records
  pub kept : kept_in t.left ≡ e.kept
  pub settings : settings_at l z c t.left.run ≡ settings_at l z c s.run
  pub reached : Reached t.left
  pub counted : CanTake n t.left
  pub not_10 : take_no t.answer ≢ 10
  pub not_11 : take_no t.answer ≢ 11

module _ (l z c n : ℕ) (s : Lent) (r : Reached s) (g : Given) (b : OfBytes g.section) (room : CanTake (suc n) s) where
  more : s.run.sets.evictions < 18446744073709551615
  more = let h = room.evictions in omega arith

  runs : s.run.sets.clock < 18446744073709551615
  runs = let h = room.clock in omega arith

  -- a section that counts nothing
  pub counts_none : CanTake n s
  counts_none = let h = room.evictions in let k = room.clock in record { evictions = omega arith; clock = omega arith }

  abbrev o : Settings
  o = settings_at l z c s.run

  abbrev from' : Words
  from' = from_for (is_with s.run.pids) g.input g.pid

  -- a sound section, with its parts
  module _ (p : Parts) (small : p.change < 2 ^ 32) (hp : ltb g.pid 8192 ≡ true) (hi : ltb g.input 16 ≡ true) where
    st : RingStep (memory_in s) (row_of g p)
    st = step (memory_in s) (row_of g p) r.rows small

    abbrev t : Taking
    t = seen_in s g.input g.pid g.section (record { key = (row_of g p).key; parts = p })

    shown_as : seen (gathered_of (sets_in s) from' g.section).store ≡ call_acts (seen (sets_in s)) (pushed o g)
    unfolding pushed
    shown_as = gathered_acts (sets_in s) r.sets r.whole more runs from' g.section b

    told_as : set_records (is_with s.run.pids) g.input g.pid g.section (gathered_of (sets_in s) from' g.section).told ≡ rules.set_records o.pids (call_tells (seen (sets_in s)) (pushed o g))
    unfolding pushed
    told_as =
        told_same (sets_in s) r.whole g.section (is_with s.run.pids) g.input g.pid (gathered_of (sets_in s) from' g.section).told refl
        ∙ ap (rules.set_records o.pids) (gathered_tells (sets_in s) r.sets r.whole more runs from' g.section b)

    evicted_one : (gathered_of (sets_in s) from' g.section).store.sets.evictions ≤ suc s.run.sets.evictions
    unfolding seen
    evicted_one = subst (λ (m : ℕ). m ≤ suc s.run.sets.evictions) (sym (ap (λ (q : Shown). q.sets.evicted) shown_as)) (counts_one (seen (sets_in s)) (pushed o g))

    risen_one : (gathered_of (sets_in s) from' g.section).store.sets.clock ≤ suc s.run.sets.clock
    unfolding seen
    risen_one = subst (λ (m : ℕ). m ≤ suc s.run.sets.clock) (sym (ap (λ (q : Shown). q.clock) shown_as)) (rises_one (seen (sets_in s)) (pushed o g))

    sound_follows : Follows l z c n s t (sound o (kept_in s) g p)
    unfolding seen_in sound memory_after
    sound_follows =
        let k = st.tells in
        let q = told_as in
        let rows = st.order in
        let sets = shown_as in
        let cap = st.capacity in
        record {
          records = λ i. seen_record (cond (k i || s.run.repeats) 1 2) g.input g.pid p ∷ q i;
          kept = λ i. record { rows = rows i; sets = sets i };
          settings = λ i. record { capacity = cap i; repeats = s.run.repeats; rule = s.run.rule; limit = l; size = z; count = c; pids = is_with s.run.pids };
          reached = record {
            rows = st.reached;
            rule = r.rule;
            taken = r.taken;
            sets = gathered_stands (sets_in s) r.sets r.whole more runs from' g.section b;
            whole = gathered_whole (sets_in s) r.sets r.whole more runs from' g.section b;
          };
          counted = (let e = evicted_one in let k = risen_one in let h = room.evictions in let m = room.clock in record { evictions = omega arith; clock = omega arith });
          not_10 = eqb-false 7 10 refl;
          not_11 = eqb-false 7 11 refl;
        }

  -- by what the gate makes of it
  judged_follows : ltb g.pid 8192 ≡ true → ltb g.input 16 ≡ true → (j : Judged) → judged_of (rule_of s.run.rule) g.section ≡ j
      → Follows l z c n s (ruled s g.input g.pid g.section (ruled_by s.run.rule g.section (read_as (origin_of g.input g.pid) (length g.section) j))) (judged o (kept_in s) g j)
  unfolding ruled ruled_by judged
  judged_follows hp hi Short e = record { records = refl; kept = refl; settings = refl; reached = r; counted = counts_none; not_10 = eqb-false 7 10 refl; not_11 = eqb-false 7 11 refl }
  judged_follows hp hi (Mismatch stored worked) e = record { records = refl; kept = refl; settings = refl; reached = r; counted = counts_none; not_10 = eqb-false 7 10 refl; not_11 = eqb-false 7 11 refl }
  judged_follows hp hi (Sound p) e =
      subst (λ (x : Parts). Follows l z c n s (seen_in s g.input g.pid g.section (record { key = (row_of g p).key; parts = x })) (sound o (kept_in s) g p))
      (judged_parts (rule_of s.run.rule) g.section p e) (sound_follows p (judged_change (rule_of s.run.rule) g.section b p e) hp hi)

  read_follows : (p i : Bool) → ltb g.pid 8192 ≡ p → ltb g.input 16 ≡ i → (j : Judged) → judged_of (rule_of s.run.rule) g.section ≡ j
      → Follows l z c n s
      (ruled s g.input g.pid g.section (ruled_by s.run.rule g.section (cond p (cond i (read_as (origin_of g.input g.pid) (length g.section) j) (verdict.Refused refusal.BadInput)) (verdict.Refused refusal.BadPid))))
      (cond p (cond i (judged o (kept_in s) g j) (record { records = []; kept = kept_in s })) (record { records = []; kept = kept_in s }))
  unfolding ruled ruled_by
  read_follows true true hp hi j e = judged_follows hp hi j e
  read_follows true false hp hi j e = record { records = refl; kept = refl; settings = refl; reached = r; counted = counts_none; not_10 = eqb-false 37 10 refl; not_11 = eqb-false 37 11 refl }
  read_follows false i hp hi j e = record { records = refl; kept = refl; settings = refl; reached = r; counted = counts_none; not_10 = eqb-false 12 10 refl; not_11 = eqb-false 12 11 refl }

  -- no run that comes from opening is broken
  is_whole : whole_by s.run (length s.keys) (length s.changes) (sets_in s) ≡ true
  is_whole =
      true_and (true_and (true_and (whole_test s.run.ring (length s.keys) (length s.changes) r.rows.whole) r.rule) (ap not r.taken)) (means_whole (sets_in s) r.whole)

  not_full : counters_full s.run.sets ≡ false
  not_full = goes_counting s.run.sets more runs

  -- a section of at most 4,098 bytes
  pub follows : length g.section ≤ 4098 → Follows l z c n s (takes s g) (entry_of o (kept_in s) g)
  unfolding taking ruling_of ruling_by read_of entry_of
  follows h =
      rw (le-ltb 4098 (length g.section) h, is_whole, not_full)
      (read_follows (ltb g.pid 8192) (ltb g.input 16) refl refl (judged_of (rule_of s.run.rule) g.section) refl)
