-- One call: what the store of the EIT collector tells and shows then is what the rules with cells tell and leave, for every store that a history reaches.
-- Assumes nothing.
use mathlib.Core.Path.{◌≡◌, refl, sym, ap, subst, ◌∙◌}
use mathlib.Core.Logic.{◌≢◌}
use mathlib.Core.Bool.{Bool, true, false, cond, ◌&&◌}
use mathlib.Core.Option.{Option, none, some}
use Prim.Native.Nat.{ℕ, zero, suc, ◌≤◌, ◌<◌}
use native.Mathlib.Nat.{not-suc-le-zero}
use native.Mathlib.Omega.{arith}
use borrow.Author.Tests.{eq-eqb, ne_eqb, eqb-true, ltb-true, ltb-false, leb-true, le-leb, lt-leb}
use lib.Dec.{eqb, ltb, leb}
use lib.ListN.{length}
use Rattle.laws.proofs.Tests.{and_true, same_test}
use Rattle.rules_shared.specs.Same.{Bytes, Origin}
use Rattle.rules_shared.specs.Slots.{every_held}
use Rattle.rules_shared.specs.Touch.{emptied, every_row}
use Rattle.rules_shared.specs.Row.{fits}
use Rattle.rules_shared.specs.Cells.{Held, held_whole, room_whole, at_end}
use Rattle.rules_eit.specs.Keys.{Kind, kind_of, SetKey, same_set, same_schedule}
use Rattle.rules_eit.specs.Segments.{SetOf}
use Rattle.rules_eit.specs.Schedules.{ScheduleOf}
use Rattle.rules_eit.specs.Rules.{Section, schedule_of, key_of, clear, drop, refuse, offer, cleared}
use Rattle.rules_eit.specs.Cells.{on_answer, store_whole, any_at_end, ended, shows, push_in, admit_in, offer_in, good, guarded, call}
use Rattle.rules_eit.proofs.Keys.{same_set_true, same_schedule_true}
use Rattle.section.proofs.Refused.{collect_refused_by}
use Rattle.section.specs.Ids.{origin_of}
use Rattle.section.specs.Judged.{collected_of}
use Rattle.eit_section.specs.Eit.{eit_of, fields_of}
use Rattle.section.specs.Facts.{Bytes as AllBytes}
use Rattle.section.specs.declared.header.Header.{Header}
use Rattle.std.specs.Prelude.{Option as StdOption, Some, None, Result, Ok, Err}
use Rattle.answers.specs.declared.Refusal.{Refusal}
use Rattle.eit_section.specs.declared.Eit.{Eit}
use Rattle.cells.specs.Cells.{all_whole}
use Rattle.rows.specs.declared.Origin.{Origin as Words}
use Rattle.rows.specs.Rows.{row_slots, rows_whole}
use Rattle.ticks.specs.Origins.{origin_shown}
use Rattle.ticks.specs.Slots.{cells_seen}
use Rattle.ticks.proofs.Touch.{length_seen, seen_none, stands_none}
use Rattle.ticks.proofs.Origins.{shown_pid}
use Rattle.ticks.proofs.Slots.{held_whole_lem, rows_whole_lem}
use Rattle.ticks.proofs.Cells.{cells_length}
use Rattle.store.specs.Store as sets
use Rattle.arrivals.specs.Arrivals.{made_words, eit_fields, eit_read, eit_judged, eit_arrival}
use Rattle.store.proofs.Whole.{long}
use Rattle.placing.specs.Places.{place_of as place_in}
use Rattle.schedules.specs.Schedules.{schedules_whole}
use Rattle.eit_drop.specs.declared.Filter.{Filter}
use Rattle.arrivals.specs.declared.Arrival.{Arrival}
use Rattle.eit_plan.specs.declared.Plan.TheVariants as plan
use Rattle.eit_state.specs.declared.PushAnswer.TheVariants as answer
use Rattle.arrivals.specs.Arrivals.{arrival_of}
use Rattle.answers.specs.declared.Refusal.TheVariants as refusal
use Rattle.eit_state.specs.State.{Store, store, set_store, schedules_fit, whole_of, Whole, counters_full}
use Rattle.eit_plan.specs.Plan.{plan_placed, plan_of}
use Rattle.eit_carry.specs.Carried.{carried}
use Rattle.eit_drop.specs.Drop.{drop_wanted}
use Rattle.eit.specs.Store as eit
use Rattle.eit.specs.Store.{after, told_step, cleared_of, carried_drop, dropped_of, pushed_as, pushed_of}
use Rattle.eit_state.specs.State.{empty_eit}
use Rattle.eit_admit.specs.Admitting.{drop_of, admitted}
use Rattle.eit_pids.specs.Rows.{any_without}
use Rattle.eit_carry.specs.Carried.{pushed_whole}
use Rattle.eit_state.proofs.Whole.{whole_store, units_whole_lem, can_count}
use Rattle.eit_state.proofs.Whole.{long as schedules_long}
use Rattle.ties_eit.specs.View.{key_shown, schedule_shown, key_words, schedule_words, row_seen, schedule_seen, seen, section_of, reads_eit, reads_as, read_on, read_section, reads, answer_told, Given, clears, drops, section, FilterFits, filter_shown, Fitting, called, Reached}
use Rattle.ties_eit.proofs.Keys.{set_self, schedule_self}
use Rattle.ties_eit.proofs.Places.{copy_whole, schedules_whole_lem}
use Rattle.ties_eit.proofs.Entered.{Tied, fits_schedules}
use Rattle.ties_eit.proofs.Settle.{Arrives}
use Rattle.ties_eit.proofs.Keep.{section_for}
use Rattle.ties_eit.proofs.Placed.{placed_tied}
use Rattle.ties_eit.proofs.Dropping.{drop_tied}
use Rattle.ties_eit.proofs.Pids.{each_has_pid}
use Rattle.ties_eit.proofs.Arrivals.{good_length, Read-as, not_eit, broken, good as read_good, read_as_lem, not_kind, arrives, section_same}

-- ---- 10 and 11

limit_is : (s : Store) → (seen s).settings.limit ≡ s.eit.sets.limit
unfolding seen
limit_is s = refl

part_is : (s : Store) → sets.settings_fit s.eit.sets (length s.heads) (length s.slots) (length s.cells) ≡ true
    → sets.whole_of (set_store s) ≡ (leb s.eit.sets.used s.eit.sets.limit && rows_whole s.heads s.slots s.eit.sets.count s.eit.sets.size s.eit.sets.used)
unfolding sets.whole_of
part_is s e = rw e

module _ (s : Store) (z : Reached s) where
  fits_both : (sets.settings_fit s.eit.sets (length s.heads) (length s.slots) (length s.cells) ≡ true) × (schedules_fit s.eit (length s.schedule_heads) (length s.units) ≡ true)
  fits_both = and_true (sets.settings_fit s.eit.sets (length s.heads) (length s.slots) (length s.cells)) (schedules_fit s.eit (length s.schedule_heads) (length s.units)) z.fits

  sets_length : length (seen s).eit.sets.rows ≡ s.eit.sets.used
  unfolding seen
  sets_length = length_seen key_shown key_words s.heads s.eit.sets.used s.eit.sets.clock z.sets (row_seen s.heads s.slots)

  schedules_length : length (seen s).eit.schedules.rows ≡ s.eit.schedules
  unfolding seen
  schedules_length = length_seen schedule_shown schedule_words s.schedule_heads s.eit.schedules s.eit.sets.clock z.schedules (schedule_seen s.schedule_heads s.units)

  cells_count : length (seen s).cells ≡ s.eit.sets.count
  unfolding seen
  cells_count = cells_length s.cells s.eit.sets.size s.eit.sets.count

  pub room_there : room_whole (seen s).settings (seen s).cells ≡ true
  unfolding room_whole seen
  room_there =
      let l = long s.eit.sets (length s.heads) (length s.slots) (length s.cells) fits_both.0 in
      let n : length (cells_seen s.cells s.eit.sets.size s.eit.sets.count) ≡ s.eit.sets.count = cells_length s.cells s.eit.sets.size s.eit.sets.count in
      rw (n, le-leb 12 s.eit.sets.size l.size_low, le-leb s.eit.sets.size 4096 l.size_high, le-leb s.eit.sets.count 65535 l.few)

  abbrev set_test : SetOf Held → Bool
  set_test r = every_held (held_whole (seen s).settings (seen s).cells) r.slots

  sets_whole : every_row set_test (seen s).eit.sets.rows ≡ rows_whole s.heads s.slots s.eit.sets.count s.eit.sets.size s.eit.sets.used
  unfolding seen row_seen
  sets_whole =
      rows_whole_lem key_shown s.heads s.slots s.eit.sets.count s.eit.sets.size s.eit.sets.used s.eit.sets.clock z.sets.ticks set_test (row_seen s.heads s.slots) (λ j.
      held_whole_lem (seen s).settings (seen s).cells (row_slots s.heads s.slots j)
      ∙ ap (λ (m : ℕ). all_whole m s.eit.sets.size (row_slots s.heads s.slots j)) (cells_length s.cells s.eit.sets.size s.eit.sets.count))

  schedules_whole_here : every_row (λ (g : ScheduleOf Held). every_held (copy_whole (seen s).settings (seen s).cells) g.copies) (seen s).eit.schedules.rows
      ≡ schedules_whole s.schedule_heads s.units s.eit.sets.count s.eit.sets.size s.eit.schedules
  unfolding seen
  schedules_whole_here =
      schedules_whole_lem (seen s).settings (seen s).cells s.schedule_heads s.units s.eit.schedules s.eit.sets.clock z.schedules.ticks
      ∙ ap (λ (m : ℕ). schedules_whole s.schedule_heads s.units m s.eit.sets.size s.eit.schedules) (cells_length s.cells s.eit.sets.size s.eit.sets.count)

  pub whole_seen : store_whole (seen s) ≡ whole_of s
  unfolding store_whole whole_of
  whole_seen =
      let few = (schedules_long s.eit (length s.schedule_heads) (length s.units) fits_both.1).schedules in
      rw (fits_both.1, sets_part, room_there, sets_length, schedules_length, sets_whole, schedules_whole_here, settings_limit, le-leb s.eit.schedules s.eit.sets.limit few)
      (turn (leb s.eit.sets.used s.eit.sets.limit) (rows_whole s.heads s.slots s.eit.sets.count s.eit.sets.size s.eit.sets.used) (schedules_whole s.schedule_heads s.units s.eit.sets.count s.eit.sets.size s.eit.schedules))
    where
      settings_limit : (seen s).settings.limit ≡ s.eit.sets.limit
      settings_limit = limit_is s

      sets_part : sets.whole_of (set_store s) ≡ (leb s.eit.sets.used s.eit.sets.limit && rows_whole s.heads s.slots s.eit.sets.count s.eit.sets.size s.eit.sets.used)
      sets_part = part_is s fits_both.0

      turn : (a b c : Bool) → (a && (b && c)) ≡ ((a && b) && c)
      turn true b c = refl
      turn false b c = refl

  ended_one : (n : ℕ) → n ≤ 18446744073709551615 → at_end n ≡ eqb n 18446744073709551615
  unfolding at_end
  ended_one n c =
      same_test (leb 18446744073709551615 n) (eqb n 18446744073709551615) (λ e. let h = leb-true 18446744073709551615 n e in eq-eqb n 18446744073709551615 (omega arith))
      (λ e. let h = eqb-true n 18446744073709551615 e in le-leb 18446744073709551615 n (omega arith))

  -- 11 looks at both eviction counts and at the clock
  pub ended_seen : any_at_end (seen s) ≡ counters_full s.eit
  unfolding any_at_end seen
  ended_seen = rw (ended_one s.eit.sets.evictions z.counts, ended_one s.eit.sets.clock z.ticks, ended_one s.eit.schedule_evictions z.schedule_counts)

  -- ---- a clear

  emptied_tied : Tied (after eit.done (store (empty_eit s.eit) s.heads s.slots s.cells s.schedule_heads s.units)) (good (seen s) clear)
  unfolding good shows on_answer answer_told seen cleared emptied
  emptied_tied = record {
    told = refl;
    shown = (
        let p = seen_none key_shown key_words same_set same_set_true set_self s.heads s.eit.sets.clock (row_seen s.heads s.slots) in
        let q = seen_none schedule_shown schedule_words same_schedule same_schedule_true schedule_self s.schedule_heads s.eit.sets.clock (schedule_seen s.schedule_heads s.units) in
        λ t. record {
          settings = (seen s).settings;
          eit = record { sets = record { rows = p t; evicted = s.eit.sets.evictions }; schedules = record { rows = q t; evicted = s.eit.schedule_evictions } };
          cells = (seen s).cells;
          clock = s.eit.sets.clock;
        });
    reached = record {
      fits = fits_schedules s.eit (length s.heads) (length s.slots) (length s.cells) (length s.schedule_heads) (length s.units) 0 s.eit.schedule_evictions z.fits (omega arith);
      counts = z.counts;
      ticks = z.ticks;
      schedule_counts = z.schedule_counts;
      heads_fit = λ i h. absurd (not-suc-le-zero h);
      sets = stands_none key_shown key_words same_set same_set_true set_self s.heads s.eit.sets.clock;
      schedules = stands_none schedule_shown schedule_words same_schedule same_schedule_true schedule_self s.schedule_heads s.eit.sets.clock;
    };
  }

  pub clear_tied : Tied (cleared_of s) (call (seen s) clear)
  unfolding cleared_of call guarded ended answer_told
  clear_tied = rw (whole_seen, each_has_pid s z) (go (whole_of s))
    where
      go : (b : Bool) → Tied (cond b (after eit.done (store (empty_eit s.eit) s.heads s.slots s.cells s.schedule_heads s.units)) (after (eit.refused refusal.NotWhole) s)) (guarded b false (seen s) clear)
      go true = emptied_tied
      go false = record { told = refl; shown = refl; reached = z }

-- ---- a section, in the order of the numbers

key_of_lem : (a : Arrival) (bytes : Bytes) (kind : Kind) → kind_of a.entry.key.table_id ≡ some kind → key_of (section_for a bytes) kind ≡ key_shown a.entry.key
unfolding key_of schedule_of key_shown
key_of_lem a bytes kind e = rw e

module _ (s : Store) (z : Reached s) where
  module _ (f : Whole s)
      (units_ok : schedules_whole s.schedule_heads s.units s.eit.sets.count s.eit.sets.size s.eit.schedules ≡ true)
      (more : s.eit.sets.evictions < 18446744073709551615) (more' : s.eit.schedule_evictions < 18446744073709551615) (runs : s.eit.sets.clock < 18446744073709551615) (bytes : Bytes) where
    -- 20, then limit 0
    good_tied : (a : Arrival) (kind : Kind) → Arrives a kind → 12 ≤ length bytes → Tied (told_step (pushed_whole s bytes a)) (good (seen s) (offer (section_for a bytes)))
    unfolding pushed_whole plan_of good offer_in admit_in push_in shows on_answer answer_told seen
    good_tied a kind arr h12 = rw (arr.table, key_of_lem a bytes kind arr.table) (fit (ltb s.eit.sets.size (length bytes)) refl)
      where
        k : SetKey
        k = key_shown a.entry.key

        limited : length bytes ≤ s.eit.sets.size → (m : ℕ) → s.eit.sets.limit ≡ m
            → Tied (told_step (carried s bytes (cond (eqb m 0) (plan.Leave answer.Nothing) (plan_placed s a (place_in (set_store s) a.entry bytes))))) (push_in m (seen s) (section_for a bytes) k)
        limited l zero q = record { told = refl; shown = refl; reached = z }
        limited l (suc m) q =
            rw (ne_eqb (suc m) 0 (λ (t : suc m ≡ 0). absurd (omega arith))) (placed_tied s z f units_ok more more' runs (omega arith) a kind arr bytes h12 l)

        fit : (b : Bool) → ltb s.eit.sets.size (length bytes) ≡ b
            → Tied (told_step (carried s bytes (cond b (plan.Leave (answer.Refused refusal.TooLong)) (cond (eqb s.eit.sets.limit 0) (plan.Leave answer.Nothing) (plan_placed s a (place_in (set_store s) a.entry bytes))))))
            (admit_in (seen s) (section_for a bytes) k (leb (length bytes) s.eit.sets.size))
        fit true q = rw (lt-leb (length bytes) s.eit.sets.size (ltb-true s.eit.sets.size (length bytes) q)) (record { told = refl; shown = refl; reached = z })
        fit false q =
            let l = ltb-false s.eit.sets.size (length bytes) q in
            rw (le-leb (length bytes) s.eit.sets.size l) (limited l s.eit.sets.limit refl)

    -- 18 and 19
    read_tied : AllBytes bytes → (from : Words) → (from.pid ≡ 8192 → ⊥) → (h : Header) → collected_of bytes ≡ Ok h → (r : Result Eit Refusal) → Read-as bytes r
        → Tied (pushed_as s bytes (eit_fields from h r)) (good (seen s) (reads_eit (origin_shown from) bytes h r))
    unfolding reads_eit good offer_in shows on_answer answer_told seen section_of
    read_tied o from n h q r (not_eit e) = rw (not_kind bytes h q e) (record { told = refl; shown = refl; reached = z })
    read_tied o from n h q r broken = record { told = refl; shown = refl; reached = z }
    read_tied o from n h q r (read_good kind e) =
        let k = arrives bytes h q (o 7) from n kind e in
        subst (λ (x : Section). Tied (told_step (pushed_whole s bytes (arrival_of from h (fields_of bytes kind)))) (good (seen s) (offer x))) (section_same from bytes h (fields_of bytes kind))
        (good_tied (arrival_of from h (fields_of bytes kind)) k.0 k.1 (good_length bytes h q))

    -- 14 to 17
    judged_tied : AllBytes bytes → (from : Words) → (from.pid ≡ 8192 → ⊥) → (c : Result Header Refusal) → collected_of bytes ≡ c → Tied (pushed_as s bytes (eit_read from bytes c)) (good (seen s) (reads_as (origin_shown from) bytes c))
    unfolding reads_as good shows on_answer answer_told seen
    judged_tied o from n (Err r) q =
        collect_refused_by (λ w. Tied (pushed_as s bytes (eit_read from bytes (Err w))) (good (seen s) (reads_as (origin_shown from) bytes (Err w))))
        (record { told = refl; shown = refl; reached = z }) (record { told = refl; shown = refl; reached = z }) (record { told = refl; shown = refl; reached = z }) (record { told = refl; shown = refl; reached = z }) bytes r q
    judged_tied o from n (Ok h) q = read_tied o from n h q (eit_of bytes) (read_as_lem bytes)

    -- 41, then 12
    pid_tied : AllBytes bytes → (input : ℕ) (pid : StdOption ℕ) → Tied (pushed_as s bytes (eit_arrival input pid bytes)) (good (seen s) (read_section input pid bytes))
    unfolding eit_arrival read_section good shows on_answer answer_told seen origin_shown
    pid_tied o input None = record { told = refl; shown = refl; reached = z }
    pid_tied o input (Some v) = go (ltb v 8192) (ltb input 16) refl
      where
        go : (b c : Bool) → ltb v 8192 ≡ b → Tied (pushed_as s bytes (eit_judged (made_words (cond b (cond c (Ok (origin_of input v)) (Err refusal.BadInput)) (Err refusal.BadPid))) bytes))
            (good (seen s) (cond b (cond c (reads_as (record { input = input; pid = v }) bytes (collected_of bytes)) (refuse refusal.BadInput refl)) (refuse refusal.BadPid refl)))
        go true true q =
            let l = ltb-true v 8192 q in
            rw (← (shown_pid input v l)) (judged_tied o (record { input = input; pid = v }) (λ (t : v ≡ 8192). absurd (omega arith)) (collected_of bytes) refl)
        go true false q = record { told = refl; shown = refl; reached = z }
        go false c q = record { told = refl; shown = refl; reached = z }

  -- 11 comes before what the section is read as
  ended_eit : (bytes : Bytes) (from : Origin) (h : Header) (r : Result Eit Refusal) → ended (seen s) (reads_eit from bytes h r) ≡ any_at_end (seen s)
  unfolding ended reads_eit
  ended_eit bytes from h (Err refusal.NotEit) = refl
  ended_eit bytes from h (Err r) = refl
  ended_eit bytes from h (Ok f) = refl

  ended_as : (bytes : Bytes) (from : Origin) (c : Result Header Refusal) → ended (seen s) (reads_as from bytes c) ≡ any_at_end (seen s)
  unfolding ended reads_as
  ended_as bytes from (Err refusal.ShortForm) = refl
  ended_as bytes from (Err r) = refl
  ended_as bytes from (Ok h) = ended_eit bytes from h (eit_of bytes)

  ended_on : (bytes : Bytes) (from : Origin) → ended (seen s) (read_on from bytes) ≡ any_at_end (seen s)
  unfolding ended
  ended_on bytes from = go (ltb from.input 16)
    where
      go : (b : Bool) → ended (seen s) (cond b (reads_as from bytes (collected_of bytes)) (refuse refusal.BadInput refl)) ≡ any_at_end (seen s)
      go true = ended_as bytes from (collected_of bytes)
      go false = refl

  ended_read : (input : ℕ) (pid : StdOption ℕ) (bytes : Bytes) → ended (seen s) (read_section input pid bytes) ≡ any_at_end (seen s)
  unfolding read_section ended
  ended_read input None bytes = refl
  ended_read input (Some v) bytes = go (ltb v 8192)
    where
      go : (b : Bool) → ended (seen s) (cond b (read_on (record { input = input; pid = v }) bytes) (refuse refusal.BadPid refl)) ≡ any_at_end (seen s)
      go true = ended_on bytes (record { input = input; pid = v })
      go false = refl

  -- 10, then 11; no set and no schedule is without a PID
  pub push_tied : (input : ℕ) (pid : StdOption ℕ) (bytes : Bytes) → AllBytes bytes → Tied (pushed_of s input pid bytes) (call (seen s) (read_section input pid bytes))
  unfolding pushed_of admitted call guarded answer_told
  push_tied input pid bytes o =
      rw (whole_seen s z, ended_read input pid bytes, ended_seen s z, each_has_pid s z) (go (whole_of s) (counters_full s.eit) refl refl)
    where
      go : (w t : Bool) → whole_of s ≡ w → counters_full s.eit ≡ t
          → Tied (pushed_as s bytes (cond w (cond t (Err refusal.CounterFull) (eit_arrival input pid bytes)) (Err refusal.NotWhole))) (guarded w t (seen s) (read_section input pid bytes))
      go false t p q = record { told = refl; shown = refl; reached = z }
      go true true p q = record { told = refl; shown = refl; reached = z }
      go true false p q =
          let c = z.counts in
          let c' = z.schedule_counts in
          let d = can_count s.eit false (sym q) refl (omega arith) (omega arith) in
          pid_tied (whole_store s p) (units_whole_lem s p) d.sets d.schedules (let t = z.ticks in let n = d.runs in omega arith) bytes o input pid

  -- 10, then a drop's 41, 12, 37 and 7; a drop asks for no count
  dropped_tied : (f : Filter) → FilterFits f → Tied (dropped_of s f) (call (seen s) (drop (filter_shown f)))
  unfolding dropped_of drop_of call guarded ended good answer_told
  dropped_tied f fit = rw (whole_seen s z, each_has_pid s z) (go (whole_of s) refl)
    where
      go : (b : Bool) → whole_of s ≡ b
          → Tied (carried_drop s (cond b (drop_wanted f) (Err refusal.NotWhole)))
          (guarded b false (seen s) (drop (filter_shown f)))
      go true e = drop_tied s z (whole_store s e) f fit
      go false e = record { told = refl; shown = refl; reached = z }

  -- every call
  pub tied : (i : Given) → Fitting i → Tied (called s i) (call (seen s) (reads i))
  unfolding reads
  tied clears o = clear_tied s z
  tied (drops f) o = dropped_tied f o
  tied (section input pid bytes) o = push_tied input pid bytes o
