-- A drop by filter: the sets and the schedules that match leave, as the rules say, and no eviction is counted.
-- Assumes nothing.
use mathlib.Core.Path.{◌≡◌, refl, sym, ap, ◌∙◌}
use mathlib.Core.Bool.{Bool, true, false, cond, not}
use mathlib.Core.List.{List}
use mathlib.Core.Option.{none, some}
use Prim.Native.Nat.{ℕ, ◌+◌, ◌-◌, ◌*◌, ◌≤◌, ◌<◌}
use native.Mathlib.Nat.{le_refl}
use native.Mathlib.Omega.{arith}
use borrow.Author.Tests.{lt-leb, le-leb, ltb-true, ltb-false}
use lib.Dec.{ltb, leb}
use lib.ListN.{length, take, drop, get_or}
use Rattle.rules_shared.specs.Touch.{retained}
use Rattle.answers.specs.declared.Refusal.TheVariants as refusal
use Rattle.rules_eit.specs.Keys.{kind_number, ScheduleKey, SetKey, no_pid, bad_pid, bad_input, bad_filter, pid_passes, from_passes, matches as key_matches}
use Rattle.rules_eit.specs.Rules.{done, gives, dropped}
use Rattle.rules_eit.specs.Cells.{on_answer, shows, drop_in}
use Rattle.std.specs.Prelude.{Ok, Err, Option, Some, None, Result}
use Rattle.rows.specs.declared.Origin.{Origin as Words}
use Rattle.rows.specs.declared.Key.{Key}
use Rattle.rows.specs.Rows.{table_word, key_at, slot_count, slots_at}
use Rattle.ticks.specs.Order.{moved_from}
use Rattle.ticks.specs.Origins.{origin_shown}
use Rattle.ticks.proofs.Cells.{up_cong}
use Rattle.segments.specs.Segments.{word_of}
use Rattle.schedules.specs.Schedules.{tables_of}
use Rattle.filter.specs.declared.Of.TheVariants as of
use Rattle.filter.specs.declared.Fields.{Fields}
use Rattle.answers.specs.declared.Refusal.{Refusal}
use Rattle.filter.specs.declared.WantedOrigin.{WantedOrigin}
use Rattle.filter.specs.Drops.{wants, wants_origin, matches, removed_heads, removed_words, Rest, rest, dropped_rows}
use Rattle.ties_eit.proofs.Removed.{removed_word, removed_words_lem, removed_part, removed_slots}
use Rattle.eit_drop.specs.declared.Filter.{Filter}
use Rattle.eit_drop.specs.declared.WantedPid.{WantedPid}
use Rattle.eit_drop.specs.declared.WantedPid.TheVariants as wanted_pid
use Rattle.eit_state.specs.State.{Store, store, Whole, with_sets, with_schedules}
use Rattle.eit_drop.specs.Drop.{input_wanted, made_wanted, wanted_origin, fields_of, drop_from, matching_gone}
use Rattle.eit.specs.Store.{After, carried_drop}
use Rattle.ties_eit.specs.View.{kind_by, key_shown, schedule_shown, key_words, schedule_words, row_seen, copy_seen, place_seen, schedule_seen, seen, wanted_as, pid_test, filter_shown, answer_told, FilterFits, HeadFits, Reached}
use Rattle.ties_eit.proofs.Keys.{Bit}
use Rattle.ties_eit.proofs.Rows.{row_as}
use Rattle.ties_eit.proofs.Units.{copy_as}
use Rattle.ties_eit.proofs.Entered.{Tied, fits_schedules}
use Rattle.ties_eit.proofs.Retained.{Stays, stays}
use Rattle.ties_eit.proofs.Filters.{pid_any, pid_exactly, from_wanted, sets_match, schedules_match, kind_word_lem}

-- ---- what the row shows that takes another's place

module _ (used i : ℕ) (heads ws : List ℕ) (h : i < used) (lh : used * 12 ≤ length heads) where
  -- a set
  pub moved_set : used * 288 ≤ length ws → (j : ℕ) → j < used - 1 → row_seen (removed_heads used i heads) (removed_words of.Sets used i ws) j ≡ row_seen heads ws (moved_from used i j)
  moved_set lw j k =
      row_as heads (removed_heads used i heads) ws (removed_words of.Sets used i ws) (moved_from used i j) j (λ m a b. removed_word used i heads h lh j m (omega arith))
      (removed_slots used i heads ws h lh lw j (omega arith)) (λ g q. removed_words_lem of.Sets used i ws h lw j g (omega arith))

  pub moved_head : (j : ℕ) → HeadFits heads (moved_from used i j) → HeadFits (removed_heads used i heads) j
  moved_head j f = record {
    version = rw (removed_word used i heads h lh j 6 (omega arith)) f.version;
    last = rw (removed_word used i heads h lh j 7 (omega arith)) f.last;
    kind = rw (removed_word used i heads h lh j 1 (omega arith)) f.kind;
  }

  -- a schedule: its 16 units
  module _ (lw : used * 4608 ≤ length ws) (j : ℕ) (k : j < used - 1) where
    abbrev from : ℕ
    from = moved_from used i j

    abbrev moved : List ℕ
    moved = removed_words of.Schedules used i ws

    unit_word : (t n : ℕ) → t < 16 → n < 288 → word_of moved (j * 16 + t) n ≡ word_of ws (from * 16 + t) n
    unit_word t n a b =
        let p : (j * 16 + t) * 288 + n ≡ j * 4608 + (t * 288 + n) = omega arith in
        let q : from * 4608 + (t * 288 + n) ≡ (from * 16 + t) * 288 + n = omega arith in
        ap (λ (x : ℕ). get_or moved x 0) p ∙ removed_words_lem of.Schedules used i ws h lw j (t * 288 + n) (omega arith) ∙ ap (λ (x : ℕ). get_or ws x 0) q

    unit_part : (t n : ℕ) → t < 16 → n ≤ 256 → take n (drop (slots_at (j * 16 + t)) moved) ≡ take n (drop (slots_at (from * 16 + t)) ws)
    unit_part t n a b =
        let p : slots_at (j * 16 + t) ≡ j * 4608 + (t * 288 + 32) = omega arith in
        let q : from * 4608 + (t * 288 + 32) ≡ slots_at (from * 16 + t) = omega arith in
        ap (λ (x : ℕ). take n (drop x moved)) p ∙ removed_part of.Schedules used i ws h lw j (t * 288 + 32) n (omega arith) (omega arith) ∙ ap (λ (x : ℕ). take n (drop x ws)) q

    moved_copy : (t : ℕ) → t < 16 → copy_seen moved (j * 16 + t) ≡ copy_seen ws (from * 16 + t)
    moved_copy t a =
        copy_as ws moved (from * 16 + t) (j * 16 + t) (unit_word t 0 a (omega arith)) (unit_word t 1 a (omega arith)) (unit_word t 2 a (omega arith))
        (unit_part t (slot_count (word_of ws (from * 16 + t) 2)) a (omega arith))

    moved_tables : tables_of (removed_heads used i heads) j ≡ tables_of heads from
    unfolding tables_of
    moved_tables = rw (removed_word used i heads h lh j 7 (omega arith), removed_word used i heads h lh j 1 (omega arith))

    moved_place : (t : ℕ) → t < 16 → place_seen (removed_heads used i heads) moved j t ≡ place_seen heads ws from t
    unfolding place_seen
    moved_place t a = rw (moved_tables, moved_copy t a)

    pub moved_schedule : schedule_seen (removed_heads used i heads) moved j ≡ schedule_seen heads ws from
    unfolding schedule_seen
    moved_schedule =
        let p = removed_word used i heads h lh j 7 (omega arith) in
        let q = up_cong (place_seen (removed_heads used i heads) moved j) (place_seen heads ws from) 16 0 (λ t a b. moved_place t (omega arith)) in
        λ t. record { last_table = p t; copies = q t }

-- ---- which rows match

not_twice : (b : Bool) → b ≡ not (not b)
not_twice true = refl
not_twice false = refl

pub set_bit : (k : Key) → key_words (key_shown k) ≡ k → Bit k.current_next
unfolding key_words key_shown
set_bit k e = ap (λ (q : Key). q.current_next) e

pub schedule_bit : (k : Key) → schedule_words (schedule_shown k) ≡ k → Bit k.current_next × (k.table_id ≡ kind_number (kind_by k.table_id))
unfolding schedule_words schedule_shown
schedule_bit k e = (ap (λ (q : Key). q.current_next) e, sym (ap (λ (q : Key). q.table_id) e))

module _ (f : Filter) (fit : FilterFits f) (w : WantedOrigin) (from : (o : Words) → wants_origin w o ≡ from_passes (filter_shown f) (origin_shown o)) where
  -- the keys that stay
  abbrev set_stays : SetKey → Bool
  set_stays k = not (key_matches (filter_shown f) k.schedule)

  abbrev schedule_stays : ScheduleKey → Bool
  schedule_stays l = not (key_matches (filter_shown f) l)

  set_agrees : (heads : List ℕ) (j : ℕ) → HeadFits heads j → key_words (key_shown (key_at heads j)) ≡ key_at heads j → matches of.Sets (fields_of w f) (key_at heads j) ≡ not (set_stays (key_shown (key_at heads j)))
  set_agrees heads j h e =
      sets_match f fit w from (key_at heads j) (set_bit (key_at heads j) e) (kind_word_lem (table_word heads j) h.kind) ∙ not_twice (key_matches (filter_shown f) (key_shown (key_at heads j)).schedule)

  abbrev Any : List ℕ → ℕ → Type 0
  Any heads j = Unit {0}

  schedule_agrees : (heads : List ℕ) (j : ℕ) → Any heads j → schedule_words (schedule_shown (key_at heads j)) ≡ key_at heads j
      → matches of.Schedules (fields_of w f) (key_at heads j) ≡ not (schedule_stays (schedule_shown (key_at heads j)))
  schedule_agrees heads j h e =
      let b = schedule_bit (key_at heads j) e in
      schedules_match f fit w from (key_at heads j) b.0 b.1 ∙ not_twice (key_matches (filter_shown f) (schedule_shown (key_at heads j)))

  -- ---- the sets and the schedules

  module _ (s : Store) (z : Reached s) (g : Whole s) where
    abbrev sets_before : Rest
    sets_before = rest s.heads s.slots s.eit.sets.used

    abbrev schedules_before : Rest
    schedules_before = rest s.schedule_heads s.units s.eit.schedules

    abbrev sets_after : Rest
    sets_after = dropped_rows of.Sets (fields_of w f) s.eit.sets.used sets_before

    abbrev schedules_after : Rest
    schedules_after = dropped_rows of.Schedules (fields_of w f) s.eit.schedules schedules_before

    sets_stay : Stays key_shown key_words of.Sets HeadFits row_seen set_stays s.eit.sets.clock sets_before sets_after
    sets_stay =
        let a = g.sets.used in
        let b = g.sets.heads_long in
        let c = g.sets.slots_long in
        stays key_shown key_words of.Sets (fields_of w f) HeadFits row_seen set_stays s.eit.sets.clock (λ used i heads h l j q. moved_head used i heads heads h l j q)
        (λ used i heads ws h l m j k. moved_set used i heads ws h l m j k) set_agrees s.eit.sets.used sets_before
        (record { stands = z.sets; heads_long = omega arith; words_long = omega arith; fits = z.heads_fit }) (le_refl s.eit.sets.used) (λ j p q. absurd (omega arith))

    schedules_stay : Stays schedule_shown schedule_words of.Schedules Any schedule_seen schedule_stays s.eit.sets.clock schedules_before schedules_after
    schedules_stay =
        let a = g.schedules in
        let b = g.schedule_heads_long in
        let c = g.units_long in
        stays schedule_shown schedule_words of.Schedules (fields_of w f) Any schedule_seen schedule_stays s.eit.sets.clock (λ used i heads h l j q. tt)
        (λ used i heads ws h l m j k. moved_schedule used i heads ws h l m j k) schedule_agrees s.eit.schedules schedules_before
        (record { stands = z.schedules; heads_long = omega arith; words_long = omega arith; fits = λ j k. tt }) (le_refl s.eit.schedules) (λ j p q. absurd (omega arith))

    abbrev after : Store
    after = store (with_schedules (with_sets s.eit sets_after.used s.eit.sets.evictions) schedules_after.used s.eit.schedule_evictions)
        sets_after.heads sets_after.words s.cells schedules_after.heads schedules_after.words

    -- "sets and schedules that match go"
    shown_after : seen after ≡ record { settings = (seen s).settings; eit = dropped (filter_shown f) (seen s).eit; cells = (seen s).cells; clock = (seen s).clock }
    unfolding seen dropped retained
    shown_after =
        let p = sets_stay.rows in
        let q = schedules_stay.rows in
        λ t. record {
          settings = (seen s).settings;
          eit = record { sets = record { rows = p t; evicted = s.eit.sets.evictions }; schedules = record { rows = q t; evicted = s.eit.schedule_evictions } };
          cells = (seen s).cells;
          clock = (seen s).clock;
        }

    reached_after : Reached after
    reached_after = record {
      fits = rw (sets_stay.same_heads, sets_stay.same_words, schedules_stay.same_heads, schedules_stay.same_words)
          (fits_schedules s.eit (length s.heads) (length s.slots) (length s.cells) (length s.schedule_heads) (length s.units) schedules_after.used s.eit.schedule_evictions z.fits
          (let p = schedules_stay.fewer in let q = g.schedules in omega arith));
      counts = z.counts;
      ticks = z.ticks;
      schedule_counts = z.schedule_counts;
      heads_fit = sets_stay.sound.fits;
      sets = sets_stay.sound.stands;
      schedules = schedules_stay.sound.stands;
    }

    pub matching_tied : Tied (carried_drop s (Ok (fields_of w f)))
        (shows (seen s) (seen s).cells (gives done (dropped (filter_shown f) (seen s).eit)))
    unfolding matching_gone shows on_answer answer_told
    matching_tied = record { told = refl; shown = shown_after; reached = reached_after }

-- ---- 41, then 12, then 37, then 7

module _ (s : Store) (z : Reached s) (g : Whole s) (f : Filter) (fit : FilterFits f) where
  abbrev leaves : Result Fields Refusal → After
  leaves d = carried_drop s d

  pub drop_tied : Tied (leaves (drop_from f (wanted_origin f.input f.pid))) (drop_in (seen s) (filter_shown f) (bad_filter (filter_shown f)))
  unfolding filter_shown bad_filter no_pid bad_pid bad_input drop_in shows on_answer answer_told seen
  drop_tied = go f.pid refl
    where
      -- 37, once the PID is one that there is
      input_tied : (w : Option ℕ) → ((o : Words) → wants w o.pid ≡ pid_passes (pid_test f.pid) (origin_shown o).pid) → (i : Option ℕ) → f.input ≡ i
          → Tied (leaves (drop_from f (input_wanted i w))) (drop_in (seen s) (filter_shown f) (cond (bad_input (wanted_as (λ (x : ℕ). x) i)) (some refusal.BadInput) none))
      input_tied w p None e = matching_tied f fit (record { input = None; pid = w }) (λ o. from_wanted f None w e o (p o)) s z g
      input_tied w p (Some v) e = test (ltb v 16) refl
        where
          test : (b : Bool) → ltb v 16 ≡ b → Tied (leaves (drop_from f (cond b (Ok (record { input = Some v; pid = w })) (Err refusal.BadInput))))
              (drop_in (seen s) (filter_shown f) (cond (leb 16 v) (some refusal.BadInput) none))
          test true q = rw (lt-leb 16 v (ltb-true v 16 q)) (matching_tied f fit (record { input = Some v; pid = w }) (λ o. from_wanted f (Some v) w e o (p o)) s z g)
          test false q = rw (le-leb 16 v (ltb-false v 16 q)) (record { told = refl; shown = refl; reached = z })

      exactly_tied : (v : ℕ) → f.pid ≡ wanted_pid.Exactly v → (b : Bool) → ltb v 8192 ≡ b
          → Tied (leaves (drop_from f (made_wanted f.input (cond b (Ok (record { 0 = v })) (Err refusal.BadPid)))))
          (drop_in (seen s) (filter_shown f) (cond (leb 8192 v) (some refusal.BadPid) (cond (bad_input (wanted_as (λ (x : ℕ). x) f.input)) (some refusal.BadInput) none)))
      exactly_tied v e true q =
          let l = ltb-true v 8192 q in
          rw (lt-leb 8192 v l)
          (input_tied (Some v) (λ o. pid_exactly v l o ∙ ap (λ (t : WantedPid). pid_passes (pid_test t) (origin_shown o).pid) (sym e)) f.input refl)
      exactly_tied v e false q = rw (le-leb 8192 v (ltb-false v 8192 q)) (record { told = refl; shown = refl; reached = z })

      go : (p : WantedPid) → f.pid ≡ p → Tied (leaves (drop_from f (wanted_origin f.input p)))
          (drop_in (seen s) (filter_shown f)
          (cond (no_pid (pid_test p)) (some refusal.NoPid) (cond (bad_pid (pid_test p)) (some refusal.BadPid) (cond (bad_input (wanted_as (λ (x : ℕ). x) f.input)) (some refusal.BadInput) none))))
      go wanted_pid.Any e = input_tied None (λ o. pid_any o ∙ ap (λ (t : WantedPid). pid_passes (pid_test t) (origin_shown o).pid) (sym e)) f.input refl
      go wanted_pid.Without e = record { told = refl; shown = refl; reached = z }
      go (wanted_pid.Exactly v) e = exactly_tied v e (ltb v 8192) refl
