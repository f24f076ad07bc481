-- One call: what the store of the set collector tells and shows then is what the rules with cells tell and leave, for every store that a history reaches.
-- Assumes nothing.
use mathlib.Core.Path.{◌≡◌, refl, sym, ap, subst, ◌∙◌}
use mathlib.Core.Logic.{◌≢◌}
use mathlib.Core.Bool.{Bool, true, false, cond, not, ◌&&◌, ◌||◌}
use mathlib.Core.Option.{Option, none, some}
use mathlib.Core.List.{List}
use Prim.Native.Nat.{ℕ, zero, suc, ◌+◌, ◌*◌, ◌≤◌, ◌<◌}
use native.Mathlib.Omega.{arith}
use borrow.Author.Tests.{eq-eqb, ne_eqb, eqb-true, eqb-false, ltb-true, ltb-false, leb-true, le-leb, lt-leb}
use lib.Dec.{eqb, ltb, leb}
use lib.ListN.{length, get_or}
use Rattle.laws.specs.Lists.{same_list}
use Rattle.laws.proofs.Tests.{same_test}
use Rattle.laws.proofs.Search.{every_get}
use Rattle.rules_shared.specs.Same.{Bytes, Origin}
use Rattle.rules_shared.specs.Slots.{every_held}
use Rattle.rules_shared.specs.Touch.{emptied}
use Rattle.rules_shared.specs.Row.{fresh, fits, start, slot_of}
use Rattle.rules_shared.specs.Cells.{Held, lowest, place_new, place_held, held_whole, room_whole, at_end}
use Rattle.rules_shared.specs.Cells.{place as placed}
use Rattle.rules_shared.proofs.Slots.{free_slot}
use Rattle.rules_sets.specs.Rules.{same_key, SetOf, Section, part_of, clear, refuse, offer, met_row, Key as SetKey}
use Rattle.rules_sets.specs.Cells.{on_answer, taken, store_whole, ended, shows, rest, room_for, place_of, carry, push_in, admit_in, good, guarded, call}
use Rattle.rules_sets.proofs.Keys.{same_key_true_lem}
use Rattle.section.proofs.Refused.{collect_refused_by}
use Rattle.section.specs.Ids.{origin_of}
use Rattle.section.specs.Judged.{collected_of}
use Rattle.std.specs.Prelude.{Option as StdOption, Some, None, Result, Ok, Err}
use Rattle.section.specs.declared.header.Header.{Header}
use Rattle.answers.specs.declared.Refusal.{Refusal}
use Rattle.section.specs.Facts.{Bytes as AllBytes}
use Rattle.cells.specs.Cells.{kept_length, filled, slot_whole, all_whole, kept}
use Rattle.rows.specs.declared.Origin.{Origin as Words}
use Rattle.rows.specs.declared.Entry.{Entry}
use Rattle.rows.specs.declared.Room.{Room}
use Rattle.rows.specs.Rows.{key_at, row_of, room_in, room_renewed, room_new, slots_at, slot_count, row_slots, oldest_of, last_of, version_of}
use Rattle.rows.specs.declared.Key.{Key}
use Rattle.ticks.specs.Order.{rows_seen, Goes, known}
use Rattle.ticks.specs.Origins.{plain_shown}
use Rattle.ticks.specs.Slots.{held_of, cells_seen}
use Rattle.ticks.proofs.Touch.{row_has_key, no_row_has_key, goes_known, goes_new, stands_none, seen_none, length_seen, finds_known, finds_none}
use Rattle.without_pid.specs.Pids.{without_pid}
use Rattle.ticks.proofs.Slots.{place, held_filled, held_empty, held_get, held_whole_lem, rows_whole_lem}
use Rattle.rows.proofs.Words.{slot_at, length_slots}
use Rattle.rows.proofs.Whole.{rows_get}
use Rattle.ticks.proofs.Cells.{cells_length, bytes_kept, same_bytes_lem}
use Rattle.answers.specs.declared.Refusal.TheVariants as refusal
use Rattle.arrivals.specs.Arrivals.{Numbered, Taken, made_words, set_key, entry_of, set_read, set_judged, set_arrival}
use Rattle.sets.proofs.Arrived.{entry_taken}
use Rattle.store.specs.Store.{Store, store, whole_of, counters_full, Whole, empty_sets}
use Rattle.store.proofs.Whole.{whole_means, long, evictions_go_on, clock_goes_on}
use Rattle.placing.specs.Places.{place_slot, place_known}
use Rattle.placing.specs.Places.{place_of as row_place}
use Rattle.placing.specs.declared.Place.TheVariants.{Conflict, Repeat, Goes as RoomIn}
use Rattle.placing.proofs.Fits.{slot_bounds, same_last_lem}
use Rattle.sets_plan.specs.declared.Plan.TheVariants as plan
use Rattle.sets_plan.specs.Plan.{plan_keep, plan_placed, plan_of}
use Rattle.sets_settle.specs.Settle.{after, done, refused, carried}
use Rattle.sets.specs.Store.{cleared_of, pushed_as, pushed_of}
use Rattle.sets_push.specs.Pushing.{whole_pushed, admitted}
use Rattle.sets.specs.History.{Call as Given, empty as clears, offer as section, Bytes as OfBytes, called}
use Rattle.ties_sets.specs.View.{key_shown, key_words, row_seen, seen, reads_as, read_on, read_section, reads, answer_told, Standing, Reached}
use Rattle.ties_sets.proofs.Rows.{same_self, written_shown, written_reads}
use Rattle.ties_sets.proofs.Settle.{Tied, Ready, settle_tied, conflict_tied}
use Rattle.ties_sets.proofs.Keep.{section_for, anew, goes_on, keep_tied}

-- ---- lists of rows

row_whole : (s : Store) (j : ℕ) → every_held (held_whole (seen s).settings (seen s).cells) (row_seen s.heads s.slots j).slots ≡ all_whole s.sets.count s.sets.size (row_slots s.heads s.slots j)
unfolding row_seen seen
row_whole s j =
    held_whole_lem (seen s).settings (seen s).cells (row_slots s.heads s.slots j)
    ∙ ap (λ (m : ℕ). all_whole m s.sets.size (row_slots s.heads s.slots j)) (cells_length s.cells s.sets.size s.sets.count)

new_fresh : (heads : List ℕ) (limit used evictions : ℕ) → (room_new heads limit used evictions).fresh ≡ true
unfolding room_new
new_fresh heads limit used evictions = go (ltb used limit)
  where
    go : (b : Bool) → (cond b (room_renewed (used + 1) evictions used) (room_renewed used (evictions + 1) (oldest_of heads used))).fresh ≡ true
    go true = refl
    go false = refl

-- ---- 10 and 11

pub whole_seen : (s : Store) → Standing s → store_whole (seen s) ≡ whole_of s
unfolding store_whole whole_of room_whole seen
whole_seen s z =
    let l = long s.sets (length s.heads) (length s.slots) (length s.cells) z.fits in
    let n : length (cells_seen s.cells s.sets.size s.sets.count) ≡ s.sets.count = cells_length s.cells s.sets.size s.sets.count in
    rw (z.fits, n, le-leb 12 s.sets.size l.size_low, le-leb s.sets.size 4096 l.size_high, le-leb s.sets.count 65535 l.few, rows_length)
    (ap (λ (b : Bool). leb s.sets.used s.sets.limit && b)
    (rows_whole_lem key_shown s.heads s.slots s.sets.count s.sets.size s.sets.used s.sets.clock z.stands.ticks test (row_seen s.heads s.slots) each))
  where
    test : SetOf Held → Bool
    test r = every_held (held_whole (seen s).settings (seen s).cells) r.slots

    rows_length : length (rows_seen key_shown s.heads s.sets.used s.sets.clock (row_seen s.heads s.slots)) ≡ s.sets.used
    rows_length = length_seen key_shown key_words s.heads s.sets.used s.sets.clock z.stands (row_seen s.heads s.slots)

    each : (j : ℕ) → test (row_seen s.heads s.slots j) ≡ all_whole s.sets.count s.sets.size (row_slots s.heads s.slots j)
    each j = row_whole s j

at_end_lem : (n : ℕ) → n ≤ 18446744073709551615 → at_end n ≡ eqb n 18446744073709551615
unfolding at_end
at_end_lem n c =
    same_test (leb 18446744073709551615 n) (eqb n 18446744073709551615)
    (λ e. let h = leb-true 18446744073709551615 n e in eq-eqb n 18446744073709551615 (omega arith))
    (λ e. let h = eqb-true n 18446744073709551615 e in le-leb 18446744073709551615 n (omega arith))

pub ended_seen : (s : Store) → Standing s → (at_end s.sets.evictions || at_end s.sets.clock) ≡ counters_full s.sets
ended_seen s z = rw (at_end_lem s.sets.evictions z.counts, at_end_lem s.sets.clock z.ticks)

-- ---- 41

pub standing : (s : Store) → Reached s → Standing s
standing s z = record { fits = z.fits; counts = z.counts; ticks = z.ticks; stands = z.stands }

-- ---- a clear

emptied_tied : (s : Store) → Standing s
    → Tied (after done (store (empty_sets s.sets) s.heads s.slots s.cells)) (good (seen s) clear)
unfolding good shows on_answer answer_told seen emptied
emptied_tied s z = record {
  told = refl;
  shown = rw (seen_none key_shown key_words same_key same_key_true_lem same_self s.heads s.sets.clock (row_seen s.heads s.slots));
  reached = record { fits = z.fits; counts = z.counts; ticks = z.ticks; stands = stands_none key_shown key_words same_key same_key_true_lem same_self s.heads s.sets.clock };
}

pub clear_tied : (s : Store) → Reached s → Tied (cleared_of s) (call (seen s) clear)
unfolding cleared_of call guarded ended answer_told
clear_tied s z = rw (whole_seen s (standing s z), z.pids) (go (whole_of s))
  where
    go : (b : Bool) → Tied (cond b (after done (store (empty_sets s.sets) s.heads s.slots s.cells))
        (after (refused refusal.NotWhole) s)) (guarded b false (seen s) clear)
    go true = emptied_tied s (standing s z)
    go false = record { told = refl; shown = refl; reached = standing s z }

-- ---- a section that 20 and limit 0 let in

module _ (s : Store) (z : Standing s) (f : Whole s.sets s.heads s.slots s.cells) (more : s.sets.evictions < 18446744073709551615) (runs : s.sets.clock < 18446744073709551615) (pos : 0 < s.sets.limit)
    (e : Entry) (n : Numbered e) (proper : key_words (key_shown e.key) ≡ e.key) (bytes : Bytes) (h12 : 12 ≤ length bytes) (hs : length bytes ≤ s.sets.size) where
  abbrev x : Section
  x = section_for e bytes

  abbrev there : ℕ
  there = row_of s.heads e.key s.sets.used

  -- an empty slot: the lowest free cell, or 21
  place_empty : slot_of (part_of x) (met_row x (seen s).sets) ≡ none → place_of (seen s) x ≡ place_new (lowest (taken (room_for (seen s) x)) (length (seen s).cells) 0)
  unfolding place_of placed
  place_empty h = rw h

  -- the key is new
  met_new : s.sets.used ≤ there → met_row x (seen s).sets ≡ fresh (part_of x)
  unfolding met_row start seen
  met_new h =
      rw (finds_none key_shown key_words same_key same_key_true_lem same_self s.heads s.sets.limit s.sets.used s.sets.clock (s.sets.clock + 1) s.sets.evictions e.key z.stands (omega arith) proper (row_seen s.heads s.slots)
      (no_row_has_key s.heads e.key s.sets.used h))

  fresh_slot : (r : SetOf Held) → r ≡ fresh (part_of x) → slot_of (part_of x) r ≡ none
  unfolding slot_of fresh part_of
  fresh_slot r q = rw q (free_slot (suc e.last) e.number)

  new_tied : s.sets.used ≤ there
      → Tied (carried s bytes (plan_keep s e (room_new s.heads s.sets.limit s.sets.used s.sets.evictions))) (carry (seen s) x (place_of (seen s) x))
  new_tied h =
      let r : Room = room_new s.heads s.sets.limit s.sets.used s.sets.evictions in
      rw (place_empty (fresh_slot _ (met_new h)))
      (keep_tied s z f more runs e n proper bytes h12 hs r (goes_new s.heads s.sets.limit s.sets.used s.sets.evictions e.key h pos)
      (anew (new_fresh s.heads s.sets.limit s.sets.used s.sets.evictions)) (met_new h))

  -- the key is known
  module _ (h : there < s.sets.used) where
    abbrev row : SetOf Held
    row = row_seen s.heads s.slots there

    goes : Goes s.heads s.sets.limit s.sets.used s.sets.evictions e.key there s.sets.used s.sets.evictions
    goes = goes_known s.heads s.sets.limit s.sets.used s.sets.evictions e.key h

    fits_as : fits (part_of x) row ≡ (eqb (version_of s.heads there) e.version && eqb (last_of s.heads there) e.last)
    unfolding fits row_seen part_of
    fits_as = refl

    met_known : (b : Bool) → (eqb (version_of s.heads there) e.version && eqb (last_of s.heads there) e.last) ≡ b → met_row x (seen s).sets ≡ cond b row (fresh (part_of x))
    unfolding met_row start seen
    met_known b q =
        rw (
          finds_known key_shown key_words same_key same_key_true_lem same_self s.heads s.sets.limit s.sets.used s.sets.clock (s.sets.clock + 1) s.sets.evictions e.key z.stands (omega arith) proper (row_seen s.heads s.slots) there h
              (row_has_key s.heads e.key s.sets.used h),
          fits_as,
          q,
        )

    -- "A differing version or last number empties the row"
    renewed_tied : met_row x (seen s).sets ≡ fresh (part_of x)
        → Tied (carried s bytes (plan_keep s e (room_renewed s.sets.used s.sets.evictions there))) (carry (seen s) x (place_of (seen s) x))
    renewed_tied m =
        rw (place_empty (fresh_slot _ m))
        (keep_tied s z f more runs e n proper bytes h12 hs (room_renewed s.sets.used s.sets.evictions there) goes (anew refl) m)

    -- the row goes on
    module _ (last : last_of s.heads there ≡ e.last) (m : met_row x (seen s).sets ≡ row) where
      abbrev w : ℕ
      w = get_or s.slots (slots_at there + e.number) 0

      in_row : e.number < slot_count (last_of s.heads there)
      in_row = let a = n.number in let b = n.last in omega arith

      slot_is : slot_of (part_of x) (met_row x (seen s).sets) ≡ held_of w
      unfolding slot_of part_of row_seen
      slot_is = rw m (held_get (row_slots s.heads s.slots there) e.number ∙ ap held_of (slot_at s.heads s.slots there e.number in_row))

      row_ok : all_whole s.sets.count s.sets.size (row_slots s.heads s.slots there) ≡ true
      row_ok = rows_get s.heads s.slots s.sets.count s.sets.size s.sets.used there f.rows h

      slots_there : there * 288 + 288 ≤ length s.slots
      slots_there = let a = f.slots_long in let b = f.used in omega arith

      word_ok : slot_whole s.sets.count s.sets.size w ≡ true
      word_ok =
          subst (λ (v : ℕ). slot_whole s.sets.count s.sets.size v ≡ true) (slot_at s.heads s.slots there e.number in_row)
          (every_get (slot_whole s.sets.count s.sets.size) (row_slots s.heads s.slots there) 0 e.number row_ok (let d = length_slots s.heads s.slots there slots_there in let i = in_row in omega arith))

      itself : Ready s s e.key there
      itself = record {
        fits = z.fits;
        counts = z.counts;
        long = let a = f.heads_long in let b = f.used in omega arith;
        own = row_has_key s.heads e.key s.sets.used h;
        clock = refl;
        runs = runs;
        others = λ j k l ne q. refl;
        slots = λ j l ne. refl;
        row_whole = row_ok;
      }

      -- "identical bytes are ignored, others conflict"
      held_tied : kept_length w ≢ 0 → Tied (carried s bytes (plan_placed s e (cond (same_list (kept s.cells s.sets.size w) bytes) (Repeat there) (Conflict there)))) (carry (seen s) x (place_of (seen s) x))
      unfolding place_of placed place_held seen carry rest room_for
      held_tied ne =
          let b = slot_bounds s.sets.count s.sets.size w word_ok ne in
          rw (slot_is, held_filled w (ap not (ne_eqb (kept_length w) 0 ne)), bytes_kept s.cells s.sets.size s.sets.count w b.1 b.0, same_bytes_lem (kept s.cells s.sets.size w) bytes)
          (go (same_list (kept s.cells s.sets.size w) bytes))
        where
          go : (b : Bool) → Tied (carried s bytes (plan_placed s e (cond b (Repeat there) (Conflict there)))) (carry (seen s) x (place_held b))
          go true = rw m (settle_tied s s e.key there z proper goes itself refl refl)
          go false = rw m (conflict_tied s s e.key there z proper goes itself refl refl)

      slot_tied : Tied (carried s bytes (plan_placed s e (place_slot s bytes there w))) (carry (seen s) x (place_of (seen s) x))
      unfolding place_slot
      slot_tied = go (eqb (kept_length w) 0) refl
        where
          go : (b : Bool) → eqb (kept_length w) 0 ≡ b
              → Tied (carried s bytes (plan_placed s e (cond b (RoomIn (room_in s.sets.used s.sets.evictions there)) (cond (same_list (kept s.cells s.sets.size w) bytes) (Repeat there) (Conflict there)))))
              (carry (seen s) x (place_of (seen s) x))
          go true q =
              rw (place_empty (slot_is ∙ held_empty w (eqb-true (kept_length w) 0 q)))
              (keep_tied s z f more runs e n proper bytes h12 hs (room_in s.sets.used s.sets.evictions there) goes
              (goes_on refl h (row_has_key s.heads e.key s.sets.used h) last) m)
          go false q = held_tied (eqb-false (kept_length w) 0 q)

    known_tied : Tied (carried s bytes (plan_placed s e (place_known s e bytes there))) (carry (seen s) x (place_of (seen s) x))
    unfolding place_known
    known_tied = go (eqb (version_of s.heads there) e.version && eqb (last_of s.heads there) e.last) refl
      where
        go : (b : Bool) → (eqb (version_of s.heads there) e.version && eqb (last_of s.heads there) e.last) ≡ b
            → Tied (carried s bytes (plan_placed s e (cond b (place_slot s bytes there (get_or s.slots (slots_at there + e.number) 0))
            (RoomIn (room_renewed s.sets.used s.sets.evictions there))))) (carry (seen s) x (place_of (seen s) x))
        go true q = slot_tied (same_last_lem (version_of s.heads there) (last_of s.heads there) e.version e.last q) (met_known true q)
        go false q = renewed_tied (met_known false q)

  good_tied : Tied (carried s bytes (plan_placed s e (row_place s e bytes))) (carry (seen s) x (place_of (seen s) x))
  unfolding row_place
  good_tied = go (ltb there s.sets.used) refl
    where
      go : (b : Bool) → ltb there s.sets.used ≡ b
          → Tied (carried s bytes (plan_placed s e (cond b (place_known s e bytes there) (RoomIn (room_new s.heads s.sets.limit s.sets.used s.sets.evictions))))) (carry (seen s) x (place_of (seen s) x))
      go true q = known_tied (ltb-true there s.sets.used q)
      go false q = new_tied (ltb-false there s.sets.used q)

-- ---- a section, in the order of the numbers

module _ (s : Store) (z : Standing s) where
  module _ (f : Whole s.sets s.heads s.slots s.cells) (more : s.sets.evictions < 18446744073709551615) (runs : s.sets.clock < 18446744073709551615) (bytes : Bytes) where
    -- 20, then limit 0
    pub plan_tied : (e : Entry) → Taken bytes e → key_words (key_shown e.key) ≡ e.key → Tied (carried s bytes (plan_of s e bytes)) (good (seen s) (offer (section_for e bytes)))
    unfolding plan_of good admit_in push_in shows on_answer answer_told seen
    plan_tied e t proper = fit (ltb s.sets.size (length bytes)) refl
      where
        limited : length bytes ≤ s.sets.size → (m : ℕ) → s.sets.limit ≡ m
            → Tied (carried s bytes (cond (eqb m 0) plan.Silent (plan_placed s e (row_place s e bytes)))) (push_in m (seen s) (section_for e bytes))
        limited l zero q = record { told = refl; shown = refl; reached = z }
        limited l (suc m) q = rw (ne_eqb (suc m) 0 (λ (t : suc m ≡ 0). absurd (omega arith))) (good_tied s z f more runs (omega arith) e t.numbered proper bytes t.long l)

        fit : (b : Bool) → ltb s.sets.size (length bytes) ≡ b
            → Tied (carried s bytes (cond b (plan.Refuse refusal.TooLong) (cond (eqb s.sets.limit 0) plan.Silent (plan_placed s e (row_place s e bytes)))))
            (admit_in (seen s) (section_for e bytes) (leb (length bytes) s.sets.size))
        fit true q = rw (lt-leb (length bytes) s.sets.size (ltb-true s.sets.size (length bytes) q)) (record { told = refl; shown = refl; reached = z })
        fit false q =
            let l = ltb-false s.sets.size (length bytes) q in
            rw (le-leb (length bytes) s.sets.size l) (limited l s.sets.limit refl)

    -- 14 to 17
    pub judged_tied : AllBytes bytes → (p : Words) (c : Result Header Refusal) → collected_of bytes ≡ c → Tied (pushed_as s bytes (set_read p c)) (good (seen s) (reads_as (plain_shown p) bytes c))
    unfolding whole_pushed reads_as good shows on_answer answer_told seen
    judged_tied o p (Err r) q =
        collect_refused_by (λ w. Tied (pushed_as s bytes (set_read p (Err w))) (good (seen s) (reads_as (plain_shown p) bytes (Err w))))
        (record { told = refl; shown = refl; reached = z }) (record { told = refl; shown = refl; reached = z }) (record { told = refl; shown = refl; reached = z }) (record { told = refl; shown = refl; reached = z }) bytes r q
    judged_tied o p (Ok h) q =
        rw (← (written_shown p h.table_id h.extension h.current_next))
        (plan_tied (entry_of (set_key p h) h) (entry_taken bytes h (set_key p h) q (o 7)) (written_reads p h.table_id h.extension h.current_next))

    -- 41, then 12
    pid_tied : AllBytes bytes → (input : ℕ) (pid : StdOption ℕ) → Tied (pushed_as s bytes (set_arrival input pid bytes)) (good (seen s) (read_section input pid bytes))
    unfolding set_arrival read_section good shows on_answer answer_told seen
    pid_tied o input None = record { told = refl; shown = refl; reached = z }
    pid_tied o input (Some v) = go (ltb v 8192) (ltb input 16) refl
      where
        go : (b c : Bool) → ltb v 8192 ≡ b → Tied (pushed_as s bytes (set_judged (made_words (cond b (cond c (Ok (origin_of input v)) (Err refusal.BadInput)) (Err refusal.BadPid))) bytes))
            (good (seen s) (cond b (cond c (reads_as (record { input = input; pid = v }) bytes (collected_of bytes)) (refuse refusal.BadInput)) (refuse refusal.BadPid)))
        go true true q = judged_tied o (record { input = input; pid = v }) (collected_of bytes) refl
        go true false q = record { told = refl; shown = refl; reached = z }
        go false c q = record { told = refl; shown = refl; reached = z }

  -- 11 comes before what the section is read as
  ended_as : (bytes : Bytes) (from : Origin) (c : Result Header Refusal) → ended (seen s) (reads_as from bytes c) ≡ (at_end s.sets.evictions || at_end s.sets.clock)
  unfolding ended reads_as seen
  ended_as bytes from (Err refusal.ShortForm) = refl
  ended_as bytes from (Err r) = refl
  ended_as bytes from (Ok h) = refl

  ended_on : (bytes : Bytes) (from : Origin) → ended (seen s) (read_on from bytes) ≡ (at_end s.sets.evictions || at_end s.sets.clock)
  unfolding ended seen
  ended_on bytes from = go (ltb from.input 16)
    where
      go : (b : Bool) → ended (seen s) (cond b (reads_as from bytes (collected_of bytes)) (refuse refusal.BadInput)) ≡ (at_end s.sets.evictions || at_end s.sets.clock)
      go true = ended_as bytes from (collected_of bytes)
      go false = refl

  ended_read : (input : ℕ) (pid : StdOption ℕ) (bytes : Bytes) → ended (seen s) (read_section input pid bytes) ≡ (at_end s.sets.evictions || at_end s.sets.clock)
  unfolding read_section ended seen
  ended_read input None bytes = refl
  ended_read input (Some v) bytes = go (ltb v 8192)
    where
      go : (b : Bool) → ended (seen s) (cond b (read_on (record { input = input; pid = v }) bytes) (refuse refusal.BadPid)) ≡ (at_end s.sets.evictions || at_end s.sets.clock)
      go true = ended_on bytes (record { input = input; pid = v })
      go false = refl

module _ (s : Store) (z : Reached s) where
  abbrev y : Standing s
  y = standing s z

  -- 10, 11, then 41: no row of a store that comes from opening is without a PID
  push_tied : (input : ℕ) (pid : StdOption ℕ) (bytes : Bytes) → AllBytes bytes → Tied (pushed_of s input pid bytes) (call (seen s) (read_section input pid bytes))
  unfolding pushed_of admitted call guarded answer_told
  push_tied input pid bytes o =
      rw (whole_seen s y, ended_read s y input pid bytes, ended_seen s y, z.pids) (go (whole_of s) (counters_full s.sets) refl refl)
    where
      go : (w t : Bool) → whole_of s ≡ w → counters_full s.sets ≡ t
          → Tied (pushed_as s bytes (cond w (cond t (Err refusal.CounterFull) (set_arrival input pid bytes)) (Err refusal.NotWhole))) (guarded w t (seen s) (read_section input pid bytes))
      go false t p q = record { told = refl; shown = refl; reached = y }
      go true true p q = record { told = refl; shown = refl; reached = y }
      go true false p q =
          let d = evictions_go_on s.sets false (sym q) refl in
          let e = clock_goes_on s.sets false (sym q) refl in
          let c = z.counts in
          let k = z.ticks in
          pid_tied s y (whole_means s p) (omega arith) (omega arith) bytes o input pid

  -- every call
  pub tied : (i : Given) → OfBytes i → Tied (called s i) (call (seen s) (reads i))
  unfolding reads
  tied clears o = clear_tied s z
  tied (section input pid bytes) o = push_tied input pid bytes o
