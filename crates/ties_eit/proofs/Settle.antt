-- A row becomes the newest, and its set stays, goes out, is out of range, or enters its schedule. What the store does is what the rules do.
-- Assumes nothing.
use mathlib.Core.Path.{◌≡◌, refl, sym, ap, subst, ◌∙◌}
use mathlib.Core.Logic.{◌≢◌}
use mathlib.Core.Bool.{Bool, true, false, cond, not, ◌&&◌}
use mathlib.Core.Option.{Option, some}
use mathlib.Core.List.{List, [], ◌∷◌, ◌++◌, map}
use Prim.Native.Nat.{ℕ, suc, ◌+◌, ◌-◌, ◌*◌, ◌≤◌, ◌<◌}
use native.Mathlib.Decide.{ℕ_discrete}
use native.Mathlib.Omega.{arith}
use native.Mathlib.Numerals.{add-one}
use borrow.Author.Tests.{lt-ltb, le-ltb, lt-leb, le-leb, ltb-true, ltb-false}
use lib.Dec.{eqb, ltb, leb}
use lib.ListN.{length}
use Rattle.rules_shared.specs.Touch.{Rows, TouchOrder, under, find, newest}
use Rattle.rules_shared.specs.Row.{marked}
use Rattle.rules_shared.specs.Cells.{Held, Cells, bytes_of}
use Rattle.rules_eit.specs.Keys.{Kind, kind_of, first_of, kind_number, ScheduleKey, SetKey, same_schedule, same_set}
use Rattle.rules_eit.specs.Segments.{SetOf, complete}
use Rattle.rules_eit.specs.Schedules.{CopyOf, ScheduleOf, copy_of, whole, begin, enter, all_tables}
use Rattle.answers.specs.declared.Refusal.TheVariants as refusal
use Rattle.rules_eit.specs.Rules.{EitOf, handout, gives, set_aside, set_newest, schedule_touched, told, ranged, ready, judged, judge, refused}
use Rattle.rules_eit.specs.Cells.{Store as Shown, Turn, on_whole, on_answer, shows, rest, risen}
use Rattle.rules_eit.proofs.Keys.{same_set_true, same_schedule_true}
use Rattle.cells.specs.Cells.{all_whole, kept}
use Rattle.rows.specs.declared.Key.{Key}
use Rattle.rows.specs.Rows.{table_word, word, key_at, touched, row_slots, rows_whole, last_of, mark_of, version_of, with_mark}
use Rattle.rows.proofs.Words.{OfKey, of_key, put_same, put_not, put_row, length_put, length_touched, touched_not}
use Rattle.rows.proofs.Whole.{rows_get, rows_all}
use Rattle.ticks.specs.Order.{order_seen, Goes, Touched}
use Rattle.ticks.specs.Slots.{cells_seen}
use Rattle.ticks.proofs.Words.{ready_touched, put_touched, key_same}
use Rattle.ticks.proofs.Slots.{slots_same}
use Rattle.ticks.proofs.Touch.{goes_row, goes_in, goes_out_lem, stands_later, seen_later, touched_seen, touched_stands}
use Rattle.arrivals.specs.Arrivals.{Numbered}
use Rattle.segments.specs.Segments.{word_of, set_complete}
use Rattle.schedules.specs.Schedules.{schedules_whole}
use Rattle.arrivals.specs.declared.Arrival.{Arrival}
use Rattle.eit_state.specs.declared.Eit.{Eit}
use Rattle.eit_becomes.specs.declared.Becomes.{Becomes}
use Rattle.eit_becomes.specs.declared.Becomes.TheVariants as becomes
use Rattle.eit_state.specs.State.{Store, store, rows, rows_of, Whole, settings_fit, with_sets, risen_eit}
use Rattle.eit_becomes.specs.Becoming.{becomes_of, is_marked}
use Rattle.eit_settle.specs.Settle.{marked_heads, settled_as, settled}
use Rattle.eit_enter.specs.Entering.{entered}
use Rattle.eit.specs.Store as eit
use Rattle.readers.specs.Next.{filled_slots}
use Rattle.eit.specs.Store.{After, after, a_set, set_out_lem}
use Rattle.ties_eit.specs.View.{the_kind, key_shown, schedule_shown, key_words, schedule_words, row_seen, schedule_seen, seen, answer_told, HeadFits, Reached}
use Rattle.ties_eit.proofs.Keys.{set_self, schedule_self, HasPid, Bit, key_reads, Kinds, present, scheduled, kinds, InKind}
use Rattle.ties_eit.proofs.Rows.{row_same, row_marked, complete_is, sections_kept}
use Rattle.ties_eit.proofs.Entered.{Tied, after_settled, Entering, enter_tied}

-- what a section that is taken has
pub record Arrives (a : Arrival) (kind : Kind) : Type 0 where
  pub numbered : Numbered a.entry
  pub version : a.entry.version < 4294967296
  pub pid : HasPid a.entry.key
  pub bit : Bit a.entry.key.current_next
  pub table : kind_of a.entry.key.table_id ≡ some kind
  pub number : a.kind ≡ kind_number kind
  pub segment : 0 < a.segment

-- a row other than the newest
find_before : {R : Type 0} (k k' : SetKey) (r : R) → same_set k k' ≡ false → (rows : Rows SetKey R) → find same_set k (rows ++ (under k' r ∷ [])) ≡ find same_set k rows
unfolding find
find_before k k' r e [] = rw e
find_before {R} k k' r e (x ∷ xs) = ap (λ (o : Option R). cond (same_set k x.key) (some x.row) o) (find_before k k' r e xs)

find_newest : {R : Type 0} (k k' : SetKey) (r : R) (t : TouchOrder SetKey R) → same_set k k' ≡ false → find same_set k (newest k' r t).rows ≡ find same_set k t.rows
unfolding newest
find_newest k k' r t e = find_before k k' r e t.rows

pub head_same : (heads heads' : List ℕ) (j : ℕ) → table_word heads' j ≡ table_word heads j → version_of heads' j ≡ version_of heads j → last_of heads' j ≡ last_of heads j → HeadFits heads j → HeadFits heads' j
head_same heads heads' j a b c f = record { version = rw b f.version; last = rw c f.last; kind = rw a f.kind }

-- heads, slots and cells with row i made ready for the key; no other row in use differs
pub record Ready (s : Store) (used₁ evictions₁ : ℕ) (heads₁ slots₁ cells₁ : List ℕ) (key : Key) (i : ℕ) : Type 0 where
  pub fits : settings_fit (with_sets s.eit used₁ evictions₁) (length heads₁) (length slots₁) (length cells₁) (length s.schedule_heads) (length s.units) ≡ true
  pub counts : evictions₁ ≤ 18446744073709551615
  pub long : used₁ * 12 ≤ length heads₁
  pub slots_long : used₁ * 288 ≤ length slots₁
  pub own : key_at heads₁ i ≡ key
  pub head_fits : HeadFits heads₁ i
  pub others : (j m : ℕ) → j < used₁ → j ≢ i → m < 12 → word heads₁ j m ≡ word s.heads j m
  pub slots : (j : ℕ) → j < used₁ → j ≢ i → row_slots heads₁ slots₁ j ≡ row_slots s.heads s.slots j
  pub segments : (j n : ℕ) → j < used₁ → j ≢ i → n < 32 → word_of slots₁ j n ≡ word_of s.slots j n
  pub rows_ok : rows_whole heads₁ slots₁ s.eit.sets.count s.eit.sets.size used₁ ≡ true

module _ (s : Store) (z : Reached s) (f : Whole s)
    (units_ok : schedules_whole s.schedule_heads s.units s.eit.sets.count s.eit.sets.size s.eit.schedules ≡ true) (more : s.eit.schedule_evictions < 18446744073709551615) (runs : s.eit.sets.clock < 18446744073709551615) (pos : 0 < s.eit.sets.limit)
    (a : Arrival) (kind : Kind) (arr : Arrives a kind) (used₁ evictions₁ : ℕ) (heads₁ slots₁ cells₁ : List ℕ) (i : ℕ)
    (g : Goes s.heads s.eit.sets.limit s.eit.sets.used s.eit.sets.evictions a.entry.key i used₁ evictions₁)
    (r : Ready s used₁ evictions₁ heads₁ slots₁ cells₁ a.entry.key i) where
  abbrev key : Key
  key = a.entry.key

  abbrev k : SetKey
  k = key_shown key

  -- the clock from then on
  abbrev now : ℕ
  now = s.eit.sets.clock + 1

  abbrev newer : List ℕ
  newer = touched now i heads₁

  abbrev eit₁ : Eit
  eit₁ = risen_eit (with_sets s.eit used₁ evictions₁)

  -- the heads that are left, with the mark set or not
  abbrev left_heads : Bool → List ℕ
  left_heads b = cond b (with_mark i 1 newer) newer

  abbrev left_store : Bool → Store
  left_store b = store eit₁ (left_heads b) slots₁ cells₁ s.schedule_heads s.units

  abbrev row_there : SetOf Held
  row_there = row_seen heads₁ slots₁ i

  abbrev row_left : Bool → SetOf Held
  row_left b = cond b (marked row_there) row_there

  -- what stays beside the key's row, as the rules leave it
  abbrev beside : EitOf Held
  beside = rest (seen s) k

  abbrev cells_there : Cells
  cells_there = cells_seen cells₁ s.eit.sets.size s.eit.sets.count

  proper : key_words (key_shown key) ≡ key
  proper = key_reads key arr.pid arr.bit

  rise : s.eit.sets.clock < now
  rise = omega arith

  hi : i < used₁
  hi = goes_row g

  left_length : (b : Bool) → length (left_heads b) ≡ length heads₁
  left_length true = length_put i 8 1 newer ∙ length_touched now i heads₁
  left_length false = length_touched now i heads₁

  -- all but ticks and the row's mark stays
  left_words : (b : Bool) (j m : ℕ) → m < 12 → m ≢ 8 → m ≢ 9 → word (left_heads b) j m ≡ word heads₁ j m
  left_words true j m l n8 n9 = put_not newer i 8 1 j m n8 (omega arith) l ∙ touched_not now i heads₁ j m n9 l
  left_words false j m l n8 n9 = touched_not now i heads₁ j m n9 l

  left_other : (b : Bool) (j m : ℕ) → j ≢ i → m < 12 → m ≢ 9 → word (left_heads b) j m ≡ word heads₁ j m
  left_other true j m ne l n9 = put_row newer i 8 1 j m ne (omega arith) l ∙ touched_not now i heads₁ j m n9 l
  left_other false j m ne l n9 = touched_not now i heads₁ j m n9 l

  newer_touched : Touched s.heads newer key i now used₁
  newer_touched = ready_touched s.heads heads₁ key i now used₁ r.long hi r.own r.others

  left_touched : (b : Bool) → Touched s.heads (left_heads b) key i now used₁
  left_touched true = put_touched s.heads newer key i now used₁ i 8 1 newer_touched (λ m q. (of_key m q).no_mark) (omega arith) (omega arith)
  left_touched false = newer_touched

  left_row : (b : Bool) (j : ℕ) → j < s.eit.sets.used → j ≢ i → j < used₁ → row_seen (left_heads b) slots₁ j ≡ row_seen s.heads s.slots j
  left_row b j l ne h =
      row_same s.heads (left_heads b) s.slots slots₁ j (λ m p q. left_other b j m ne (omega arith) (omega arith) ∙ r.others j m h ne (omega arith))
      (slots_same heads₁ (left_heads b) slots₁ j (left_other b j 7 ne (omega arith) (omega arith)) ∙ r.slots j h ne) (λ n q. r.segments j n h ne q)

  own_row : (b : Bool) → row_seen (left_heads b) slots₁ i ≡ row_left b
  own_row true =
      let e = length_touched now i heads₁ in
      let l = r.long in
      let h = hi in
      row_marked heads₁ (left_heads true) slots₁ i (left_words true i 6 (omega arith) (omega arith) (omega arith)) (left_words true i 7 (omega arith) (omega arith) (omega arith))
      (put_same newer i 8 1 (omega arith))
  own_row false =
      row_same heads₁ newer slots₁ slots₁ i (λ m p q. touched_not now i heads₁ i m (omega arith) (omega arith))
      (slots_same heads₁ newer slots₁ i (touched_not now i heads₁ i 7 (omega arith) (omega arith))) (λ n q. refl)

  left_sets : (b : Bool) → order_seen key_shown (left_heads b) used₁ now evictions₁ (row_seen (left_heads b) slots₁) ≡ newest k (row_left b) beside.sets
  unfolding seen rest set_aside
  left_sets b =
      touched_seen key_shown key_words same_set same_set_true set_self s.heads s.eit.sets.limit s.eit.sets.used s.eit.sets.clock now s.eit.sets.evictions key z.sets rise proper (row_seen s.heads s.slots)
      (left_heads b) (row_seen (left_heads b) slots₁) g (left_touched b) (λ j l ne. let m = goes_in g in left_row b j l ne (omega arith))
      ∙ ap (λ (q : SetOf Held). newest k q beside.sets) (own_row b)

  -- no schedule is touched
  left_schedules : (seen (left_store true)).eit.schedules ≡ (seen s).eit.schedules
  unfolding seen
  left_schedules =
      ap (λ (q : Rows ScheduleKey (ScheduleOf Held)). record { rows = q; evicted = s.eit.schedule_evictions })
      (seen_later schedule_shown schedule_words same_schedule same_schedule_true schedule_self s.schedule_heads s.eit.schedules s.eit.sets.clock now (omega arith) z.schedules (schedule_seen s.schedule_heads s.units))

  abbrev left_shown : Bool → Shown
  left_shown b = record { settings = (seen s).settings; eit = set_newest k (row_left b) beside; cells = cells_there; clock = suc (seen s).clock }

  left_shown_lem : (b : Bool) → seen (left_store b) ≡ left_shown b
  unfolding seen rest set_aside set_newest
  left_shown_lem b =
      let q = left_sets b in
      let p = left_schedules in
      let n = add-one s.eit.sets.clock in
      λ t. record { settings = (seen s).settings; eit = record { sets = q t; schedules = p t }; cells = cells_there; clock = n t }

  left_fits : (b : Bool) (j : ℕ) → j < used₁ → HeadFits (left_heads b) j
  left_fits b j l =
      head_same heads₁ (left_heads b) j (left_words b j 1 (omega arith) (omega arith) (omega arith)) (left_words b j 6 (omega arith) (omega arith) (omega arith))
      (left_words b j 7 (omega arith) (omega arith) (omega arith)) (go (ℕ_discrete j i))
    where
      go : Dec (j ≡ i) → HeadFits heads₁ j
      go (yes q) = subst (HeadFits heads₁) (sym q) r.head_fits
      go (no ne) =
          head_same s.heads heads₁ j (r.others j 1 l ne (omega arith)) (r.others j 6 l ne (omega arith)) (r.others j 7 l ne (omega arith)) (z.heads_fit j (goes_out_lem g j l ne))

  left_reached : (b : Bool) → Reached (left_store b)
  left_reached b = record {
    fits = rw (left_length b) r.fits;
    counts = r.counts;
    ticks = omega arith;
    schedule_counts = z.schedule_counts;
    heads_fit = left_fits b;
    sets = touched_stands key_shown key_words same_set same_set_true set_self s.heads s.eit.sets.limit s.eit.sets.used s.eit.sets.clock now s.eit.sets.evictions key z.sets rise proper (left_heads b) g (left_touched b);
    schedules =
        stands_later schedule_shown schedule_words same_schedule same_schedule_true schedule_self s.schedule_heads s.eit.schedules s.eit.sets.clock now (omega arith) z.schedules;
  }

  -- ---- a present/following set goes out

  row_ok : (j : ℕ) → j < used₁ → all_whole s.eit.sets.count s.eit.sets.size (row_slots heads₁ slots₁ j) ≡ true
  row_ok j l = rows_get heads₁ slots₁ s.eit.sets.count s.eit.sets.size used₁ j r.rows_ok l

  set_out : answer_told (a_set (set_out_lem (left_store true) i)) ≡ on_answer (bytes_of cells_there) (handout (whole k (copy_of row_there)))
  unfolding answer_told set_out_lem on_answer on_whole whole copy_of row_seen
  set_out =
      let e : (m : ℕ) → m < 8 → word (left_heads true) i m ≡ word heads₁ i m = λ m l. left_words true i m (omega arith) (omega arith) (omega arith) in
      let q : key_at (left_heads true) i ≡ key = key_same heads₁ (left_heads true) i (λ m o. left_words true i m (of_key m o).below (of_key m o).no_mark (of_key m o).no_tick) ∙ r.own in
      let v = e 6 (omega arith) in
      let l = e 7 (omega arith) in
      let c = ap (λ (ws : List ℕ). map (kept cells₁ s.eit.sets.size) (filled_slots ws)) (slots_same heads₁ (left_heads true) slots₁ i l)
      ∙ sym (sections_kept cells₁ s.eit.sets.size s.eit.sets.count (row_slots heads₁ slots₁ i) (row_ok i hi)) in
      λ t. handout (record { key = key_shown (q t); version = v t; last = l t; sections = c t })

  -- ---- a set goes into its schedule

  abbrev l : ScheduleKey
  l = k.schedule

  abbrev table : ℕ
  table = key.table_id

  left_rows : rows_whole (left_heads true) slots₁ s.eit.sets.count s.eit.sets.size used₁ ≡ true
  left_rows =
      rows_all (left_heads true) slots₁ s.eit.sets.count s.eit.sets.size used₁ (λ j q.
      rw (slots_same heads₁ (left_heads true) slots₁ j (left_words true j 7 (omega arith) (omega arith) (omega arith))) (row_ok j q))

  -- what the rules make of it, over what is shown then and the copy that goes in
  abbrev turn_of : (first : ℕ) → Shown → CopyOf Held → Turn
  turn_of first t c =
      shows t t.cells
      (let q : ScheduleOf Held = enter (table - first) c (begin beside.sets.rows l first a.tables (find same_schedule l t.eit.schedules.rows)) in
      gives (told l first q (all_tables first q)) (schedule_touched s.eit.sets.limit l q t.eit))

  module _ (first : ℕ) (in_kind : InKind kind first table) (range : table ≤ a.tables) where
    entering : Entering (left_store true) a kind first i
    entering = record {
      in_kind = in_kind;
      table = arr.table;
      number = arr.number;
      pid = arr.pid;
      bit = arr.bit;
      range = range;
      row = hi;
      limit = pos;
      heads_long = rw (left_length true) r.long;
      slots_long = r.slots_long;
      schedule_heads_long = f.schedule_heads_long;
      units_long = f.units_long;
      few = f.schedules;
      counts = more;
      rows_ok = left_rows;
      units_ok = units_ok;
      was = s.eit.sets.clock;
      rise = rise;
      stood = z.schedules;
    }

    others_found : (q : SetKey) → same_set q k ≡ false → find same_set q beside.sets.rows ≡ find same_set q (seen (left_store true)).eit.sets.rows
    unfolding set_newest
    others_found q e =
        sym (ap (λ (o : TouchOrder SetKey (SetOf Held)). find same_set q o.rows) (ap (λ (t : Shown). t.eit.sets) (left_shown_lem true)) ∙ find_newest q k (marked row_there) beside.sets e)

    entering_tied : Tied (after_settled (entered (rows_of (left_store true)) a i) cells₁)
        (turn_of first (seen (left_store true)) (copy_of (row_seen (left_heads true) slots₁ i)))
    unfolding seen shows rest set_aside
    entering_tied = enter_tied (left_store true) (left_reached true) a kind first i entering beside.sets.rows others_found

    copy_marked : copy_of (row_seen (left_heads true) slots₁ i) ≡ copy_of row_there
    unfolding copy_of marked
    copy_marked = ap copy_of (own_row true)

    enters_tied : Tied (after_settled (entered (rows_of (left_store true)) a i) cells₁)
        (turn_of first (left_shown true) (copy_of row_there))
    enters_tied =
        let p = left_shown_lem true in
        let q = copy_marked in
        subst (Tied (after_settled (entered (rows_of (left_store true)) a i) cells₁)) (λ t. turn_of first (p t) (q t)) entering_tied

  -- ---- what becomes of the set

  kind_is : l.kind ≡ kind
  unfolding key_shown
  kind_is = ap the_kind arr.table

  complete_there : set_complete newer slots₁ i ≡ complete row_there
  unfolding set_complete
  complete_there =
      rw (touched_not now i heads₁ i 7 (omega arith) (omega arith))
      (sym (complete_is heads₁ slots₁ i (let p = hi in let q = r.slots_long in omega arith) r.head_fits.last))

  abbrev settled_by : Becomes → After
  settled_by b = after_settled (settled_as b (rows eit₁ (marked_heads (is_marked b) i newer) slots₁ s.schedule_heads s.units) a i) cells₁

  -- a complete set that is not marked
  ready_tied : Tied (settled_by (cond (ltb a.kind 2) becomes.GoesOut (cond (ltb a.tables table) becomes.OutOfRange becomes.Enters)))
      (shows (risen (seen s)) cells_there (ready s.eit.sets.limit beside k a.tables row_there (first_of l.kind)))
  unfolding ready ranged shows key_shown answer_told on_answer rest set_newest
  ready_tied =
      subst (λ (q : Kind). Tied (settled_by (cond (ltb a.kind 2) becomes.GoesOut (cond (ltb a.tables table) becomes.OutOfRange becomes.Enters)))
      (shows (risen (seen s)) cells_there (ready s.eit.sets.limit beside k a.tables row_there (first_of q)))) (sym kind_is) (go (kinds table kind arr.table))
    where
      fits : (first : ℕ) → InKind kind first table → (b : Bool) → ltb a.tables table ≡ b
          → Tied (settled_by (cond b becomes.OutOfRange becomes.Enters)) (shows (risen (seen s)) cells_there (ranged s.eit.sets.limit beside k row_there first (leb table a.tables)
          (enter (table - first) (copy_of row_there) (begin beside.sets.rows l first a.tables (find same_schedule l beside.schedules.rows)))))
      fits first in_kind true q =
          rw (lt-leb table a.tables (ltb-true a.tables table q)) (record { told = refl; shown = left_shown_lem false; reached = left_reached false })
      fits first in_kind false q =
          let m = ltb-false a.tables table q in
          rw (le-leb table a.tables m) (enters_tied first in_kind m)

      go : Kinds table kind → Tied (settled_by (cond (ltb a.kind 2) becomes.GoesOut (cond (ltb a.tables table) becomes.OutOfRange becomes.Enters)))
          (shows (risen (seen s)) cells_there (ready s.eit.sets.limit beside k a.tables row_there (first_of kind)))
      go (present e lt) =
          let n = arr.number in
          rw (e, lt-ltb a.kind 2 (omega arith)) (record { told = set_out; shown = left_shown_lem true; reached = left_reached true })
      go (scheduled first in_kind) =
          let n = arr.number in
          let m = in_kind.number in
          rw (in_kind.first_of_lem, le-ltb a.kind 2 (omega arith)) (fits first in_kind (ltb a.tables table) refl)

  pub settle_tied : Tied (after_settled (settled (rows eit₁ heads₁ slots₁ s.schedule_heads s.units) a i) cells₁)
      (shows (risen (seen s)) cells_there (judge s.eit.sets.limit beside k a.tables row_there))
  unfolding settled becomes_of judge judged shows answer_told on_answer row_seen
  settle_tied = rw (touched_not now i heads₁ i 8 (omega arith) (omega arith), complete_there) (go (eqb (mark_of heads₁ i) 0) (complete row_there))
    where
      go : (m c : Bool) → Tied (settled_by (cond (m && c) (cond (ltb a.kind 2) becomes.GoesOut (cond (ltb a.tables table) becomes.OutOfRange becomes.Enters)) becomes.Stays))
          (shows (risen (seen s)) cells_there (judged s.eit.sets.limit beside k a.tables row_there (not m) c))
      go true true = ready_tied
      go true false = record { told = refl; shown = left_shown_lem false; reached = left_reached false }
      go false c = record { told = refl; shown = left_shown_lem false; reached = left_reached false }

  pub conflict_tied : Tied (after (eit.refused refusal.Conflict) (store eit₁ newer slots₁ cells₁ s.schedule_heads s.units))
      (shows (risen (seen s)) cells_there (gives (refused refusal.Conflict) (set_newest k row_there beside)))
  unfolding shows answer_told on_answer
  conflict_tied = record { told = refl; shown = left_shown_lem false; reached = left_reached false }
