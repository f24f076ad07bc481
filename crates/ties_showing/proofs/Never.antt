-- In every history of opening, pushes, drops and clears, 18 and 19 do not come from a question for the events of a set or of a table: each section that is kept was read as
-- an EIT before.
-- Assumes nothing.
use mathlib.Core.Path.{◌≡◌, refl, sym, ap, ◌∙◌, subst}
use mathlib.Core.Logic.{◌≢◌}
use mathlib.Core.Bool.{Bool, true, false, cond, ◌&&◌, true≢false}
use mathlib.Core.Option.{Option, none, some, some-injective}
use mathlib.Core.List.{List, [], ◌∷◌, map}
use Prim.Native.Nat.{ℕ, zero, suc, ◌+◌, ◌*◌, ◌-◌, ◌≤◌, ◌<◌}
use native.Mathlib.Nat.{zero-add}
use native.Mathlib.Omega.{arith}
use lib.Dec.{ltb, eqb}
use lib.ListN.{length, get_or, take, drop}
use borrow.Author.Tests.{lt-ltb, eqb-false, not-true}
use Rattle.laws.specs.Lists.{every}
use Rattle.laws.specs.Runs.{store_after}
use Rattle.laws.proofs.Runs.{each_read}
use Rattle.laws.proofs.Tests.{and_true, none≢some}
use Rattle.answers.specs.declared.Refusal.TheVariants as refusal
use Rattle.rules_shared.specs.Same.{Bytes, Origin}
use Rattle.rules_shared.specs.Slots.{every_held}
use Rattle.rules_shared.specs.Touch.{every_row, under}
use Rattle.rules_shared.specs.Cells.{Held, Cells, bytes_of}
use Rattle.rules_shared.proofs.All.{all_every}
use Rattle.rules_eit.specs.Keys.{Kind, kind_of}
use Rattle.rules_eit.specs.Segments.{SetOf}
use Rattle.rules_eit.specs.Schedules.{CopyOf, ScheduleOf}
use Rattle.rules_eit.specs.Rules.{refuse}
use Rattle.rules_eit.proofs.Checked.{copy_ok}
use Rattle.section.specs.Header.{byte_at}
use Rattle.section.specs.Judged.{collected_of}
use Rattle.section.specs.declared.header.Header.{Header}
use Rattle.std.specs.Prelude.{Some, None, Result, Ok, Err}
use Rattle.answers.specs.declared.Refusal.{Refusal}
use Rattle.eit_section.specs.declared.Eit.{Eit}
use Rattle.eit_section.specs.Eit.{eit_of}
use Rattle.eit_section.specs.Eit.{kind_of as kind_read}
use Rattle.cells.specs.Cells.{kept_length, cell_number, filled, kept, slot_whole, all_whole}
use Rattle.rows.specs.Rows.{key_at, row_slots, tick_of}
use Rattle.rows.proofs.Whole.{rows_get}
use Rattle.placing.proofs.Fits.{slot_bounds}
use Rattle.segments.specs.Segments.{word_of}
use Rattle.units.specs.Units.{is_present, unit_slots}
use Rattle.schedules.specs.Schedules.{tables_of}
use Rattle.ticks.specs.Order.{rows_seen}
use Rattle.ticks.specs.Slots.{held_of, held_slots, up_from, cells_seen}
use Rattle.ticks.proofs.Ticks.{every_order}
use Rattle.ticks.proofs.Slots.{place, held_filled}
use Rattle.ticks.proofs.Cells.{up_get, bytes_kept}
use Rattle.eit_state.specs.State.{Store, whole_of}
use Rattle.eit_state.proofs.Whole.{whole_store}
use Rattle.ties_eit.specs.View.{key_shown, schedule_shown, row_seen, copy_seen, place_seen, schedule_seen, seen, Given, clears, drops, section, reads, reads_eit, reads_as, read_on, read_section, section_of, acts, Opened, Reached}
use Rattle.ties_eit.proofs.Arrivals.{Read-as, not_eit, broken, good, read_as_lem, not_kind}
use Rattle.ties_eit.proofs.Pids.{each_has_pid}
use Rattle.ties_eit.proofs.History.{opened_reached, opened_seen, EachFitting, same_store, opened_whole, always_whole}
use Rattle.listing.specs.Store as walks
use Rattle.shown_sections.specs.declared.ShowAnswer.{ShowAnswer}
use Rattle.shown_sections.specs.declared.ShowAnswer.TheVariants.{Yes, No, Refused, Past}
use Rattle.shown_sections.specs.declared.Shown.{Shown}
use Rattle.shown_sections.specs.Shown as shown
use Rattle.shown_sections.specs.Shown.{Show, End, finished, no_eit, past_loop, end_by, good_show, show_by, section_show, and_then, end_then, slot_show, slots_show, show_number, nothing_shown, reached_as, told_by, laid}
use Rattle.handed.specs.Handed.{set_out_lem}
use Rattle.showing.specs.Store.{table_out, shown_set, shown_table}
use Rattle.handed.proofs.Ways.{in_use}
use Rattle.showing.proofs.Held.{there, tables_few, table_present, table_whole}
use Rattle.ties_showing.proofs.Kept.{ok_in, Sound, GoodCall, opened_sound, always_sound}

-- ---- a section that is read as an EIT

is_good : Result Eit Refusal → Bool
is_good (Err r) = false
is_good (Ok f) = true

reads_good : Bytes → Bool
reads_good bytes = is_good (eit_of bytes)

-- neither 18 nor 19
abbrev ends_read : End → Bool
ends_read finished = true
ends_read (no_eit s) = false
ends_read (shown.broken s) = false
ends_read (past_loop s p) = true

-- ---- every section that is offered and of an EIT's table_id reads so

no_kind : (s : List ℕ) (r : Result Eit Refusal) → Read-as s r → r ≡ Err refusal.NotEit → kind_read (byte_at s 0) ≡ None
no_kind s r (not_eit e) q = e
no_kind s r broken q = absurd (let z : ◌≡◌ {A = ℕ} 0 1 = cc in omega arith)
no_kind s r (good x e) q = absurd (let z : ◌≡◌ {A = ℕ} 0 1 = cc in omega arith)

eit_good : (from : Origin) (bytes : Bytes) (h : Header) → collected_of bytes ≡ Ok h → (r : Result Eit Refusal) → eit_of bytes ≡ r → GoodCall reads_good (reads_eit from bytes h r)
unfolding reads_eit section_of reads_good is_good
eit_good from bytes h e (Err refusal.NotEit) q = λ kind k. absurd (none≢some (not_kind bytes h e (no_kind bytes (eit_of bytes) (read_as_lem bytes) q)) k)
eit_good from bytes h e (Err r) q = tt
eit_good from bytes h e (Ok f) q = λ kind k. ap is_good q

read_good : (from : Origin) (bytes : Bytes) (c : Result Header Refusal) → collected_of bytes ≡ c → GoodCall reads_good (reads_as from bytes c)
unfolding reads_as
read_good from bytes (Err refusal.ShortForm) e = tt
read_good from bytes (Err r) e = tt
read_good from bytes (Ok h) e = eit_good from bytes h e (eit_of bytes) refl

on_good : (from : Origin) (bytes : Bytes) → GoodCall reads_good (read_on from bytes)
on_good from bytes = pick (ltb from.input 16)
  where
    pick : (b : Bool) → GoodCall reads_good (cond b (reads_as from bytes (collected_of bytes)) (refuse refusal.BadInput refl))
    pick true = read_good from bytes (collected_of bytes) refl
    pick false = tt

reads_good_lem : (i : Given) → GoodCall reads_good (reads i)
unfolding reads read_section
reads_good_lem clears = tt
reads_good_lem (drops f) = tt
reads_good_lem (section input None bytes) = tt
reads_good_lem (section input (Some p) bytes) = pick (ltb p 8192)
  where
    pick : (b : Bool) → GoodCall reads_good (cond b (read_on (record { input = input; pid = p }) bytes) (refuse refusal.BadPid refl))
    pick true = on_good (record { input = input; pid = p }) bytes
    pick false = tt

-- ---- what a history leaves

record Left (s : Store) : Type 0 where
  reached : Reached s
  sound : Sound reads_good (seen s)
  whole : whole_of s ≡ true

left : (s : Store) → Opened s → (calls : List Given) → EachFitting calls → Left (store_after acts s calls)
left s o calls f =
    let q = same_store calls f s (opened_reached s o) in
    let w = always_whole calls f s (opened_reached s o) (opened_whole s o) in
    record {
      reached = q.1;
      sound = subst (Sound reads_good) (sym q.0) (always_sound reads_good (seen s) (opened_sound reads_good (seen s) (opened_seen s o)) (map reads calls) (each_read (GoodCall reads_good) reads reads_good_lem calls));
      whole = w.1;
    }

-- ---- the slots of a row, and how their listing ends

ends_good : (number start : ℕ) (f : walks.Found) → ends_read (end_by number start f) ≡ true
unfolding end_by
ends_good number start walks.done = refl
ends_good number start (walks.past at) = refl
ends_good number start (walks.entry at header f) = ends_good number start f
ends_good number start (walks.descriptor at tag size f) = ends_good number start f

by_good : (bytes : List ℕ) (start size number : ℕ) (x : Result Eit Refusal) → is_good x ≡ true → ends_read (show_by bytes start size number x).end ≡ true
unfolding is_good good_show
by_good bytes start size number (Err refusal.NotEit) h = h
by_good bytes start size number (Err r) h = h
by_good bytes start size number (Ok f) h = ends_good number start _

section_good : (bytes : List ℕ) (start size number : ℕ) → reads_good (take size (drop start bytes)) ≡ true → ends_read (section_show bytes start size number).end ≡ true
unfolding section_show reads_good
section_good bytes start size number h = by_good bytes start size number (eit_of (take size (drop start bytes))) h

then_good : (e : End) (a b : Show) → a.end ≡ e → ends_read e ≡ true → ends_read b.end ≡ true → ends_read (end_then e a b).end ≡ true
then_good finished a b q h l = l
then_good (no_eit s) a b q h l = absurd (true≢false (sym h))
then_good (shown.broken s) a b q h l = absurd (true≢false (sym h))
then_good (past_loop s p) a b q h l = ap ends_read q

module _ (bytes : List ℕ) (size count : ℕ) where
  abbrev passes : Held → Bool
  passes h = reads_good (bytes_of (cells_seen bytes size count) h)

  slot_good : (w number : ℕ) (b : Bool) → filled w ≡ b → slot_whole count size w ≡ true → every_held passes (cond b (some (place w)) none ∷ []) ≡ true
      → ends_read (cond b (section_show bytes (cell_number w * size) (kept_length w) number) (shown.show [] finished)).end ≡ true
  unfolding every_held
  slot_good w number false e h g = refl
  slot_good w number true e h g =
      let k = slot_bounds count size w h (eqb-false (kept_length w) 0 (not-true (eqb (kept_length w) 0) e)) in
      let p = (and_true (passes (place w)) true g).0 in
      section_good bytes (cell_number w * size) (kept_length w) number (rw (bytes_kept bytes size count w k.1 k.0) at p)

  parts : (o : Option Held) (os : List (Option Held)) → every_held passes (o ∷ os) ≡ true → (every_held passes (o ∷ []) ≡ true) × (every_held passes os ≡ true)
  unfolding every_held
  parts none os h = (refl, h)
  parts (some a) os h = let q = and_true (passes a) (every_held passes os) h in (rw q.0 refl, q.1)

  slots_good : (ws : List ℕ) (number : ℕ) → all_whole count size ws ≡ true → every_held passes (held_slots ws) ≡ true → ends_read (slots_show bytes size ws number).end ≡ true
  unfolding slots_show slot_show held_slots held_of every
  slots_good [] number w g = refl
  slots_good (x ∷ ws) number w g =
      let a = and_true (slot_whole count size x) (all_whole count size ws) w in
      let q = parts (held_of x) (held_slots ws) g in
      then_good (slot_show bytes size x number).end (slot_show bytes size x number) (slots_show bytes size ws (number + 1)) refl
      (slot_good x number (filled x) refl a.0 q.0) (slots_good ws (number + 1) a.1 q.1)

held_get : {A : Type 0} (test : A → Bool) (ss : List (Option A)) (n : ℕ) (a : A) → every_held test ss ≡ true → get_or ss n none ≡ some a → test a ≡ true
unfolding every_held
held_get test [] n a h e = absurd (none≢some refl e)
held_get test (none ∷ ss) zero a h e = absurd (none≢some refl e)
held_get test (none ∷ ss) (suc n) a h e = held_get test ss n a h e
held_get test (some b ∷ ss) zero a h e = subst (λ x. test x ≡ true) (some-injective b a e) (and_true (test b) (every_held test ss) h).0
held_get test (some b ∷ ss) (suc n) a h e = held_get test ss n a (and_true (test b) (every_held test ss) h).1 e

-- an answer is neither 18 nor 19
abbrev pub Neither : ShowAnswer → Type 0
Neither a = (show_number a ≢ 18) × (show_number a ≢ 19)

told_answers : (skip n : ℕ) (e : End) → ends_read e ≡ true → Neither (told_by skip (reached_as n e)).answer
told_answers skip n finished h = go (ltb skip n)
  where
    go : (b : Bool) → Neither (cond b Yes No)
    go true = (λ (q : ◌≡◌ {A = ℕ} 8 18). omega arith, λ (q : ◌≡◌ {A = ℕ} 8 19). omega arith)
    go false = (λ (q : ◌≡◌ {A = ℕ} 9 18). omega arith, λ (q : ◌≡◌ {A = ℕ} 9 19). omega arith)
told_answers skip n (no_eit s) h = absurd (true≢false (sym h))
told_answers skip n (shown.broken s) h = absurd (true≢false (sym h))
told_answers skip n (past_loop s p) h = (λ (q : ◌≡◌ {A = ℕ} 32 18). omega arith, λ (q : ◌≡◌ {A = ℕ} 32 19). omega arith)

laid_answers : (skip : ℕ) (s : Show) (list : List ℕ) → ends_read s.end ≡ true → Neither (laid skip s list).0.answer
unfolding laid
laid_answers skip s list h = told_answers skip (length s.entries) s.end h

-- ---- the rows and tables of a store that a history left

module _ (s : Store) (l : Left s) where
  abbrev test : Held → Bool
  test = passes s.cells s.eit.sets.size s.eit.sets.count

  row_good : (row : ℕ) → row < s.eit.sets.used → every_held (test) (held_slots (row_slots s.heads s.slots row)) ≡ true
  unfolding seen row_seen rows_seen
  row_good row h =
      every_order (tick_of s.heads) s.eit.sets.used s.eit.sets.clock l.reached.sets.ticks
      (λ (i : ℕ). under (key_shown (key_at s.heads i)) (row_seen s.heads s.slots i)) (λ (r : SetOf Held). every_held (test) r.slots) row
      (all_every (λ (r : SetOf Held). every_held (test) r.slots) (seen s).eit.sets.rows l.sound.eit.sets) h

  schedule_good : (row : ℕ) → row < s.eit.schedules → every_held (copy_ok test) (up_from (place_seen s.schedule_heads s.units row) 16 0) ≡ true
  unfolding seen schedule_seen rows_seen
  schedule_good row h =
      every_order (tick_of s.schedule_heads) s.eit.schedules s.eit.sets.clock l.reached.schedules.ticks
      (λ (i : ℕ). under (schedule_shown (key_at s.schedule_heads i)) (schedule_seen s.schedule_heads s.units i)) (λ (g : ScheduleOf Held). every_held (copy_ok test) g.copies) row
      (all_every (λ (g : ScheduleOf Held). every_held (copy_ok test) g.copies) (seen s).eit.schedules.rows l.sound.eit.schedules) h

  place_is : (row table : ℕ) → table < tables_of s.schedule_heads row → is_present s.units (row * 16 + table) ≡ true
      → place_seen s.schedule_heads s.units row table ≡ some (record { version = word_of s.units (row * 16 + table) 1; last = word_of s.units (row * 16 + table) 2; slots = held_slots (unit_slots s.units (row * 16 + table)) })
  unfolding place_seen copy_seen
  place_is row table h p = rw (lt-ltb table (tables_of s.schedule_heads row) h, p)

  table_good : (row table : ℕ) → row < s.eit.schedules → table < tables_of s.schedule_heads row → table < 16 → is_present s.units (row * 16 + table) ≡ true
      → every_held test (held_slots (unit_slots s.units (row * 16 + table))) ≡ true
  table_good row table h k m p =
      held_get (copy_ok test) (up_from (place_seen s.schedule_heads s.units row) 16 0) table _ (schedule_good row h)
      (up_get (place_seen s.schedule_heads s.units row) 16 0 table none m ∙ ap (place_seen s.schedule_heads s.units row) (zero-add table) ∙ place_is row table k p)

  -- ---- the two questions

  set_answers : (row skip : ℕ) (list : List ℕ) → Neither (shown_set s row skip list).0.answer
  unfolding shown_set
  set_answers row skip list = rw (l.whole, each_has_pid s l.reached) (go (set_out_lem s.heads s.eit.sets.used row) refl)
    where
      go : (b : Bool) → set_out_lem s.heads s.eit.sets.used row ≡ b
          → Neither (cond b (laid skip (slots_show s.cells s.eit.sets.size (row_slots s.heads s.slots row) 0) list) (nothing_shown No, list)).0.answer
      go false e = (λ (q : ◌≡◌ {A = ℕ} 9 18). omega arith, λ (q : ◌≡◌ {A = ℕ} 9 19). omega arith)
      go true e =
          let w = (whole_store s l.whole).sets in
          let h = in_use s.heads s.eit.sets.used row true (sym e) refl in
          laid_answers skip (slots_show s.cells s.eit.sets.size (row_slots s.heads s.slots row) 0) list
          (slots_good s.cells s.eit.sets.size s.eit.sets.count (row_slots s.heads s.slots row) 0
          (rows_get s.heads s.slots s.eit.sets.count s.eit.sets.size s.eit.sets.used row w.rows h) (row_good row h))

  table_answers : (row table skip : ℕ) (list : List ℕ) → Neither (shown_table s row table skip list).0.answer
  unfolding shown_table
  table_answers row table skip list = rw (l.whole, each_has_pid s l.reached) (go (table_out s.schedule_heads s.units s.eit.schedules row table) refl)
    where
      go : (b : Bool) → table_out s.schedule_heads s.units s.eit.schedules row table ≡ b
          → Neither (cond b (laid skip (slots_show s.cells s.eit.sets.size (unit_slots s.units (row * 16 + table)) 0) list) (nothing_shown No, list)).0.answer
      go false e = (λ (q : ◌≡◌ {A = ℕ} 9 18). omega arith, λ (q : ◌≡◌ {A = ℕ} 9 19). omega arith)
      go true e =
          let t = there s.eit s.heads s.slots s.cells s.schedule_heads s.units true (sym l.whole) refl row true table (sym e) refl in
          let f = tables_few s.eit s.heads s.slots s.cells s.schedule_heads s.units true (sym l.whole) refl row true table in
          let p = table_present s.eit s.heads s.slots s.cells s.schedule_heads s.units true (sym l.whole) refl row true table (sym e) refl in
          let w = table_whole s.eit s.heads s.slots s.cells s.schedule_heads s.units true (sym l.whole) refl row true table (sym e) refl in
          laid_answers skip (slots_show s.cells s.eit.sets.size (unit_slots s.units (row * 16 + table)) 0) list
          (slots_good s.cells s.eit.sets.size s.eit.sets.count (unit_slots s.units (row * 16 + table)) 0 w (table_good row table t.row_in t.table_in_lem (omega arith) p))

-- a set, in every history
pub never_set : (s : Store) → Opened s → (calls : List Given) → EachFitting calls → (row skip : ℕ) (list : List ℕ) → Neither (shown_set (store_after acts s calls) row skip list).0.answer
never_set s o calls f row skip list = set_answers (store_after acts s calls) (left s o calls f) row skip list

-- a table of a schedule, in every history
pub never_table : (s : Store) → Opened s → (calls : List Given) → EachFitting calls → (row table skip : ℕ) (list : List ℕ) → Neither (shown_table (store_after acts s calls) row table skip list).0.answer
never_table s o calls f row table skip list = table_answers (store_after acts s calls) (left s o calls f) row table skip list
