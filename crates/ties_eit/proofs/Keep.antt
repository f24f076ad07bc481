-- A section is kept, or 21: what the store does is what the rules do.
-- Assumes nothing.
use mathlib.Core.Path.{◌≡◌, refl, sym, ap, ◌∙◌}
use mathlib.Core.Logic.{◌≢◌}
use mathlib.Core.Bool.{Bool, true, false, cond, not}
use mathlib.Core.Option.{none, some}
use mathlib.Core.List.{List}
use Prim.Native.Nat.{ℕ, suc, ◌+◌, ◌-◌, ◌*◌, ◌≤◌, ◌<◌}
use native.Mathlib.Decide.{ℕ_discrete}
use native.Mathlib.Omega.{arith}
use borrow.Author.Tests.{ltb-true}
use lib.Dec.{ltb, eqb}
use lib.ListN.{length, set, replicate}
use lib.Seq.{paste}
use Rattle.laws.proofs.Tests.{none≢some}
use Rattle.rules_shared.specs.Same.{Bytes}
use Rattle.rules_shared.specs.Slots.{every_held}
use Rattle.rules_shared.specs.Touch.{some_row}
use Rattle.rules_shared.specs.Row.{fresh, keep}
use Rattle.rules_shared.specs.Cells.{Held, Cells, held_in, names, held_whole, lowest, write, place_new}
use Rattle.rules_shared.proofs.Slots.{every_free, every_set, passes_none, free_slot}
use Rattle.rules_shared.proofs.Cells.{held_whole_lem}
use Rattle.rules_eit.specs.Keys.{Kind, SetKey, same_set}
use Rattle.rules_eit.specs.Segments.{SetOf}
use Rattle.rules_eit.specs.Rules.{Section, part_of, met_row, set_aside, set_newest, judge}
use Rattle.rules_eit.specs.Cells.{set_takes, schedule_takes, taken, shows, rest, room_for, carry, risen}
use Rattle.rules_eit.proofs.Keys.{same_set_true}
use Rattle.cells.specs.Cells.{slot_word, all_whole, lowest_free}
use Rattle.rows.specs.declared.Entry.{Entry}
use Rattle.rows.specs.declared.Room.{Room}
use Rattle.rows.specs.Rows.{key_at, touched, kept_heads, gone_row, row_slots, taken_in, rows_whole, last_of}
use Rattle.rows.proofs.Words.{OfKey, of_key, length_kept, kept_row, kept_fresh, kept_known}
use Rattle.rows.proofs.Whole.{rows_get, rows_all}
use Rattle.ticks.specs.Order.{Goes, Touched}
use Rattle.ticks.specs.Slots.{held_of, held_slots, cells_seen}
use Rattle.ticks.specs.Origins.{origin_shown}
use Rattle.ticks.proofs.Words.{key_same, ready_touched, kept_fresh_key, kept_unmarked}
use Rattle.ticks.proofs.Slots.{held_new, held_set, held_none, lowest_is}
use Rattle.ticks.proofs.Slots.{held_whole_lem as words_whole}
use Rattle.ticks.proofs.Cells.{cells_length, cells_written, written_length}
use Rattle.ticks.proofs.Touch.{goes_row, goes_out_lem}
use Rattle.ticks.proofs.Taken.{taken_fresh, taken_known}
use Rattle.segments.specs.Segments.{kept_section}
use Rattle.schedules.specs.Schedules.{schedules_whole, taken_in_schedules, taken_anywhere}
use Rattle.arrivals.specs.declared.Arrival.{Arrival}
use Rattle.eit_plan.specs.declared.Keeping.{Keeping}
use Rattle.eit_plan.specs.declared.Plan.TheVariants as plan
use Rattle.eit_state.specs.declared.PushAnswer.TheVariants as answer
use Rattle.eit_state.specs.State.{Store, Whole}
use Rattle.eit_plan.specs.Plan.{plan_placed}
use Rattle.placing.specs.declared.Place.TheVariants as place
use Rattle.answers.specs.declared.Refusal.TheVariants as refusal
use Rattle.eit.specs.Store.{told_step}
use Rattle.eit_carry.specs.Carried.{carried, kept_and_settled}
use Rattle.ties_eit.specs.View.{key_shown, key_words, row_seen, seen, answer_told, HeadFits, Reached}
use Rattle.ties_eit.proofs.Keys.{set_self, key_reads}
use Rattle.ties_eit.proofs.Rows.{row_takes}
use Rattle.ties_eit.proofs.Places.{schedules_taken}
use Rattle.ties_eit.proofs.Entered.{Tied, goes_room, goes_count}
use Rattle.ties_eit.proofs.Settle.{Arrives, Ready, settle_tied, head_same}
use Rattle.ties_eit.proofs.Kept.{after_length, after_other, after_own, after_fresh, word_other, lasts_own, lasts_fresh}

-- the section of an arrival, as the rules have it
abbrev pub section_for : Arrival → Bytes → Section
section_for a bytes = record {
  from = origin_shown a.entry.key.from;
  table_id_of = a.entry.key.table_id;
  service_id = a.entry.key.extension;
  transport_stream_id = a.entry.key.transport_stream_id;
  original_network_id = a.entry.key.original_network_id;
  current_next_of = not (eqb a.entry.key.current_next 0);
  version = a.entry.version;
  number = a.entry.number;
  last = a.entry.last;
  segment_last = a.segment - 1;
  last_table = a.tables;
  bytes = bytes;
}

-- where the section goes: a row that begins anew, or one that goes on; the last argument is the row that the rules' section meets
pub data Meets (s : Store) (a : Arrival) (bytes : Bytes) (r : Room) : SetOf Held → Type 0 where
  anew : r.fresh ≡ true → Meets s a bytes r (fresh (part_of (section_for a bytes)))
  goes_on : r.fresh ≡ false → r.row < s.eit.sets.used → key_at s.heads r.row ≡ a.entry.key
      → last_of s.heads r.row ≡ a.entry.last → Meets s a bytes r (row_seen s.heads s.slots r.row)

module _ (s : Store) (z : Reached s) (f : Whole s)
    (units_ok : schedules_whole s.schedule_heads s.units s.eit.sets.count s.eit.sets.size s.eit.schedules ≡ true)
    (more : s.eit.sets.evictions < 18446744073709551615) (more' : s.eit.schedule_evictions < 18446744073709551615) (runs : s.eit.sets.clock < 18446744073709551615) (pos : 0 < s.eit.sets.limit)
    (a : Arrival) (kind : Kind) (arr : Arrives a kind) (bytes : Bytes) (h12 : 12 ≤ length bytes) (hs : length bytes ≤ s.eit.sets.size)
    (r : Room) (g : Goes s.heads s.eit.sets.limit s.eit.sets.used s.eit.sets.evictions a.entry.key r.row r.used r.evictions) where
  abbrev e : Entry
  e = a.entry

  abbrev x : Section
  x = section_for a bytes

  abbrev k : SetKey
  k = key_shown e.key

  proper : key_words (key_shown e.key) ≡ e.key
  proper = key_reads e.key arr.pid arr.bit

  within : r.used ≤ s.eit.sets.limit
  within = goes_room g f.sets.used

  head_long : r.row * 12 + 12 ≤ length s.heads
  head_long = let p = goes_row g in let q = within in let c = f.sets.heads_long in omega arith

  slots_long : r.row * 288 + 288 ≤ length s.slots
  slots_long = let p = goes_row g in let q = within in let c = f.sets.slots_long in omega arith

  number : e.number ≤ e.last
  number = arr.numbered.number

  last : e.last < 256
  last = arr.numbered.last

  -- ---- the head

  -- the clock from then on
  abbrev now : ℕ
  now = s.eit.sets.clock + 1

  abbrev heads₁ : List ℕ
  heads₁ = kept_heads r e s.heads

  own_key : {met : SetOf Held} → Meets s a bytes r met → key_at heads₁ r.row ≡ e.key
  own_key (anew t) = kept_fresh_key r e s.heads head_long t
  own_key (goes_on t l q v) = key_same s.heads heads₁ r.row (λ m c. kept_known r e s.heads head_long t m (of_key m c).no_mark (of_key m c).below) ∙ q

  own_last : {met : SetOf Held} → Meets s a bytes r met → last_of heads₁ r.row ≡ e.last
  own_last (anew t) = kept_fresh r e s.heads head_long t 7 (omega arith)
  own_last (goes_on t l q v) = kept_known r e s.heads head_long t 7 (omega arith) (omega arith) ∙ v

  own_fits : {met : SetOf Held} → Meets s a bytes r met → HeadFits heads₁ r.row
  own_fits (anew t) =
      let v = kept_fresh r e s.heads head_long t 6 (omega arith) in
      let l = kept_fresh r e s.heads head_long t 7 (omega arith) in
      let c = kept_fresh r e s.heads head_long t 1 (omega arith) in
      record { version = rw v arr.version; last = rw l last; kind = rw (c, arr.table) }
  own_fits (goes_on t l q v) =
      head_same s.heads heads₁ r.row (kept_known r e s.heads head_long t 1 (omega arith) (omega arith)) (kept_known r e s.heads head_long t 6 (omega arith) (omega arith))
      (kept_known r e s.heads head_long t 7 (omega arith) (omega arith)) (z.heads_fit r.row l)

  heads_still_long : r.used * 12 ≤ length heads₁
  heads_still_long = let p = within in let q = f.sets.heads_long in let c = length_kept r e s.heads head_long in omega arith

  then_touched : {met : SetOf Held} → Meets s a bytes r met → Touched s.heads (touched now r.row heads₁) e.key r.row now r.used
  then_touched m =
      ready_touched s.heads heads₁ e.key r.row now r.used heads_still_long (goes_row g) (own_key m)
      (λ j c l ne q. kept_row r e s.heads head_long j c ne q)

  -- ---- the cells that are named

  none_taken : (c : ℕ) → set_takes c (fresh (part_of x)) ≡ false
  unfolding set_takes fresh part_of
  none_taken c = passes_none (names c) (replicate (suc e.last) none) (λ n h q. absurd (none≢some (free_slot (suc e.last) n) q))

  abbrev gone : ℕ
  gone = gone_row r s.eit.sets.used

  abbrev there : ℕ → Bool
  there = taken_anywhere s.heads s.slots s.schedule_heads s.units gone s.eit.sets.used s.eit.schedules

  sets_taken : {met : SetOf Held} → Meets s a bytes r met → (c : ℕ) → some_row (set_takes c) (set_newest k met (rest (seen s) k)).sets.rows ≡ taken_in s.heads s.slots gone s.eit.sets.used c
  unfolding set_newest rest set_aside seen
  sets_taken (anew t) c =
      taken_fresh key_shown key_words same_set same_set_true set_self s.heads s.slots s.eit.sets.limit s.eit.sets.used s.eit.sets.clock now s.eit.sets.evictions e.key z.sets (omega arith) proper (row_seen s.heads s.slots)
      (touched now r.row heads₁) r g (then_touched (anew t)) set_takes (row_takes s.heads s.slots) (fresh (part_of x)) none_taken t c
  sets_taken (goes_on t l q v) c =
      taken_known key_shown key_words same_set same_set_true set_self s.heads s.slots s.eit.sets.limit s.eit.sets.used s.eit.sets.clock now s.eit.sets.evictions e.key z.sets (omega arith) proper (row_seen s.heads s.slots)
      (touched now r.row heads₁) r g (then_touched (goes_on t l q v)) set_takes (row_takes s.heads s.slots) l t c

  schedules_named : (met : SetOf Held) (c : ℕ) → some_row (schedule_takes c) (set_newest k met (rest (seen s) k)).schedules.rows ≡ taken_in_schedules s.schedule_heads s.units s.eit.schedules c
  unfolding set_newest rest set_aside seen
  schedules_named met c = schedules_taken s.schedule_heads s.units s.eit.schedules s.eit.sets.clock c z.schedules.ticks

  taken_same : {met : SetOf Held} → Meets s a bytes r met → met_row x k (seen s).eit ≡ met → (c : ℕ) → taken (room_for (seen s) x k) c ≡ there c
  unfolding taken room_for taken_anywhere
  taken_same {met} m q c = rw (q, sets_taken m c, schedules_named met c)

  -- ---- the section in cell c

  module _ (c : ℕ) (hc : c < s.eit.sets.count) where
    abbrev w : ℕ
    w = slot_word (length bytes) c

    abbrev slots₁ : List ℕ
    slots₁ = kept_section r e a.segment w s.slots

    abbrev cells₁ : List ℕ
    cells₁ = paste s.cells (c * s.eit.sets.size) bytes (length bytes)

    abbrev keeping : Keeping
    keeping = record { arrival = a; room = r; cell = c }

    abbrev cells : Cells
    cells = cells_seen s.cells s.eit.sets.size s.eit.sets.count

    word_shown : held_of w ≡ some (held_in c bytes)
    word_shown = let p = f.sets.few in held_new (length bytes) c (omega arith) (omega arith)

    -- the row that is left
    own_row : {met : SetOf Held} → Meets s a bytes r met → row_seen heads₁ slots₁ r.row ≡ keep (part_of x) (held_in c bytes) met
    unfolding row_seen keep fresh part_of
    own_row (anew t) =
        let v = kept_fresh r e s.heads head_long t 6 (omega arith) in
        let l = own_last (anew t) in
        let m = kept_unmarked r e s.heads head_long in
        rw (
          v,
          l,
          m,
          after_fresh r e a.segment w s.slots slots_long number last heads₁ t l,
          held_set (replicate (suc e.last) 0) e.number w,
          word_shown,
          held_none (suc e.last),
          lasts_fresh r e a.segment w s.slots slots_long number last arr.segment t,
        )
    own_row (goes_on t h n v) =
        let p = kept_known r e s.heads head_long t 6 (omega arith) (omega arith) in
        let q = kept_known r e s.heads head_long t 7 (omega arith) (omega arith) in
        let l = own_last (goes_on t h n v) in
        let m = kept_unmarked r e s.heads head_long in
        rw (
          p,
          q,
          m,
          after_own r e a.segment w s.slots slots_long number last s.heads heads₁ t v l,
          held_set (row_slots s.heads s.slots r.row) e.number w,
          word_shown,
          lasts_own r e a.segment w s.slots slots_long number last arr.segment t,
        )

    abbrev ok : Held → Bool
    ok = held_whole (seen s).settings cells

    held_ok : ok (held_in c bytes) ≡ true
    unfolding seen
    held_ok = held_whole_lem (seen s).settings cells c bytes (let l = cells_length s.cells s.eit.sets.size s.eit.sets.count in omega arith) h12 hs

    words_ok : (ws : List ℕ) → every_held ok (held_slots ws) ≡ all_whole s.eit.sets.count s.eit.sets.size ws
    unfolding seen
    words_ok ws = words_whole (seen s).settings cells ws ∙ ap (λ (m : ℕ). all_whole m s.eit.sets.size ws) (cells_length s.cells s.eit.sets.size s.eit.sets.count)

    set_ok : (ws : List ℕ) → every_held ok (held_slots ws) ≡ true → all_whole s.eit.sets.count s.eit.sets.size (set ws e.number w) ≡ true
    set_ok ws h =
        sym (words_ok (set ws e.number w)) ∙ ap (every_held ok) (held_set ws e.number w ∙ ap (set (held_slots ws) e.number) word_shown)
        ∙ every_set ok (held_slots ws) e.number (held_in c bytes) held_ok h

    own_whole : {met : SetOf Held} → Meets s a bytes r met → all_whole s.eit.sets.count s.eit.sets.size (row_slots heads₁ slots₁ r.row) ≡ true
    own_whole (anew t) =
        rw (after_fresh r e a.segment w s.slots slots_long number last heads₁ t (own_last (anew t)))
        (set_ok (replicate (suc e.last) 0) (rw (held_none (suc e.last)) (every_free ok (suc e.last))))
    own_whole (goes_on t h n v) =
        rw (after_own r e a.segment w s.slots slots_long number last s.heads heads₁ t v (own_last (goes_on t h n v)))
        (set_ok (row_slots s.heads s.slots r.row) (words_ok (row_slots s.heads s.slots r.row) ∙ rows_get s.heads s.slots s.eit.sets.count s.eit.sets.size s.eit.sets.used r.row f.sets.rows h))

    other_row : (j : ℕ) → j ≢ r.row → row_slots heads₁ slots₁ j ≡ row_slots s.heads s.slots j
    other_row j ne = after_other r e a.segment w s.slots slots_long number last s.heads heads₁ j ne (kept_row r e s.heads head_long j 7 ne (omega arith))

    all_whole_lem : {met : SetOf Held} → Meets s a bytes r met → rows_whole heads₁ slots₁ s.eit.sets.count s.eit.sets.size r.used ≡ true
    all_whole_lem m = rows_all heads₁ slots₁ s.eit.sets.count s.eit.sets.size r.used (λ j l. go j l (ℕ_discrete j r.row))
      where
        go : (j : ℕ) → j < r.used → Dec (j ≡ r.row) → all_whole s.eit.sets.count s.eit.sets.size (row_slots heads₁ slots₁ j) ≡ true
        go j l (yes q) = rw q (own_whole m)
        go j l (no ne) = rw (other_row j ne) (rows_get s.heads s.slots s.eit.sets.count s.eit.sets.size s.eit.sets.used j f.sets.rows (goes_out_lem g j l ne))

    ready : {met : SetOf Held} → Meets s a bytes r met → Ready s r.used r.evictions heads₁ slots₁ cells₁ e.key r.row
    ready m = record {
      fits = rw (length_kept r e s.heads head_long, after_length r e a.segment w s.slots slots_long number last, written_length s.cells s.eit.sets.size s.eit.sets.count c bytes hc f.sets.cells_long hs) z.fits;
      counts = let q = goes_count g in omega arith;
      long = heads_still_long;
      slots_long = let p = within in let q = f.sets.slots_long in let l = after_length r e a.segment w s.slots slots_long number last in omega arith;
      own = own_key m;
      head_fits = own_fits m;
      others = λ j n l ne q. kept_row r e s.heads head_long j n ne q;
      slots = λ j l ne. other_row j ne;
      segments = λ j n l ne q. word_other r e a.segment w s.slots slots_long number last j n ne q;
      rows_ok = all_whole_lem m;
    }

    kept_tied : {met : SetOf Held} → Meets s a bytes r met → met_row x k (seen s).eit ≡ met
        → Tied (told_step (carried s bytes (plan.Keep keeping))) (shows (risen (seen s)) (write cells c bytes) (judge s.eit.sets.limit (rest (seen s) k) k a.tables (keep (part_of x) (held_in c bytes) (met_row x k (seen s).eit))))
    unfolding kept_and_settled
    kept_tied m q =
        rw (q, ← own_row m, ← cells_written s.cells s.eit.sets.size s.eit.sets.count c bytes hc f.sets.cells_long hs)
        (settle_tied s z f units_ok more' runs pos a kind arr r.used r.evictions heads₁ slots₁ cells₁ r.row g (ready m))

  -- ---- the section is kept, or every cell is named

  pub keep_tied : {met : SetOf Held} → Meets s a bytes r met → met_row x k (seen s).eit ≡ met
      → Tied (told_step (carried s bytes (plan_placed s a (place.Goes r)))) (carry (seen s) x k (place_new (lowest (taken (room_for (seen s) x k)) (length (seen s).cells) 0)))
  unfolding seen carry place_new answer_told
  keep_tied m q =
      rw (lowest_is (taken (room_for (seen s) x k)) there (taken_same m q) (length (seen s).cells), count_is) (go (ltb cell s.eit.sets.count) refl)
    where
      cell : ℕ
      cell = lowest_free there s.eit.sets.count

      count_is : length (seen s).cells ≡ s.eit.sets.count
      count_is = cells_length s.cells s.eit.sets.size s.eit.sets.count

      go : (b : Bool) → ltb cell s.eit.sets.count ≡ b
          → Tied (told_step (carried s bytes (cond b (plan.Keep (record { arrival = a; room = r; cell = cell })) (plan.Leave (answer.Refused refusal.NoCell))))) (carry (seen s) x k (place_new (cond b (some cell) none)))
      go true h = kept_tied cell (ltb-true cell s.eit.sets.count h) m q
      go false h = record { told = refl; shown = refl; reached = z }
