-- A section is kept, or 21: what the store does is what the rules do.
-- Assumes nothing.
use mathlib.Core.Path.{◌≡◌, refl, sym, ap, ◌∙◌}
use mathlib.Core.Logic.{◌≢◌}
use mathlib.Core.Bool.{Bool, true, false, cond}
use mathlib.Core.Option.{none, some}
use mathlib.Core.List.{List}
use Prim.Native.Nat.{ℕ, suc, ◌+◌, ◌*◌, ◌≤◌, ◌<◌}
use native.Mathlib.Omega.{arith}
use borrow.Author.Tests.{ltb-true}
use lib.Dec.{ltb}
use lib.ListN.{length, set, replicate}
use Rattle.rules_shared.specs.Same.{Bytes}
use Rattle.rules_shared.specs.Slots.{every_held}
use Rattle.rules_shared.specs.Row.{fresh, keep}
use Rattle.rules_shared.specs.Cells.{Held, Cells, held_in, names, held_whole, lowest, write, place_new}
use Rattle.rules_shared.proofs.Slots.{every_free, every_set, passes_none, free_slot}
use Rattle.rules_shared.proofs.Cells.{held_whole_lem}
use Rattle.rules_sets.specs.Rules.{same_key, SetOf, Section, part_of, met_row, judge}
use Rattle.rules_sets.specs.Cells.{takes, taken, shows, rest, room_for, carry, risen}
use Rattle.rules_sets.proofs.Keys.{same_key_true_lem}
use Rattle.cells.specs.Cells.{slot_word, all_whole, lowest_free}
use Rattle.rows.specs.declared.Key.{Key}
use Rattle.rows.specs.declared.Entry.{Entry}
use Rattle.rows.specs.declared.Room.{Room}
use Rattle.rows.specs.Rows.{key_at, touched, kept_heads, gone_row, row_slots, kept_slots, taken_in, last_of}
use Rattle.ticks.specs.Order.{Goes, known, added, evicted, Touched}
use Rattle.ticks.specs.Slots.{held_of, held_slots, cells_seen}
use Rattle.rows.proofs.Words.{OfKey, of_key, length_kept, kept_row, kept_fresh, kept_known, length_kept_slots}
use Rattle.rows.proofs.Whole.{rows_get}
use Rattle.ticks.proofs.Words.{key_same, ready_touched, kept_fresh_key, kept_unmarked}
use Rattle.ticks.proofs.Slots.{held_new, held_set, held_none, other_slots, own_slots, fresh_slots, lowest_is}
use Rattle.ticks.proofs.Slots.{held_whole_lem as words_whole}
use Rattle.ticks.proofs.Cells.{cells_length, cells_written, written_length}
use Rattle.ticks.proofs.Touch.{goes_row}
use Rattle.ticks.proofs.Taken.{taken_fresh, taken_known}
use Rattle.sets_plan.specs.declared.Keeping.{Keeping}
use Rattle.sets_plan.specs.declared.Plan.TheVariants as plan
use Rattle.answers.specs.declared.Refusal.TheVariants.{NoCell}
use Rattle.arrivals.specs.Arrivals.{Numbered}
use Rattle.store.specs.Store.{Store, Whole}
use Rattle.sets_plan.specs.Plan.{plan_keep}
use Rattle.sets_settle.specs.Settle.{kept_in, carried}
use Rattle.ties_sets.specs.View.{key_shown, key_words, row_seen, seen, answer_told, Standing}
use Rattle.ties_sets.proofs.Rows.{same_self, row_takes}
use Rattle.ties_sets.proofs.Settle.{Tied, Ready, settle_tied}
use Rattle.laws.proofs.Tests.{none≢some}

-- the section of an entry, as the rules have it
abbrev pub section_for : Entry → Bytes → Section
section_for e bytes = record { key = key_shown e.key; version = e.version; number = e.number; last = e.last; bytes = bytes }

-- where the section goes: a row that begins anew, or one that goes on; `met` is the row that the rules' section meets
pub data Meets (s : Store) (e : Entry) (bytes : Bytes) (r : Room) : SetOf Held → Type 0 where
  anew : r.fresh ≡ true → Meets s e bytes r (fresh (part_of (section_for e bytes)))
  goes_on : r.fresh ≡ false → r.row < s.sets.used → key_at s.heads r.row ≡ e.key
      → last_of s.heads r.row ≡ e.last → Meets s e bytes r (row_seen s.heads s.slots r.row)

-- no more rows than the limit, and at most one eviction more
goes_room : {heads : List ℕ} {limit used evictions : ℕ} {key : Key} {i used' evictions' : ℕ} → Goes heads limit used evictions key i used' evictions' → used ≤ limit → used' ≤ limit
goes_room (known i h e) l = l
goes_room (added f h) l = omega arith
goes_room (evicted f p h) l = l

goes_count : {heads : List ℕ} {limit used evictions : ℕ} {key : Key} {i used' evictions' : ℕ} → Goes heads limit used evictions key i used' evictions' → evictions' ≤ evictions + 1
goes_count (known i h e) = omega arith
goes_count (added f h) = omega arith
goes_count (evicted f p h) = omega arith

module _ (s : Store) (z : Standing s) (f : Whole s.sets s.heads s.slots s.cells) (more : s.sets.evictions < 18446744073709551615) (runs : s.sets.clock < 18446744073709551615)
    (e : Entry) (n : Numbered e) (proper : key_words (key_shown e.key) ≡ e.key) (bytes : Bytes) (h12 : 12 ≤ length bytes) (hs : length bytes ≤ s.sets.size)
    (r : Room) (g : Goes s.heads s.sets.limit s.sets.used s.sets.evictions e.key r.row r.used r.evictions) where
  abbrev x : Section
  x = section_for e bytes

  -- the clock that has risen
  abbrev tick : ℕ
  tick = s.sets.clock + 1

  rise : s.sets.clock < tick
  rise = omega arith

  within : r.used ≤ s.sets.limit
  within = goes_room g f.used

  head_long : r.row * 12 + 12 ≤ length s.heads
  head_long = let a = goes_row g in let b = within in let c = f.heads_long in omega arith

  slots_long : r.row * 288 + 288 ≤ length s.slots
  slots_long = let a = goes_row g in let b = within in let c = f.slots_long in omega arith

  -- ---- the head

  own_key : {met : SetOf Held} → Meets s e bytes r met → key_at (kept_heads r e s.heads) r.row ≡ e.key
  own_key (anew t) = kept_fresh_key r e s.heads head_long t
  own_key (goes_on t l k v) = key_same s.heads (kept_heads r e s.heads) r.row (λ m q. kept_known r e s.heads head_long t m (of_key m q).no_mark (of_key m q).below) ∙ k

  own_last : {met : SetOf Held} → Meets s e bytes r met → last_of (kept_heads r e s.heads) r.row ≡ e.last
  own_last (anew t) = kept_fresh r e s.heads head_long t 7 (omega arith)
  own_last (goes_on t l k v) = kept_known r e s.heads head_long t 7 (omega arith) (omega arith) ∙ v

  heads_still_long : r.used * 12 ≤ length (kept_heads r e s.heads)
  heads_still_long = let a = within in let b = f.heads_long in let c = length_kept r e s.heads head_long in omega arith

  then_touched : {met : SetOf Held} → Meets s e bytes r met → Touched s.heads (touched tick r.row (kept_heads r e s.heads)) e.key r.row tick r.used
  then_touched m =
      ready_touched s.heads (kept_heads r e s.heads) e.key r.row tick r.used heads_still_long (goes_row g) (own_key m)
      (λ j k l ne q. kept_row r e s.heads head_long j k ne q)

  -- ---- the cells that are named

  none_taken : (c : ℕ) → takes c (fresh (part_of x)) ≡ false
  unfolding takes fresh part_of
  none_taken c = passes_none (names c) (replicate (suc e.last) none) (λ k h q. absurd (none≢some (free_slot (suc e.last) k) q))

  taken_same : {met : SetOf Held} → Meets s e bytes r met → met_row x (seen s).sets ≡ met
      → (c : ℕ) → taken (room_for (seen s) x) c ≡ taken_in s.heads s.slots (gone_row r s.sets.used) s.sets.used c
  unfolding taken room_for rest seen
  taken_same (anew t) q c =
      rw q (taken_fresh key_shown key_words same_key same_key_true_lem same_self s.heads s.slots s.sets.limit s.sets.used s.sets.clock tick s.sets.evictions e.key z.stands rise proper (row_seen s.heads s.slots)
      (touched tick r.row (kept_heads r e s.heads)) r g (then_touched (anew t)) takes (row_takes s.heads s.slots) (fresh (part_of x)) none_taken t c)
  taken_same (goes_on t l k v) q c =
      rw q (taken_known key_shown key_words same_key same_key_true_lem same_self s.heads s.slots s.sets.limit s.sets.used s.sets.clock tick s.sets.evictions e.key z.stands rise proper (row_seen s.heads s.slots)
      (touched tick r.row (kept_heads r e s.heads)) r g (then_touched (goes_on t l k v)) takes (row_takes s.heads s.slots) l t c)

  -- ---- the section in cell c

  module _ (c : ℕ) (hc : c < s.sets.count) where
    abbrev w : ℕ
    w = slot_word (length bytes) c

    abbrev k : Keeping
    k = record { entry = e; room = r; cell = c }

    abbrev s₁ : Store
    s₁ = kept_in s bytes k

    abbrev cells : Cells
    cells = cells_seen s.cells s.sets.size s.sets.count

    word_shown : held_of w ≡ some (held_in c bytes)
    word_shown = let a = f.few in held_new (length bytes) c (omega arith) (omega arith)

    -- the row that is left
    own_row : {met : SetOf Held} → Meets s e bytes r met → row_seen (kept_heads r e s.heads) (kept_slots r e w s.slots) r.row ≡ keep (part_of x) (held_in c bytes) met
    unfolding row_seen keep fresh part_of
    own_row (anew t) =
        let v = kept_fresh r e s.heads head_long t 6 (omega arith) in
        let l = own_last (anew t) in
        let m = kept_unmarked r e s.heads head_long in
        rw (v, l, m, fresh_slots r e w s.slots slots_long n.number n.last (kept_heads r e s.heads) t l, held_set (replicate (suc e.last) 0) e.number w, word_shown, held_none (suc e.last))
    own_row (goes_on t h k v) =
        let p = kept_known r e s.heads head_long t 6 (omega arith) (omega arith) in
        let q = kept_known r e s.heads head_long t 7 (omega arith) (omega arith) in
        let l = own_last (goes_on t h k v) in
        let m = kept_unmarked r e s.heads head_long in
        rw (p, q, m, own_slots r e w s.slots slots_long n.number n.last s.heads (kept_heads r e s.heads) t v l, held_set (row_slots s.heads s.slots r.row) e.number w, word_shown)

    abbrev ok : Held → Bool
    ok = held_whole (seen s).settings cells

    held_ok : ok (held_in c bytes) ≡ true
    unfolding seen
    held_ok = held_whole_lem (seen s).settings cells c bytes (let l = cells_length s.cells s.sets.size s.sets.count in omega arith) h12 hs

    words_ok : (ws : List ℕ) → every_held ok (held_slots ws) ≡ all_whole s.sets.count s.sets.size ws
    unfolding seen
    words_ok ws = words_whole (seen s).settings cells ws ∙ ap (λ (m : ℕ). all_whole m s.sets.size ws) (cells_length s.cells s.sets.size s.sets.count)

    set_ok : (ws : List ℕ) → every_held ok (held_slots ws) ≡ true → all_whole s.sets.count s.sets.size (set ws e.number w) ≡ true
    set_ok ws h =
        sym (words_ok (set ws e.number w)) ∙ ap (every_held ok) (held_set ws e.number w ∙ ap (set (held_slots ws) e.number) word_shown)
        ∙ every_set ok (held_slots ws) e.number (held_in c bytes) held_ok h

    own_whole : {met : SetOf Held} → Meets s e bytes r met → all_whole s.sets.count s.sets.size (row_slots (kept_heads r e s.heads) (kept_slots r e w s.slots) r.row) ≡ true
    own_whole (anew t) =
        rw (fresh_slots r e w s.slots slots_long n.number n.last (kept_heads r e s.heads) t (own_last (anew t)))
        (set_ok (replicate (suc e.last) 0) (rw (held_none (suc e.last)) (every_free ok (suc e.last))))
    own_whole (goes_on t h k v) =
        rw (own_slots r e w s.slots slots_long n.number n.last s.heads (kept_heads r e s.heads) t v (own_last (goes_on t h k v)))
        (set_ok (row_slots s.heads s.slots r.row) (words_ok (row_slots s.heads s.slots r.row) ∙ rows_get s.heads s.slots s.sets.count s.sets.size s.sets.used r.row f.rows h))

    ready : {met : SetOf Held} → Meets s e bytes r met → Ready s s₁ e.key r.row
    unfolding kept_in
    ready m = record {
      fits = rw (length_kept r e s.heads head_long, length_kept_slots r e w s.slots slots_long n.number n.last, written_length s.cells s.sets.size s.sets.count c bytes hc f.cells_long hs) z.fits;
      counts = let q = goes_count g in omega arith;
      long = heads_still_long;
      own = own_key m;
      clock = refl;
      runs = runs;
      others = λ j k l ne q. kept_row r e s.heads head_long j k ne q;
      slots = λ j l ne. other_slots r e w s.slots slots_long n.number n.last s.heads (kept_heads r e s.heads) j ne (kept_row r e s.heads head_long j 7 ne (omega arith));
      row_whole = own_whole m;
    }

    pub kept_tied : {met : SetOf Held} → Meets s e bytes r met → met_row x (seen s).sets ≡ met
        → Tied (carried s bytes (plan.Keep k)) (shows (risen (seen s)) (write (seen s).cells c bytes) (judge (rest (seen s) x) x.key (keep (part_of x) (held_in c bytes) (met_row x (seen s).sets))))
    unfolding kept_in seen rest
    kept_tied m q =
        rw (q, ← own_row m, ← cells_written s.cells s.sets.size s.sets.count c bytes hc f.cells_long hs)
        (settle_tied s s₁ e.key r.row z proper g (ready m) refl refl)

  -- ---- the section is kept, or every cell is named

  pub keep_tied : {met : SetOf Held} → Meets s e bytes r met → met_row x (seen s).sets ≡ met
      → Tied (carried s bytes (plan_keep s e r)) (carry (seen s) x (place_new (lowest (taken (room_for (seen s) x)) (length (seen s).cells) 0)))
  unfolding plan_keep seen carry place_new answer_told
  keep_tied m q =
      rw (lowest_is (taken (room_for (seen s) x)) there (taken_same m q) (length (seen s).cells), count_is) (go (ltb cell s.sets.count) refl)
    where
      there : ℕ → Bool
      there = taken_in s.heads s.slots (gone_row r s.sets.used) s.sets.used

      cell : ℕ
      cell = lowest_free there s.sets.count

      count_is : length (seen s).cells ≡ s.sets.count
      count_is = cells_length s.cells s.sets.size s.sets.count

      go : (b : Bool) → ltb cell s.sets.count ≡ b
          → Tied (carried s bytes (cond b (plan.Keep (record { entry = e; room = r; cell = cell })) (plan.Refuse NoCell))) (carry (seen s) x (place_new (cond b (some cell) none)))
      go true h = kept_tied cell (ltb-true cell s.sets.count h) m q
      go false h = record { told = refl; shown = refl; reached = z }
