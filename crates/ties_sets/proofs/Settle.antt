-- A row becomes the newest, and goes out where it is full and not marked: what the store does is what the rules do.
-- Assumes nothing.
use mathlib.Core.Path.{◌≡◌, refl, sym, ap, ◌∙◌}
use mathlib.Core.Logic.{◌≢◌}
use mathlib.Core.Bool.{Bool, true, false, cond, not, ◌&&◌}
use mathlib.Core.List.{List, map}
use Prim.Native.Nat.{ℕ, suc, ◌+◌, ◌*◌, ◌≤◌, ◌<◌}
use native.Mathlib.Omega.{arith}
use lib.Dec.{eqb}
use lib.ListN.{length}
use Rattle.rules_shared.specs.Touch.{newest, aside}
use Rattle.rules_shared.specs.Row.{marked}
use Rattle.rules_shared.specs.Cells.{Held, Cells, bytes_of}
use Rattle.rules_sets.specs.Rules.{same_key, SetOf, SetsOf, handout, conflict, gives, full, whole, judged, judge}
use Rattle.rules_sets.specs.Cells.{Turn, on_whole, on_answer, shows, risen}
use Rattle.rules_sets.proofs.Keys.{same_key_true_lem}
use Rattle.cells.specs.Cells.{all_filled, all_whole, kept}
use Rattle.rows.specs.declared.Key.{Key}
use Rattle.rows.specs.Rows.{word, key_at, touched, row_slots, mark_of, with_mark}
use Rattle.ticks.specs.Order.{Goes, Touched}
use Rattle.ticks.specs.Slots.{cells_seen}
use Rattle.rows.proofs.Words.{OfKey, of_key, put_same, put_not, put_row, length_put, length_touched, touched_not}
use Rattle.ticks.proofs.Words.{ready_touched, put_touched, key_same}
use Rattle.ticks.proofs.Slots.{slots_same}
use Rattle.ticks.proofs.Touch.{goes_row, touched_seen, touched_stands, goes_in}
use Rattle.answers.specs.declared.Refusal.TheVariants.{Conflict}
use Rattle.store.specs.Store.{Store, store, risen_sets, settings_fit}
use Rattle.sets_settle.specs.declared.PushAnswer.TheVariants.{Nothing, Set, Refused}
use Rattle.sets_settle.specs.Settle.{SetsAfter, set_in, answered, goes_out, settled_answer, settled_heads, settled, handed}
use Rattle.ties_sets.specs.View.{key_shown, key_words, row_seen, seen, answer_told, Standing}
use Rattle.ties_sets.proofs.Rows.{same_self, row_same, row_marked, full_filled, sections_kept}

-- what a call left is what the rules' call left, and the store is one that a history reaches
pub record Tied (l : SetsAfter) (t : Turn) : Type 0 where
  pub told : answer_told l.told ≡ t.answer
  pub shown : seen l.store ≡ t.store
  pub reached : Standing l.store

-- s₁ is s with row i made ready for the key; no other row in use differs
pub record Ready (s s₁ : Store) (key : Key) (i : ℕ) : Type 0 where
  pub fits : settings_fit s₁.sets (length s₁.heads) (length s₁.slots) (length s₁.cells) ≡ true
  pub counts : s₁.sets.evictions ≤ 18446744073709551615
  pub clock : s₁.sets.clock ≡ s.sets.clock
  pub runs : s.sets.clock < 18446744073709551615
  pub long : s₁.sets.used * 12 ≤ length s₁.heads
  pub own : key_at s₁.heads i ≡ key
  pub others : (j m : ℕ) → j < s₁.sets.used → j ≢ i → m < 12 → word s₁.heads j m ≡ word s.heads j m
  pub slots : (j : ℕ) → j < s₁.sets.used → j ≢ i → row_slots s₁.heads s₁.slots j ≡ row_slots s.heads s.slots j
  pub row_whole : all_whole s₁.sets.count s₁.sets.size (row_slots s₁.heads s₁.slots i) ≡ true

module _ (s s₁ : Store) (key : Key) (i : ℕ) (z : Standing s) (proper : key_words (key_shown key) ≡ key)
    (g : Goes s.heads s.sets.limit s.sets.used s.sets.evictions key i s₁.sets.used s₁.sets.evictions) (r : Ready s s₁ key i) where
  abbrev used₁ : ℕ
  used₁ = s₁.sets.used

  -- the clock that has risen
  abbrev tick : ℕ
  tick = s₁.sets.clock + 1

  rise : s.sets.clock < tick
  rise = let e = r.clock in omega arith

  abbrev newer : List ℕ
  newer = touched tick i s₁.heads

  -- the heads that are left, with the mark set or not
  abbrev pub left_heads : Bool → List ℕ
  left_heads b = cond b (with_mark i 1 newer) newer

  abbrev pub left_store : Bool → Store
  left_store b = store (risen_sets s₁.sets) (left_heads b) s₁.slots s₁.cells

  abbrev pub row_there : SetOf Held
  row_there = row_seen s₁.heads s₁.slots i

  -- the rows beside the key's, as the rules leave them
  abbrev pub rest : SetsOf Held
  rest = aside same_key s.sets.limit (key_shown key) (seen s).sets

  hi : i < used₁
  hi = goes_row g

  left_length : (b : Bool) → length (left_heads b) ≡ length s₁.heads
  left_length true = length_put i 8 1 newer ∙ length_touched tick i s₁.heads
  left_length false = length_touched tick i s₁.heads

  -- all but the tick and the row's mark stays
  left_words : (b : Bool) (j m : ℕ) → m < 12 → m ≢ 8 → m ≢ 9 → word (left_heads b) j m ≡ word s₁.heads j m
  left_words true j m l n8 n9 = put_not newer i 8 1 j m n8 (omega arith) l ∙ touched_not tick i s₁.heads j m n9 l
  left_words false j m l n8 n9 = touched_not tick i s₁.heads j m n9 l

  left_other : (b : Bool) (j m : ℕ) → j ≢ i → m < 12 → m ≢ 9 → word (left_heads b) j m ≡ word s₁.heads j m
  left_other true j m ne l n9 = put_row newer i 8 1 j m ne (omega arith) l ∙ touched_not tick i s₁.heads j m n9 l
  left_other false j m ne l n9 = touched_not tick i s₁.heads j m n9 l

  newer_touched : Touched s.heads newer key i tick used₁
  newer_touched = ready_touched s.heads s₁.heads key i tick used₁ r.long hi r.own r.others

  left_touched : (b : Bool) → Touched s.heads (left_heads b) key i tick used₁
  left_touched true = put_touched s.heads newer key i tick used₁ i 8 1 newer_touched (λ m q. (of_key m q).no_mark) (omega arith) (omega arith)
  left_touched false = newer_touched

  left_row : (b : Bool) (j : ℕ) → j < s.sets.used → j ≢ i → j < used₁ → row_seen (left_heads b) s₁.slots j ≡ row_seen s.heads s.slots j
  left_row b j l ne h =
      row_same s.heads (left_heads b) s.slots s₁.slots j (λ m p q. left_other b j m ne (omega arith) (omega arith) ∙ r.others j m h ne (omega arith))
      (slots_same s₁.heads (left_heads b) s₁.slots j (left_other b j 7 ne (omega arith) (omega arith)) ∙ r.slots j h ne)

  own_row : (b : Bool) → row_seen (left_heads b) s₁.slots i ≡ cond b (marked row_there) row_there
  own_row true =
      let e = length_touched tick i s₁.heads in
      let l = r.long in
      let h = hi in
      row_marked s₁.heads (left_heads true) s₁.slots i (left_words true i 6 (omega arith) (omega arith) (omega arith)) (left_words true i 7 (omega arith) (omega arith) (omega arith))
      (put_same newer i 8 1 (omega arith))
  own_row false =
      row_same s₁.heads newer s₁.slots s₁.slots i (λ m p q. touched_not tick i s₁.heads i m (omega arith) (omega arith))
      (slots_same s₁.heads newer s₁.slots i (touched_not tick i s₁.heads i 7 (omega arith) (omega arith)))

  pub left_sets : (b : Bool) → (seen (left_store b)).sets ≡ newest (key_shown key) (cond b (marked row_there) row_there) rest
  unfolding seen
  left_sets b =
      touched_seen key_shown key_words same_key same_key_true_lem same_self s.heads s.sets.limit s.sets.used s.sets.clock tick s.sets.evictions key z.stands rise proper (row_seen s.heads s.slots)
      (left_heads b) (row_seen (left_heads b) s₁.slots) g (left_touched b) (λ j l ne. let m = goes_in g in left_row b j l ne (omega arith))
      ∙ ap (λ (q : SetOf Held). newest (key_shown key) q rest) (own_row b)

  pub left_reached : (b : Bool) → Standing (left_store b)
  left_reached b = record {
    fits = rw (left_length b) r.fits;
    counts = r.counts;
    ticks = let e = r.clock in let l = r.runs in omega arith;
    stands = touched_stands key_shown key_words same_key same_key_true_lem same_self s.heads s.sets.limit s.sets.used s.sets.clock tick s.sets.evictions key z.stands rise proper (left_heads b) g (left_touched b);
  }

  abbrev cells_there : Cells
  cells_there = cells_seen s₁.cells s₁.sets.size s₁.sets.count

  -- the set that goes out
  set_out : all_filled (row_slots s₁.heads s₁.slots i) ≡ true
      → answer_told (handed (set_in (left_store true) i)) ≡ on_answer (bytes_of cells_there) (handout (whole (key_shown key) row_there))
  unfolding answer_told set_in on_answer on_whole whole row_seen
  set_out f =
      let e : (m : ℕ) → m < 8 → word (left_heads true) i m ≡ word s₁.heads i m = λ m l. left_words true i m (omega arith) (omega arith) (omega arith) in
      let k : key_at (left_heads true) i ≡ key = key_same s₁.heads (left_heads true) i (λ m q. left_words true i m (of_key m q).below (of_key m q).no_mark (of_key m q).no_tick) ∙ r.own in
      let v = e 6 (omega arith) in
      let l = e 7 (omega arith) in
      let c = ap (map (kept s₁.cells s₁.sets.size)) (slots_same s₁.heads (left_heads true) s₁.slots i l) ∙ sym (sections_kept s₁.cells s₁.sets.size s₁.sets.count (row_slots s₁.heads s₁.slots i) f r.row_whole) in
      λ t. handout (record { key = key_shown (k t); version = v t; last = l t; sections = c t })

  goes_as : goes_out newer s₁.slots i ≡ (eqb (mark_of s₁.heads i) 0 && all_filled (row_slots s₁.heads s₁.slots i))
  unfolding goes_out
  goes_as =
      rw (touched_not tick i s₁.heads i 8 (omega arith) (omega arith), slots_same s₁.heads newer s₁.slots i (touched_not tick i s₁.heads i 7 (omega arith) (omega arith)))

  -- the settings are those of s
  module _ (limit : s₁.sets.limit ≡ s.sets.limit) (size : s₁.sets.size ≡ s.sets.size) where
    left_shown : (b : Bool) → seen (left_store b) ≡ record { settings = (seen s).settings; sets = newest (key_shown key) (cond b (marked row_there) row_there) rest; cells = cells_there; clock = suc (seen s).clock }
    unfolding seen
    left_shown b =
        let q = left_sets b in
        let c : tick ≡ suc s.sets.clock = let e = r.clock in omega arith in
        λ t. record { settings = record { limit = limit t; cell_size = size t }; sets = q t; cells = cells_there; clock = c t }

    pub settle_tied : Tied (settled s₁ i) (shows (risen (seen s)) cells_there (judge rest (key_shown key) row_there))
    unfolding settled settled_answer settled_heads judge judged shows row_seen on_answer answer_told
    settle_tied = rw (goes_as, full_filled (row_slots s₁.heads s₁.slots i)) (go (eqb (mark_of s₁.heads i) 0) (all_filled (row_slots s₁.heads s₁.slots i)) refl)
      where
        go : (m f : Bool) → all_filled (row_slots s₁.heads s₁.slots i) ≡ f
            → Tied (answered (cond (m && f) (Set i) Nothing) (left_store (m && f))) (shows (risen (seen s)) cells_there (judged rest (key_shown key) row_there (not m) f))
        go true true e = record { told = set_out e; shown = left_shown true; reached = left_reached true }
        go true false e = record { told = refl; shown = left_shown false; reached = left_reached false }
        go false f e = record { told = refl; shown = left_shown false; reached = left_reached false }

    pub conflict_tied : Tied (answered (Refused Conflict) (left_store false)) (shows (risen (seen s)) cells_there (gives conflict (newest (key_shown key) row_there rest)))
    unfolding shows answer_told on_answer
    conflict_tied = record { told = refl; shown = left_shown false; reached = left_reached false }
