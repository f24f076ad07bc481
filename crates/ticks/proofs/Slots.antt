-- Slots: what a row's words show before and after a section is kept, and the tests of all rows that the code makes, as the rules have them.
-- Assumes nothing.
use mathlib.Core.Path.{◌≡◌, refl, sym, ap, ◌∙◌}
use mathlib.Core.Logic.{◌≢◌, ◌⊎◌, inl, inr}
use mathlib.Core.Bool.{Bool, true, false, cond, not, ◌&&◌, ◌||◌, and_comm}
use mathlib.Core.Option.{Option, none, some}
use mathlib.Core.List.{List, [], ◌∷◌, map}
use Prim.Native.Nat.{ℕ, zero, suc, ◌+◌, ◌-◌, ◌*◌, ◌/◌, ◌%◌, ◌≤◌, ◌<◌, min}
use native.Mathlib.Decide.{dec_le}
use native.Mathlib.Omega.{arith}
use borrow.Author.Tests.{eq-eqb, ne_eqb, lt-ltb, le-ltb}
use lib.Dec.{eqb, ltb, leb}
use lib.ListN.{length, take, drop, get_or, set, replicate, length-take, length-drop, length-set, length-replicate, get_or-map, length-map}
use lib.Seq.{paste, get_or-take, get_or-drop, ext_get_or, take-paste, drop_at, take_all, length-take-le, take-set-lt, drop-set-add, get_or-set_other, length-paste}
use Rattle.laws.specs.Lists.{every, any, first_from}
use Rattle.laws.proofs.Lists.{paste_before, paste_past, drop_take}
use Rattle.laws.proofs.Tests.{same_test}
use Rattle.rules_shared.specs.Slots.{some_held, every_held}
use Rattle.rules_shared.specs.Touch.{every_row}
use Rattle.rules_shared.specs.Cells.{Settings, Held, Cells, names, held_whole, lowest}
use Rattle.cells.specs.Cells.{slot_word, kept_length, cell_number, filled, slot_whole, all_whole, some_names, lowest_free}
use Rattle.rows.specs.declared.Key.{Key}
use Rattle.rows.specs.declared.Entry.{Entry}
use Rattle.rows.specs.declared.Room.{Room}
use Rattle.rows.specs.Rows.{slots_at, slot_count, row_slots, emptied, kept_slots, rows_whole, last_of, tick_of}
use Rattle.rows.proofs.Whole.{rows_get, rows_all}
use Rattle.ticks.specs.Order.{rows_seen, Ticked}
use Rattle.ticks.specs.Slots.{held_of, held_slots}
use Rattle.ticks.proofs.Ticks.{order_every, every_order}

-- ---- parts of a list

-- two lists as long, alike from `at` on for n elements
pub part_alike : {A : Type 0} (d : A) (xs ys : List A) (at n : ℕ) → length xs ≡ length ys → ((k : ℕ) → at ≤ k → k < at + n → get_or xs k d ≡ get_or ys k d)
    → take n (drop at xs) ≡ take n (drop at ys)
part_alike d xs ys at n l e =
    let lx : length (take n (drop at xs)) ≡ min n (length xs - at) = length-take n (drop at xs) ∙ ap (min n) (length-drop at xs) in
    let ly : length (take n (drop at ys)) ≡ min n (length ys - at) = length-take n (drop at ys) ∙ ap (min n) (length-drop at ys) in
    ext_get_or d (take n (drop at xs)) (take n (drop at ys)) (omega arith) (λ i h.
    let k : i < n = omega arith in
    get_or-take n (drop at xs) i d k ∙ get_or-drop at xs i d ∙ e (at + i) (omega arith) (omega arith) ∙ sym (get_or-take n (drop at ys) i d k ∙ get_or-drop at ys i d))

-- what was pasted is there
pub part_pasted : {A : Type 0} (d : List A) (at : ℕ) (s : List A) (n : ℕ) → at ≤ length d → n ≤ length s → take n (drop at (paste d at s n)) ≡ take n s
part_pasted d at s n h k =
    sym (drop_take at n (paste d at s n)) ∙ ap (drop at) (take-paste d at s n h k) ∙ drop_at (take at d) (take n s) at (length-take-le at d h)

-- a part of a list that a paste leaves alone
pub part_beside : {A : Type 0} (z : A) (d : List A) (at : ℕ) (s : List A) (n a l : ℕ) → at + n ≤ length d → n ≤ length s → (a + l ≤ at) ⊎ (at + n ≤ a)
    → take l (drop a (paste d at s n)) ≡ take l (drop a d)
part_beside z d at s n a l h k o = part_alike z (paste d at s n) d a l (length-paste d at s n h k) (λ i p q. beside i p q o)
  where
    beside : (i : ℕ) → a ≤ i → i < a + l → (a + l ≤ at) ⊎ (at + n ≤ a) → get_or (paste d at s n) i z ≡ get_or d i z
    beside i p q (inl r) = paste_before d at s n i z h k (omega arith)
    beside i p q (inr r) = paste_past d at s n i z (omega arith) k (omega arith)

-- ---- one word

abbrev pub place : ℕ → Held
place w = record { cell = cell_number w; size = kept_length w }

pub held_filled : (w : ℕ) → filled w ≡ true → held_of w ≡ some (place w)
unfolding held_of
held_filled w h = rw h

pub held_empty : (w : ℕ) → kept_length w ≡ 0 → held_of w ≡ none
unfolding held_of
held_empty w h = rw (eq-eqb (kept_length w) 0 h)

-- the word of n bytes in cell c
pub held_new : (n c : ℕ) → n ≢ 0 → c < 65536 → held_of (slot_word n c) ≡ some (record { cell = c; size = n })
unfolding held_of
held_new n c h l =
    let p : (n * 65536 + c) / 65536 ≡ n = omega arith in
    let q : (n * 65536 + c) % 65536 ≡ c = omega arith in
    rw (p, q, ne_eqb n 0 h)

-- ---- the words of a row

pub held_length : (ws : List ℕ) → length (held_slots ws) ≡ length ws
unfolding held_slots
held_length ws = length-map ws held_of

pub held_get : (ws : List ℕ) (n : ℕ) → get_or (held_slots ws) n none ≡ held_of (get_or ws n 0)
unfolding held_slots held_of
held_get ws n = get_or-map held_of ws n 0

pub held_set : (ws : List ℕ) (n w : ℕ) → held_slots (set ws n w) ≡ set (held_slots ws) n (held_of w)
unfolding held_slots
held_set [] n w = refl
held_set (v ∷ ws) zero w = refl
held_set (v ∷ ws) (suc n) w = ap (λ (l : List (Option Held)). held_of v ∷ l) (held_set ws n w)

pub held_none : (n : ℕ) → held_slots (replicate n 0) ≡ replicate n none
unfolding held_slots held_of
held_none zero = refl
held_none (suc n) = ap (λ (l : List (Option Held)). none ∷ l) (held_none n)

-- .. pass 10's test as the rules have it
pub held_whole_lem : (o : Settings) (cells : Cells) (ws : List ℕ) → every_held (held_whole o cells) (held_slots ws) ≡ all_whole (length cells) o.cell_size ws
unfolding held_slots every_held every held_of slot_whole held_whole
held_whole_lem o cells [] = refl
held_whole_lem o cells (w ∷ ws) = go (eqb (kept_length w) 0) (held_whole_lem o cells ws)
  where
    a : Bool
    a = leb 12 (kept_length w)

    b : Bool
    b = leb (kept_length w) o.cell_size

    c : Bool
    c = ltb (cell_number w) (length cells)

    go : (t : Bool) → every_held (held_whole o cells) (held_slots ws) ≡ all_whole (length cells) o.cell_size ws
        → every_held (held_whole o cells) (cond (not t) (some (place w)) none ∷ held_slots ws) ≡ ((t || (a && b && c)) && all_whole (length cells) o.cell_size ws)
    go true ih = ih
    go false ih = rw ih (ap (λ (x : Bool). x && all_whole (length cells) o.cell_size ws) (and_comm c (a && b)))

-- .. and name a cell as the rules have it
pub held_names_lem : (c : ℕ) (ws : List ℕ) → some_held (names c) (held_slots ws) ≡ some_names c ws
unfolding held_slots some_held any held_of names
held_names_lem c [] = refl
held_names_lem c (w ∷ ws) = go (filled w) (held_names_lem c ws)
  where
    go : (t : Bool) → some_held (names c) (held_slots ws) ≡ some_names c ws
        → some_held (names c) (cond t (some (place w)) none ∷ held_slots ws) ≡ ((t && eqb (cell_number w) c) || some_names c ws)
    go true ih = ap (λ (x : Bool). eqb (cell_number w) c || x) ih
    go false ih = ih

-- ---- the slots of a row, by its number

abbrev slots_of : List ℕ → ℕ → ℕ → List ℕ
slots_of slots i n = take n (drop (slots_at i) slots)

-- the row's last_section_number is all that its slots know of its head
pub slots_same : (heads heads' slots : List ℕ) (i : ℕ) → last_of heads' i ≡ last_of heads i → row_slots heads' slots i ≡ row_slots heads slots i
unfolding row_slots
slots_same heads heads' slots i e = rw e

-- what a section that is kept leaves in the slots; w is the section's word
module _ (r : Room) (e : Entry) (w : ℕ) (slots : List ℕ) (long : r.row * 288 + 288 ≤ length slots) (number : e.number ≤ e.last) (last : e.last < 256) where
  abbrev ready : Bool → List ℕ
  ready b = cond b (emptied (slots_at r.row) (e.last + 1) slots) slots

  -- no word before or after the row's changes
  pub slots_beside : (a n : ℕ) → (a + n ≤ slots_at r.row) ⊎ (r.row * 288 + 288 ≤ a) → take n (drop a (kept_slots r e w slots)) ≡ take n (drop a slots)
  unfolding kept_slots
  slots_beside a n o =
      part_alike 0 (set (ready r.fresh) (slots_at r.row + e.number) w) (ready r.fresh) a n (length-set (ready r.fresh) (slots_at r.row + e.number) w)
      (λ k p q. get_or-set_other (ready r.fresh) (slots_at r.row + e.number) k w 0 (away k p q o))
      ∙ go r.fresh
    where
      away : (k : ℕ) → a ≤ k → k < a + n → (a + n ≤ slots_at r.row) ⊎ (r.row * 288 + 288 ≤ a) → k ≢ slots_at r.row + e.number
      away k p q (inl z) = omega arith
      away k p q (inr z) = omega arith

      beside : (a + n ≤ slots_at r.row) ⊎ (r.row * 288 + 288 ≤ a) → (a + n ≤ slots_at r.row) ⊎ (slots_at r.row + (e.last + 1) ≤ a)
      beside (inl z) = inl z
      beside (inr z) = inr (omega arith)

      go : (b : Bool) → take n (drop a (ready b)) ≡ take n (drop a slots)
      go true =
          let z : length (replicate {A = ℕ} (e.last + 1) 0) ≡ e.last + 1 = length-replicate (e.last + 1) 0 in
          part_beside 0 slots (slots_at r.row) (replicate (e.last + 1) 0) (e.last + 1) a n (omega arith) (omega arith) (beside o)
      go false = refl

  -- the slots of another row
  pub other_slots : (heads heads' : List ℕ) (j : ℕ) → j ≢ r.row → last_of heads' j ≡ last_of heads j → row_slots heads' (kept_slots r e w slots) j ≡ row_slots heads slots j
  unfolding row_slots
  other_slots heads heads' j ne q = rw q (slots_beside (slots_at j) (slot_count (last_of heads j)) (side (dec_le (suc j) r.row)))
    where
      side : Dec (suc j ≤ r.row) → (slots_at j + slot_count (last_of heads j) ≤ slots_at r.row) ⊎ (r.row * 288 + 288 ≤ slots_at j)
      side (yes l) = inl (omega arith)
      side (no l) = inr (omega arith)

  -- the row's own, where it goes on
  pub own_slots : (heads heads' : List ℕ) → r.fresh ≡ false → last_of heads r.row ≡ e.last → last_of heads' r.row ≡ e.last
      → row_slots heads' (kept_slots r e w slots) r.row ≡ set (row_slots heads slots r.row) e.number w
  unfolding row_slots kept_slots
  own_slots heads heads' f p q =
      rw (f, p, q, drop-set-add (slots_at r.row) slots e.number w) (take-set-lt (slot_count e.last) (drop (slots_at r.row) slots) e.number w (omega arith))

  -- and where it begins anew
  pub fresh_slots : (heads' : List ℕ) → r.fresh ≡ true → last_of heads' r.row ≡ e.last → row_slots heads' (kept_slots r e w slots) r.row ≡ set (replicate (suc e.last) 0) e.number w
  unfolding row_slots kept_slots
  fresh_slots heads' f q =
      let es : List ℕ = emptied (slots_at r.row) (e.last + 1) slots in
      let n : slot_count e.last ≡ e.last + 1 = omega arith in
      let m : e.last + 1 ≡ suc e.last = omega arith in
      let z : length (replicate {A = ℕ} (e.last + 1) 0) ≡ e.last + 1 = length-replicate (e.last + 1) 0 in
      rw (f, q, drop-set-add (slots_at r.row) es e.number w, take-set-lt (slot_count e.last) (drop (slots_at r.row) es) e.number w (omega arith), n)
      (ap (λ (l : List ℕ). set l e.number w)
      (part_pasted slots (slots_at r.row) (replicate (e.last + 1) 0) (e.last + 1) (omega arith) (omega arith) ∙ take_all (e.last + 1) (replicate (e.last + 1) 0) (omega arith)
      ∙ ap (λ (k : ℕ). replicate k 0) m))

-- ---- all rows in use

-- the code's test of all slots is the rules' test of every row. `test` is the rules' test of one row
pub rows_whole_lem : {K R : Type 0} (shown : Key → K) (heads slots : List ℕ) (count size used clock : ℕ) → Ticked (tick_of heads) used clock → (test : R → Bool) (row : ℕ → R)
    → ((j : ℕ) → test (row j) ≡ all_whole count size (row_slots heads slots j)) → every_row test (rows_seen shown heads used clock row) ≡ rows_whole heads slots count size used
unfolding rows_seen
rows_whole_lem shown heads slots count size used clock w test row e =
    same_test (every_row test (rows_seen shown heads used clock row)) (rows_whole heads slots count size used)
    (λ t. rows_all heads slots count size used (λ j h. sym (e j) ∙ every_order (tick_of heads) used clock w _ test j t h))
    (λ t. order_every (tick_of heads) used clock w _ test (λ j h. e j ∙ rows_get heads slots count size used j t h))

-- ---- the lowest free cell

first_is : (t u : ℕ → Bool) → ((c : ℕ) → t c ≡ u c) → (n c : ℕ)
    → lowest t n c ≡ cond (ltb (first_from (λ (d : ℕ). not (u d)) n c) (c + n)) (some (first_from (λ (d : ℕ). not (u d)) n c)) none
unfolding lowest first_from
first_is t u e zero c = rw (le-ltb c (c + 0) (omega arith))
first_is t u e (suc n) c = rw (e c) (go (u c) (first_is t u e n (suc c)))
  where
    f : ℕ
    f = first_from (λ (d : ℕ). not (u d)) n (suc c)

    go : (b : Bool) → lowest t n (suc c) ≡ cond (ltb f (suc c + n)) (some f) none
        → cond b (lowest t n (suc c)) (some c) ≡ cond (ltb (cond (not b) c f) (c + suc n)) (some (cond (not b) c f)) none
    go true ih = let z : suc c + n ≡ c + suc n = omega arith in ih ∙ rw z
    go false ih = rw (lt-ltb c (c + suc n) (omega arith))

-- "The lowest free cell is used": what the code finds, in the words of the rules
pub lowest_is : (t u : ℕ → Bool) → ((c : ℕ) → t c ≡ u c) → (n : ℕ) → lowest t n 0 ≡ cond (ltb (lowest_free u n) n) (some (lowest_free u n)) none
lowest_is t u e n = let z : 0 + n ≡ n = omega arith in first_is t u e n 0 ∙ rw z
