-- What the words of heads and slots are after a change, row by row.
-- Assumes nothing.
use mathlib.Core.Path.{◌≡◌, refl, ◌∙◌}
use mathlib.Core.Logic.{◌≢◌}
use mathlib.Core.List.{List}
use mathlib.Core.Bool.{Bool, true, false, cond}
use Prim.Native.Nat.{ℕ, ◌+◌, ◌-◌, ◌*◌, ◌≤◌, ◌<◌}
use native.Mathlib.Nat.{le_refl}
use native.Mathlib.Decide.{dec_lt}
use native.Mathlib.Omega.{arith}
use lib.ListN.{length, get_or, drop, replicate, length-set, length-drop, length-replicate}
use lib.Seq.{get_or-set_same, get_or-set_other, paste, length-paste, get_or-take, get_or-drop, length-take-le}
use Rattle.laws.proofs.Lists.{paste_past, paste_before, paste_in, get_d_none}
use Rattle.rows.specs.declared.Entry.{Entry}
use Rattle.rows.specs.declared.Room.{Room}
use Rattle.rows.specs.Rows.{word, put, KeyWord, to_5, is_10, touched, head_of, fresh_head, kept_heads, slots_at, slot_count, row_slots, emptied, kept_slots, tick_of, last_of, with_mark}

-- ---- one word

pub put_same : (h : List ℕ) (i k v : ℕ) → i * 12 + k < length h → word (put i k v h) i k ≡ v
put_same h i k v l = get_or-set_same h (i * 12 + k) v 0 l

pub put_row : (h : List ℕ) (i k v j m : ℕ) → j ≢ i → k < 12 → m < 12 → word (put i k v h) j m ≡ word h j m
put_row h i k v j m ne hk hm = get_or-set_other h (i * 12 + k) (j * 12 + m) v 0 (omega arith)

pub put_not : (h : List ℕ) (i k v j m : ℕ) → m ≢ k → k < 12 → m < 12 → word (put i k v h) j m ≡ word h j m
put_not h i k v j m ne hk hm = get_or-set_other h (i * 12 + k) (j * 12 + m) v 0 (omega arith)

pub length_put : (i k v : ℕ) (h : List ℕ) → length (put i k v h) ≡ length h
length_put i k v h = length-set h (i * 12 + k) v

-- ---- a touch

pub length_touched : (clock i : ℕ) (h : List ℕ) → length (touched clock i h) ≡ length h
unfolding touched
length_touched clock i h = length_put i 9 clock h

-- a touch changes a tick alone
pub touched_not : (clock i : ℕ) (h : List ℕ) (j m : ℕ) → m ≢ 9 → m < 12 → word (touched clock i h) j m ≡ word h j m
unfolding touched
touched_not clock i h j m ne l = put_not h i 9 clock j m ne (omega arith) l

pub touched_newest : (clock i : ℕ) (h : List ℕ) → i * 12 + 12 ≤ length h → tick_of (touched clock i h) i ≡ clock
unfolding touched
touched_newest clock i h l = put_same h i 9 clock (omega arith)

-- .. and that of its row
pub touched_other : (clock i : ℕ) (h : List ℕ) (j m : ℕ) → j ≢ i → m < 12 → word (touched clock i h) j m ≡ word h j m
unfolding touched
touched_other clock i h j m ne l = put_row h i 9 clock j m ne (omega arith) l

-- ---- the words of a key

-- a word of a key is one of the 12, and neither the mark nor the tick
pub record OfKey (m : ℕ) : Type 0 where
  pub below : m < 12
  pub no_mark : m ≢ 8
  pub no_tick : m ≢ 9

pub of_key : (m : ℕ) → KeyWord m → OfKey m
of_key m (to_5 n h) = record { below = omega arith; no_mark = omega arith; no_tick = omega arith }
of_key m is_10 = record { below = omega arith; no_mark = omega arith; no_tick = omega arith }

-- ---- a row that begins anew

module _ (i : ℕ) (e : Entry) (h : List ℕ) (l : i * 12 + 12 ≤ length h) where
  pub length_fresh : length (fresh_head i e h) ≡ length h
  unfolding fresh_head
  length_fresh = length-paste h (i * 12) (head_of e) 12 l (le_refl 12)

  -- its head is the section's
  pub fresh_word : (k : ℕ) → k < 12 → word (fresh_head i e h) i k ≡ get_or (head_of e) k 0
  unfolding fresh_head
  fresh_word k hk = paste_in h (i * 12) (head_of e) 12 k 0 l (le_refl 12) hk

  pub fresh_row : (j k : ℕ) → j ≢ i → k < 12 → word (fresh_head i e h) j k ≡ word h j k
  unfolding fresh_head
  fresh_row j k ne hk = go (dec_lt j i)
    where
      go : Dec (j < i) → word (paste h (i * 12) (head_of e) 12) j k ≡ word h j k
      go (yes lt) = paste_before h (i * 12) (head_of e) 12 (j * 12 + k) 0 l (le_refl 12) (omega arith)
      go (no ge) = paste_past h (i * 12) (head_of e) 12 (j * 12 + k) 0 (omega arith) (le_refl 12) (omega arith)

module _ (r : Room) (e : Entry) (h : List ℕ) (l : r.row * 12 + 12 ≤ length h) where
  pub length_kept : length (kept_heads r e h) ≡ length h
  unfolding kept_heads
  length_kept = go r.fresh
    where
      go : (b : Bool) → length (cond b (fresh_head r.row e h) (with_mark r.row 0 h)) ≡ length h
      go true = length_fresh r.row e h l
      go false = length_put r.row 8 0 h

  -- the other rows' heads are as they were
  pub kept_row : (j k : ℕ) → j ≢ r.row → k < 12 → word (kept_heads r e h) j k ≡ word h j k
  unfolding kept_heads
  kept_row j k ne hk = go r.fresh
    where
      go : (b : Bool) → word (cond b (fresh_head r.row e h) (with_mark r.row 0 h)) j k ≡ word h j k
      go true = fresh_row r.row e h l j k ne hk
      go false = put_row h r.row 8 0 j k ne (omega arith) hk

  pub kept_fresh : r.fresh ≡ true → (k : ℕ) → k < 12 → word (kept_heads r e h) r.row k ≡ get_or (head_of e) k 0
  unfolding kept_heads
  kept_fresh t k hk = rw t (fresh_word r.row e h l k hk)

  -- a known row's head loses its mark, and is else as it was
  pub kept_known : r.fresh ≡ false → (k : ℕ) → k ≢ 8 → k < 12 → word (kept_heads r e h) r.row k ≡ word h r.row k
  unfolding kept_heads
  kept_known t k ne hk = rw t (put_not h r.row 8 0 r.row k ne (omega arith) hk)

-- ---- slots

-- slot k of row i
pub slot_at : (heads slots : List ℕ) (i k : ℕ) → k < slot_count (last_of heads i) → get_or (row_slots heads slots i) k 0 ≡ get_or slots (slots_at i + k) 0
unfolding row_slots
slot_at heads slots i k h = get_or-take (slot_count (last_of heads i)) (drop (slots_at i) slots) k 0 h ∙ get_or-drop (slots_at i) slots k 0

pub length_slots : (heads slots : List ℕ) (i : ℕ) → i * 288 + 288 ≤ length slots → length (row_slots heads slots i) ≡ slot_count (last_of heads i)
unfolding row_slots
length_slots heads slots i l = length-take-le (slot_count (last_of heads i)) (drop (slots_at i) slots) (rw (length-drop (slots_at i) slots) (omega arith))

module _ (at n : ℕ) (slots : List ℕ) (l : at + n ≤ length slots) where
  zeros : n ≤ length (replicate {A = ℕ} n 0)
  zeros = rw (length-replicate {A = ℕ} n 0) (le_refl n)

  pub length_emptied : length (emptied at n slots) ≡ length slots
  length_emptied = length-paste slots at (replicate n 0) n l zeros

  pub emptied_in : (k : ℕ) → at ≤ k → k < at + n → get_or (emptied at n slots) k 0 ≡ 0
  emptied_in k a b =
      let e : k ≡ at + (k - at) = omega arith in
      rw e (paste_in slots at (replicate n 0) n (k - at) 0 l zeros (omega arith) ∙ get_d_none n (k - at) 0)

  pub emptied_out : (k : ℕ) → (at ≤ k → k < at + n → ⊥) → get_or (emptied at n slots) k 0 ≡ get_or slots k 0
  emptied_out k f = go (dec_lt k at)
    where
      go : Dec (k < at) → get_or (emptied at n slots) k 0 ≡ get_or slots k 0
      go (yes lt) = paste_before slots at (replicate n 0) n k 0 l zeros lt
      go (no ge) = go' (dec_lt k (at + n))
        where
          go' : Dec (k < at + n) → get_or (emptied at n slots) k 0 ≡ get_or slots k 0
          go' (yes lt) = absurd (f (omega arith) lt)
          go' (no gt) = paste_past slots at (replicate n 0) n k 0 (omega arith) zeros (omega arith)

-- the slots after a section is kept
module _ (r : Room) (e : Entry) (w : ℕ) (slots : List ℕ) (l : r.row * 288 + 288 ≤ length slots) (hn : e.number ≤ e.last) (hl : e.last < 256) where
  abbrev begun : List ℕ
  begun = cond r.fresh (emptied (slots_at r.row) (e.last + 1) slots) slots

  length_begun : length begun ≡ length slots
  length_begun = go r.fresh
    where
      go : (b : Bool) → length (cond b (emptied (slots_at r.row) (e.last + 1) slots) slots) ≡ length slots
      go true = length_emptied (slots_at r.row) (e.last + 1) slots (omega arith)
      go false = refl

  pub length_kept_slots : length (kept_slots r e w slots) ≡ length slots
  unfolding kept_slots
  length_kept_slots = length-set begun (slots_at r.row + e.number) w ∙ length_begun

  -- the section's own slot
  pub kept_slot : get_or (kept_slots r e w slots) (slots_at r.row + e.number) 0 ≡ w
  unfolding kept_slots
  kept_slot = get_or-set_same begun (slots_at r.row + e.number) w 0 (let q = length_begun in omega arith)

  -- the slots of the other rows
  pub kept_other : (j k : ℕ) → j ≢ r.row → k < 256 → get_or (kept_slots r e w slots) (slots_at j + k) 0 ≡ get_or slots (slots_at j + k) 0
  unfolding kept_slots
  kept_other j k ne hk = get_or-set_other begun (slots_at r.row + e.number) (slots_at j + k) w 0 (omega arith) ∙ go r.fresh
    where
      go : (b : Bool) → get_or (cond b (emptied (slots_at r.row) (e.last + 1) slots) slots) (slots_at j + k) 0 ≡ get_or slots (slots_at j + k) 0
      go true = emptied_out (slots_at r.row) (e.last + 1) slots (omega arith) (slots_at j + k) (λ p q. absurd (omega arith))
      go false = refl

  -- the other slots of the section's row: empty where it begins anew, else as they were
  pub kept_empty : r.fresh ≡ true → (k : ℕ) → k ≢ e.number → k ≤ e.last → get_or (kept_slots r e w slots) (slots_at r.row + k) 0 ≡ 0
  unfolding kept_slots
  kept_empty t k ne hk =
      get_or-set_other begun (slots_at r.row + e.number) (slots_at r.row + k) w 0 (omega arith)
      ∙ rw t (emptied_in (slots_at r.row) (e.last + 1) slots (omega arith) (slots_at r.row + k) (omega arith) (omega arith))

  pub kept_same : r.fresh ≡ false → (k : ℕ) → k ≢ e.number → get_or (kept_slots r e w slots) (slots_at r.row + k) 0 ≡ get_or slots (slots_at r.row + k) 0
  unfolding kept_slots
  kept_same t k ne = get_or-set_other begun (slots_at r.row + e.number) (slots_at r.row + k) w 0 (omega arith) ∙ rw t
