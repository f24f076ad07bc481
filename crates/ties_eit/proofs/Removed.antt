-- What stands where once a row has left: the row that stands in row j's place is the one that `moved_from` names, with its head and its words.
-- Assumes nothing.
use mathlib.Core.Path.{◌≡◌, sym, ap, ◌∙◌}
use mathlib.Core.Logic.{◌≢◌}
use mathlib.Core.List.{List}
use mathlib.Core.Bool.{Bool, true, false, cond}
use Prim.Native.Nat.{ℕ, suc, ◌+◌, ◌-◌, ◌*◌, ◌≤◌, ◌<◌}
use native.Mathlib.Nat.{suc-mul, mul-le-mul_right}
use native.Mathlib.Decide.{ℕ_discrete, dec_lt}
use native.Mathlib.Omega.{arith}
use borrow.Author.Tests.{eq-eqb, ne_eqb}
use lib.Dec.{eqb}
use lib.ListN.{length, get_or, take, drop, length-drop}
use lib.Seq.{get_or-take, get_or-drop, length-take-le, length-paste, ext_get_or}
use Rattle.laws.proofs.Lists.{paste_past, paste_before, paste_in}
use Rattle.rows.specs.Rows.{word, key_at, slot_count, row_slots, last_of}
use Rattle.ticks.specs.Order.{moved_from, Dropped}
use Rattle.filter.specs.declared.Of.{Of}
use Rattle.filter.specs.declared.Of.TheVariants as of
use Rattle.filter.specs.Drops.{width_of, moved_to, removed_heads, removed_words}
use Rattle.filter.proofs.Laws.{part, part_long}

-- ---- rows of w words: the last row in use is moved to row i

module _ (w used i : ℕ) (xs : List ℕ) (hi : i < used) (l : used * w ≤ length xs) where
  abbrev shifted : List ℕ
  shifted = moved_to (i * w) ((used - 1) * w) w xs

  ends : (used - 1) * w + w ≤ length xs
  ends =
      let s : suc (used - 1) ≡ used = omega arith in
      let e : (used - 1) * w + w ≡ used * w = sym (suc-mul (used - 1) w) ∙ ap (λ (k : ℕ). k * w) s in
      omega arith

  row_ends : i * w + w ≤ length xs
  row_ends = let m : i * w ≤ (used - 1) * w = mul-le-mul_right w (omega arith) in let e = ends in omega arith

  taken : length (part ((used - 1) * w) w xs) ≡ w
  taken = part_long ((used - 1) * w) w xs ends

  pub length_shifted : length shifted ≡ length xs
  length_shifted = length-paste xs (i * w) (part ((used - 1) * w) w xs) w row_ends (let e = taken in omega arith)

  shifted_own : (k : ℕ) → k < w → get_or shifted (i * w + k) 0 ≡ get_or xs ((used - 1) * w + k) 0
  shifted_own k h =
      paste_in xs (i * w) (part ((used - 1) * w) w xs) w k 0 row_ends (let e = taken in omega arith) h
      ∙ get_or-take w (drop ((used - 1) * w) xs) k 0 h ∙ get_or-drop ((used - 1) * w) xs k 0

  shifted_other : (j k : ℕ) → k < w → j ≢ i → get_or shifted (j * w + k) 0 ≡ get_or xs (j * w + k) 0
  shifted_other j k h ne = go (dec_lt j i)
    where
      go : Dec (j < i) → get_or shifted (j * w + k) 0 ≡ get_or xs (j * w + k) 0
      go (yes lt) =
          let m : suc j * w ≤ i * w = mul-le-mul_right w lt in
          let s = suc-mul j w in
          paste_before xs (i * w) (part ((used - 1) * w) w xs) w (j * w + k) 0 row_ends (let e = taken in omega arith) (omega arith)
      go (no ge) =
          let m : suc i * w ≤ j * w = mul-le-mul_right w (omega arith) in
          let s = suc-mul i w in
          let r = row_ends in
          paste_past xs (i * w) (part ((used - 1) * w) w xs) w (j * w + k) 0 (omega arith) (let e = taken in omega arith) (omega arith)

  -- row j's words
  pub shifted_row : (j k : ℕ) → k < w → get_or shifted (j * w + k) 0 ≡ get_or xs (moved_from used i j * w + k) 0
  shifted_row j k h = go (ℕ_discrete j i)
    where
      go : Dec (j ≡ i) → get_or shifted (j * w + k) 0 ≡ get_or xs (moved_from used i j * w + k) 0
      go (yes e) = rw (eq-eqb j i e) (ap (λ (x : ℕ). get_or shifted (x * w + k) 0) e ∙ shifted_own k h)
      go (no ne) = rw (ne_eqb j i ne) (shifted_other j k h ne)

  moved_low : (j : ℕ) → j < used → moved_from used i j < used
  moved_low j h = go (eqb j i)
    where
      go : (b : Bool) → cond b (used - 1) j < used
      go true = omega arith
      go false = h

  part_there : (j k n : ℕ) → j < used → k + n ≤ w → j * w + k + n ≤ length xs
  part_there j k n h m = let s = suc-mul j w in let p : suc j * w ≤ used * w = mul-le-mul_right w h in omega arith

  -- a part of row j
  pub shifted_part : (j k n : ℕ) → j < used → k + n ≤ w → take n (drop (j * w + k) shifted) ≡ take n (drop (moved_from used i j * w + k) xs)
  shifted_part j k n h m =
      let e : length shifted ≡ length xs = length_shifted in
      let p = part_there j k n h m in
      let q = part_there (moved_from used i j) k n (moved_low j h) m in
      let a : length (take n (drop (j * w + k) shifted)) ≡ n = length-take-le n (drop (j * w + k) shifted) (rw (length-drop (j * w + k) shifted) (omega arith)) in
      let b : length (take n (drop (moved_from used i j * w + k) xs)) ≡ n = length-take-le n (drop (moved_from used i j * w + k) xs) (rw (length-drop (moved_from used i j * w + k) xs) (omega arith)) in
      ext_get_or 0 (take n (drop (j * w + k) shifted)) (take n (drop (moved_from used i j * w + k) xs)) (a ∙ sym b) (λ x lt.
      let g : x < n = omega arith in
      let u : j * w + k + x ≡ j * w + (k + x) = omega arith in
      let v : moved_from used i j * w + (k + x) ≡ moved_from used i j * w + k + x = omega arith in
      get_or-take n (drop (j * w + k) shifted) x 0 g ∙ get_or-drop (j * w + k) shifted x 0 ∙ ap (λ (z : ℕ). get_or shifted z 0) u ∙ shifted_row j (k + x) (omega arith)
      ∙ ap (λ (z : ℕ). get_or xs z 0) v ∙ sym (get_or-take n (drop (moved_from used i j * w + k) xs) x 0 g ∙ get_or-drop (moved_from used i j * w + k) xs x 0))

-- ---- heads

module _ (used i : ℕ) (h : List ℕ) (hi : i < used) (l : used * 12 ≤ length h) where
  pub length_removed_heads : length (removed_heads used i h) ≡ length h
  unfolding removed_heads
  length_removed_heads = length_shifted 12 used i h hi l

  -- each word of a head
  pub removed_word : (j k : ℕ) → k < 12 → word (removed_heads used i h) j k ≡ word h (moved_from used i j) k
  unfolding removed_heads
  removed_word = shifted_row 12 used i h hi l

  pub removed_key : (j : ℕ) → key_at (removed_heads used i h) j ≡ key_at h (moved_from used i j)
  removed_key j =
      rw (
        removed_word j 0 (omega arith),
        removed_word j 1 (omega arith),
        removed_word j 2 (omega arith),
        removed_word j 3 (omega arith),
        removed_word j 4 (omega arith),
        removed_word j 5 (omega arith),
        removed_word j 10 (omega arith),
      )

  -- row i is dropped, as the order of the rows has it
  pub removed_dropped : Dropped h (removed_heads used i h) i used
  removed_dropped = record { keys = λ j hj. removed_key j; ticks = λ j hj. removed_word j 9 (omega arith) }

-- ---- words

module _ (o : Of) (used i : ℕ) (ws : List ℕ) (hi : i < used) (l : used * width_of o ≤ length ws) where
  pub length_removed_words : length (removed_words o used i ws) ≡ length ws
  unfolding removed_words
  length_removed_words = length_shifted (width_of o) used i ws hi l

  -- word k of row j, of width_of o words
  pub removed_words_lem : (j k : ℕ) → k < width_of o → get_or (removed_words o used i ws) (j * width_of o + k) 0 ≡ get_or ws (moved_from used i j * width_of o + k) 0
  unfolding removed_words
  removed_words_lem = shifted_row (width_of o) used i ws hi l

  -- n words of row j from word k on
  pub removed_part : (j k n : ℕ) → j < used → k + n ≤ width_of o → take n (drop (j * width_of o + k) (removed_words o used i ws)) ≡ take n (drop (moved_from used i j * width_of o + k) ws)
  unfolding removed_words
  removed_part = shifted_part (width_of o) used i ws hi l

-- the slots of a set
pub removed_slots : (used i : ℕ) (h ws : List ℕ) → i < used → used * 12 ≤ length h → used * 288 ≤ length ws → (j : ℕ) → j < used
    → row_slots (removed_heads used i h) (removed_words of.Sets used i ws) j ≡ row_slots h ws (moved_from used i j)
unfolding row_slots
removed_slots used i h ws hi lh lw j hj =
    ap (λ (x : ℕ). take (slot_count x) (drop (j * 288 + 32) (removed_words of.Sets used i ws))) (removed_word used i h hi lh j 7 (omega arith))
    ∙ removed_part of.Sets used i ws hi lw j 32 (slot_count (last_of h (moved_from used i j))) hj (omega arith)
