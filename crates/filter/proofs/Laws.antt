-- One law for each turn, each end and each way out of the functions that drop rows.
-- Assumes nothing.
use mathlib.Core.Path.{◌≡◌, sym, ap, ◌∙◌}
use mathlib.Core.List.{List}
use mathlib.Core.Bool.{Bool, true, false, ◌&&◌}
use Prim.Native.Nat.{ℕ, suc, ◌+◌, ◌-◌, ◌*◌, ◌≤◌, ◌<◌}
use native.Mathlib.Nat.{mul-le-mul_right}
use native.Mathlib.Omega.{arith}
use lib.ListN.{length, take, drop, length-drop}
use lib.Seq.{take-take, length-take-le}
use Rattle.std.specs.List.{copy_within}
use Rattle.rows.specs.declared.Key.{Key}
use Rattle.rows.specs.Rows.{key_at}
use Rattle.filter.specs.declared.Fields.{Fields}
use Rattle.filter.specs.declared.Of.{Of}
use Rattle.filter.specs.Drops.{matches, wants, wants_origin, kind_in, width_of, moved_to, removed_heads, removed_words, Rest, rest, dropped_row, dropped_rows, Fits}

before : (n : ℕ) → 0 < n → n ≡ suc (n - 1)
before n h = omega arith

-- ---- which rows match

pub all_match : (o : Of) (f : Fields) (k : Key) (kind : ℕ) (p q r s t u : Bool) → p ≡ wants_origin f.from k.from → kind ≡ kind_in o k.table_id → q ≡ wants f.kind kind
    → r ≡ wants f.service_id k.extension → s ≡ wants f.transport_stream_id k.transport_stream_id
    → t ≡ wants f.original_network_id k.original_network_id → u ≡ wants f.current_next k.current_next → (p && q && r && s && t && u) ≡ matches o f k
unfolding matches
all_match o f k kind p q r s t u a b c d e g h = rw (← b, ← a, ← c, ← d, ← e, ← g, ← h)

-- ---- a row leaves

-- the words that are moved
abbrev pub part : (from n : ℕ) → List ℕ → List ℕ
part from n xs = take n (drop from xs)

pub part_long : (from n : ℕ) (xs : List ℕ) → from + n ≤ length xs → length (part from n xs) ≡ n
part_long from n xs h = length-take-le n (drop from xs) (rw (length-drop from xs) (omega arith))

copied : (xs : List ℕ) (to from n : ℕ) → copy_within xs from (from + n) to ≡ moved_to to from n xs
copied xs to from n = let e : from + n - from ≡ n = omega arith in rw (e, take-take n n (drop from xs) (omega arith))

pub head_removed : (used i : ℕ) (h h' : List ℕ) → h' ≡ copy_within h ((used - 1) * 12) ((used - 1) * 12 + 12) (i * 12) → h' ≡ removed_heads used i h
unfolding removed_heads
head_removed used i h h' e = e ∙ copied h (i * 12) ((used - 1) * 12) 12

pub words_removed : (used i n : ℕ) (o : Of) (w w' : List ℕ) → n ≡ width_of o → w' ≡ copy_within w ((used - 1) * n) ((used - 1) * n + n) (i * n) → w' ≡ removed_words o used i w
unfolding removed_words
words_removed used i n o w w' t e = rw (← t) (e ∙ copied w (i * n) ((used - 1) * n) n)

-- ---- a row, and all rows in use

module _ (o : Of) (f : Fields) (i used : ℕ) (h w : List ℕ) (k : Key) (b : Bool) (e : k ≡ key_at h i) (m : b ≡ matches o f k) where
  pub row_leaves : (h' w' : List ℕ) → b ≡ true → h' ≡ removed_heads used i h → w' ≡ removed_words o used i w → rest h' w' (used - 1) ≡ dropped_row o f i (rest h w used)
  unfolding dropped_row
  row_leaves h' w' t p q = rw (← e, ← m, t, p, q)

  pub row_stays : b ≡ false → rest h w used ≡ dropped_row o f i (rest h w used)
  unfolding dropped_row
  row_stays t = rw (← e, ← m, t)

-- fewer rows fit too
pub fewer_fit : (o : Of) (h h₀ w w₀ : List ℕ) (used left : ℕ) → Fits o h₀ w₀ used → length h ≡ length h₀ → length w ≡ length w₀ → left ≤ used → Fits o h w left
fewer_fit o h h₀ w w₀ used left f p q l =
    let m : left * width_of o ≤ used * width_of o = mul-le-mul_right (width_of o) l in
    let n = f.words_long in
    record { heads_long = let k = f.heads_long in omega arith; words_long = omega arith }

pub rows_turn : (o : Of) (f : Fields) (n i left left' : ℕ) (h h' w w' : List ℕ) (x : Rest) → 0 < i → rest h' w' left' ≡ dropped_row o f (i - 1) (rest h w left)
    → dropped_rows o f n x ≡ dropped_rows o f i (rest h w left) → dropped_rows o f n x ≡ dropped_rows o f (i - 1) (rest h' w' left')
unfolding dropped_rows
rows_turn o f n i left left' h h' w w' x p e q = q ∙ ap (λ (k : ℕ). dropped_rows o f k (rest h w left)) (before i p) ∙ ap (dropped_rows o f (i - 1)) (sym e)

pub rows_end : (o : Of) (f : Fields) (n i left : ℕ) (h w : List ℕ) (x : Rest) → i ≤ 0 → dropped_rows o f n x ≡ dropped_rows o f i (rest h w left) → rest h w left ≡ dropped_rows o f n x
unfolding dropped_rows
rows_end o f n i left h w x p q = let s : i ≡ 0 = omega arith in sym (q ∙ rw s)
