-- The touch order that heads with ticks stand for: the rows in use by rising tick, the least recently touched first, as the rules have them.
-- What a key says and what a row holds is left open, so that sets and schedules have one text.
-- Assumes nothing.
use Rattle.std.specs.Prelude.{ℕ, zero, suc, ◌+◌, ◌-◌, ◌<◌, ◌≤◌, ◌≡◌, ◌≢◌, List, [], ◌∷◌, cond, eqb, ltb}
use Rattle.std.proofs.Math.Option.{Option, none, some}
use Rattle.laws.specs.Lists.{first_from}
use Rattle.rules_shared.specs.Touch.{Rows, TouchOrder, under}
use Rattle.rows.specs.declared.Key.{Key}
use Rattle.rows.specs.Rows.{key_at, tick_of, oldest_of}

abbrev pub ahead : {A : Type 0} → Option A → List A → List A
ahead none l = l
ahead (some a) l = a ∷ l

-- what f has at 0, at 1 and so on, below n, where it has something
unfoldable pub listed : {A : Type 0} → (ℕ → Option A) → ℕ → List A
listed f zero = []
listed f (suc n) = ahead (f 0) (listed (λ (t : ℕ). f (suc t)) n)

-- of the first n rows the first whose tick is t, `tick` giving each row's
abbrev pub row_of_tick : (tick : ℕ → ℕ) → (n t : ℕ) → ℕ
row_of_tick tick n t = first_from (λ (i : ℕ). eqb (tick i) t) n 0

-- what F makes of the row in use whose tick is t, if there is one
unfoldable pub at_tick : {A : Type 0} → (tick : ℕ → ℕ) → (used : ℕ) → (ℕ → A) → ℕ → Option A
at_tick tick used F t = cond (ltb (row_of_tick tick used t) used) (some (F (row_of_tick tick used t))) none

-- what F makes of the first `used` rows, by rising tick up to the clock's
unfoldable pub in_order : {A : Type 0} → (tick : ℕ → ℕ) → (used clock : ℕ) → (ℕ → A) → List A
in_order tick used clock F = listed (at_tick tick used F) (suc clock)

-- the rows in use: row i stands under what its key shows, and holds `row i`
unfoldable pub rows_seen : {K R : Type 0} → (Key → K) → List ℕ → (used clock : ℕ) → (ℕ → R) → Rows K R
rows_seen shown heads used clock row = in_order (tick_of heads) used clock (λ (i : ℕ). under (shown (key_at heads i)) (row i))

-- the same with the eviction count
abbrev pub order_seen : {K R : Type 0} → (Key → K) → List ℕ → (used clock evictions : ℕ) → (ℕ → R) → TouchOrder K R
order_seen shown heads used clock evictions row = record { rows = rows_seen shown heads used clock row; evicted = evictions }

-- ---- what every store that comes from opening has

-- the ticks of the rows in use are distinct and at most the clock's
pub record Ticked (tick : ℕ → ℕ) (used clock : ℕ) : Type 0 where
  pub below : (i : ℕ) → i < used → tick i ≤ clock
  pub one : (i j : ℕ) → i < used → j < used → tick i ≡ tick j → i ≡ j

-- .. and no key stands twice. `words` are the words that a key is written in: a key in use reads back as it was written
pub record Stands {K : Type 0} (shown : Key → K) (words : K → Key) (heads : List ℕ) (used clock : ℕ) : Type 0 where
  pub ticks : Ticked (tick_of heads) used clock
  pub keys : (i j : ℕ) → i < used → j < used → key_at heads i ≡ key_at heads j → i ≡ j
  pub proper : (i : ℕ) → i < used → words (shown (key_at heads i)) ≡ key_at heads i

-- ---- one touch

-- where the key of a section goes: the row, and the rows in use and the evictions from then on.
-- docs/RULES.md, "Collectors": "A new key at a full limit removes the least recently touched key and counts one eviction"
pub data Goes (heads : List ℕ) (limit used evictions : ℕ) (key : Key) : (row used' evictions' : ℕ) → Type 0 where
  known : (i : ℕ) → i < used → key_at heads i ≡ key → Goes heads limit used evictions key i used evictions
  added : ((j : ℕ) → j < used → key_at heads j ≢ key) → used < limit → Goes heads limit used evictions key used (used + 1) evictions
  evicted : ((j : ℕ) → j < used → key_at heads j ≢ key) → 0 < used → limit ≤ used → Goes heads limit used evictions key (oldest_of heads used) used (evictions + 1)

-- heads' are heads with the key touched: it stands in row i, with the clock's tick, and the other rows are as they were
pub record Touched (heads heads' : List ℕ) (key : Key) (i clock used' : ℕ) : Type 0 where
  pub newest : tick_of heads' i ≡ clock
  pub own : key_at heads' i ≡ key
  pub ticks : (j : ℕ) → j < used' → j ≢ i → tick_of heads' j ≡ tick_of heads j
  pub others : (j : ℕ) → j < used' → j ≢ i → key_at heads' j ≡ key_at heads j

-- ---- a row is dropped: the last row in use takes its place, with its tick

-- the row that stands in row j's place once row i was dropped
abbrev pub moved_from : (used i j : ℕ) → ℕ
moved_from used i j = cond (eqb j i) (used - 1) j

-- heads' are heads with row i dropped
pub record Dropped (heads heads' : List ℕ) (i used : ℕ) : Type 0 where
  pub keys : (j : ℕ) → j < used - 1 → key_at heads' j ≡ key_at heads (moved_from used i j)
  pub ticks : (j : ℕ) → j < used - 1 → tick_of heads' j ≡ tick_of heads (moved_from used i j)
