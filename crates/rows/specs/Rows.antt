-- The rows of a collector: what their heads and slots say, for every content of the two lent slices.
-- `cond test a b` is a where the test is true, else b.
use Rattle.std.specs.Prelude.{ℕ, zero, suc, ◌+◌, ◌*◌, ◌<◌, min, List, [], ◌∷◌, Bool, true, false, cond, not, ◌&&◌, ◌||◌, get_or, take, drop, set, replicate, ltb, eqb}
use Rattle.std.proofs.Math.Seq.{paste}
use Rattle.laws.specs.Lists.{first_from}
use Rattle.cells.specs.Cells.{all_whole, some_names, marked_all}
use Rattle.rows.specs.declared.Origin.{Origin}
use Rattle.rows.specs.declared.Key.{Key}
use Rattle.rows.specs.declared.Entry.{Entry}
use Rattle.rows.specs.declared.Room.{Room}

-- ---- heads, 12 words a row: 0 PID (8192 is none), 1 table_id, 2 extension, 3 current_next, 4 transport_stream_id, 5 original_network_id,
-- 6 version, 7 last_section_number, 8 mark (not 0: handed out), 9 tick, 10 input, 11 spare

-- word k of row i's head
abbrev pub word : List ℕ → ℕ → ℕ → ℕ
word heads i k = get_or heads (i * 12 + k) 0

abbrev pub put : ℕ → ℕ → ℕ → List ℕ → List ℕ
put i k v heads = set heads (i * 12 + k) v

-- of row i's head: the table_id (a schedule's: the kind), the version, last_section_number (a schedule's: last_table_id), the mark (not 0: handed out) and the tick
abbrev pub table_word : List ℕ → ℕ → ℕ
table_word heads i = word heads i 1

abbrev pub version_of : List ℕ → ℕ → ℕ
version_of heads i = word heads i 6

abbrev pub last_of : List ℕ → ℕ → ℕ
last_of heads i = word heads i 7

abbrev pub mark_of : List ℕ → ℕ → ℕ
mark_of heads i = word heads i 8

abbrev pub tick_of : List ℕ → ℕ → ℕ
tick_of heads i = word heads i 9

abbrev pub with_mark : ℕ → ℕ → List ℕ → List ℕ
with_mark i mark heads = put i 8 mark heads

-- the words of a head that make its key
pub data KeyWord : ℕ → Type 0 where
  to_5 : (m : ℕ) → m < 6 → KeyWord m
  is_10 : KeyWord 10

abbrev pub origin_at : List ℕ → ℕ → Origin
origin_at heads i = record { input = word heads i 10; pid = word heads i 0 }

abbrev pub key_at : List ℕ → ℕ → Key
key_at heads i = record {
  from = origin_at heads i;
  table_id = word heads i 1;
  extension = word heads i 2;
  current_next = word heads i 3;
  transport_stream_id = word heads i 4;
  original_network_id = word heads i 5;
}

unfoldable pub same_origin : Origin → Origin → Bool
same_origin a b = eqb a.input b.input && eqb a.pid b.pid

unfoldable pub same_key : Key → Key → Bool
same_key a b =
    same_origin a.from b.from && eqb a.table_id b.table_id && eqb a.extension b.extension && eqb a.current_next b.current_next
    && eqb a.transport_stream_id b.transport_stream_id && eqb a.original_network_id b.original_network_id

-- the first row in use that has the key, or `used` where none has it
abbrev pub row_of : List ℕ → Key → ℕ → ℕ
row_of heads key used = first_from (λ (i : ℕ). same_key (key_at heads i) key) used 0

-- ---- the touch order: a row's tick is what the clock showed when it was touched last

-- row i where it was touched before the row best
unfoldable pub earlier_of : List ℕ → ℕ → ℕ → ℕ
earlier_of heads best i = cond (ltb (tick_of heads i) (tick_of heads best)) i best

-- of the first n rows the least recently touched: the first of the smallest tick
unfoldable pub oldest_of : List ℕ → ℕ → ℕ
oldest_of heads zero = 0
oldest_of heads (suc n) = earlier_of heads (oldest_of heads n) n

-- row i becomes the newest: no other word changes
unfoldable pub touched : ℕ → ℕ → List ℕ → List ℕ
touched clock i heads = put i 9 clock heads

-- ---- a row for a section

-- the head of a row that begins with the section: no mark, and tick 0 until the touch
abbrev pub head_of : Entry → List ℕ
head_of e =
    e.key.from.pid ∷ e.key.table_id ∷ e.key.extension ∷ e.key.current_next ∷ e.key.transport_stream_id ∷ e.key.original_network_id
    ∷ e.version ∷ e.last ∷ 0 ∷ 0 ∷ e.key.from.input ∷ 0 ∷ []

unfoldable pub fresh_head : ℕ → Entry → List ℕ → List ℕ
fresh_head i e heads = paste heads (i * 12) (head_of e) 12

-- row i as it is, with `used` rows in use
abbrev pub room_in : ℕ → ℕ → ℕ → Room
room_in used evictions i = record { row = i; fresh = false; used = used; evictions = evictions }

-- row i emptied
abbrev pub room_renewed : ℕ → ℕ → ℕ → Room
room_renewed used evictions i = record { row = i; fresh = true; used = used; evictions = evictions }

-- "A new key at a full limit removes the least recently touched key and counts one eviction": else a further row
unfoldable pub room_new : List ℕ → ℕ → ℕ → ℕ → Room
room_new heads limit used evictions =
    cond (ltb used limit) (room_renewed (used + 1) evictions used) (room_renewed used (evictions + 1) (oldest_of heads used))

-- the row whose slots no longer count once there is such room, or `used` where there is none
abbrev pub gone_row : Room → ℕ → ℕ
gone_row r used = cond r.fresh r.row used

-- "A new section clears the mark"
unfoldable pub kept_heads : Room → Entry → List ℕ → List ℕ
kept_heads r e heads = cond r.fresh (fresh_head r.row e heads) (with_mark r.row 0 heads)

-- ---- slots, 288 words a row: 32 of segments, then 256 slots

abbrev pub slots_at : ℕ → ℕ
slots_at i = i * 288 + 32

-- how many slots a row has, by the last_section_number in its head
abbrev pub slot_count : ℕ → ℕ
slot_count last = min last 255 + 1

unfoldable pub row_slots : List ℕ → List ℕ → ℕ → List ℕ
row_slots heads slots i = take (slot_count (last_of heads i)) (drop (slots_at i) slots)

-- the n words from `at` on are 0
abbrev pub emptied : ℕ → ℕ → List ℕ → List ℕ
emptied at n slots = paste slots at (replicate n 0) n

-- the section's slot gets the word w; a row that begins anew is emptied first
unfoldable pub kept_slots : Room → Entry → ℕ → List ℕ → List ℕ
kept_slots r e w slots = set (cond r.fresh (emptied (slots_at r.row) (e.last + 1) slots) slots) (slots_at r.row + e.number) w

-- ---- all rows in use, the first n

-- of answer 10: each slot of each row is whole
unfoldable pub rows_whole : List ℕ → List ℕ → ℕ → ℕ → ℕ → Bool
rows_whole heads slots count size zero = true
rows_whole heads slots count size (suc n) = all_whole count size (row_slots heads slots n) && rows_whole heads slots count size n

-- a slot of a row other than the row `gone` names cell c
unfoldable pub taken_in : List ℕ → List ℕ → ℕ → ℕ → ℕ → Bool
taken_in heads slots gone zero c = false
taken_in heads slots gone (suc n) c = (not (eqb n gone) && some_names c (row_slots heads slots n)) || taken_in heads slots gone n c

-- the map with each cell that such a slot names
abbrev pub marked_row : List ℕ → List ℕ → ℕ → ℕ → List ℕ → List ℕ
marked_row heads slots gone i map = cond (eqb i gone) map (marked_all (row_slots heads slots i) map)

unfoldable pub marked_rows : List ℕ → List ℕ → ℕ → ℕ → List ℕ → List ℕ
marked_rows heads slots gone zero map = map
marked_rows heads slots gone (suc n) map = marked_rows heads slots gone n (marked_row heads slots gone n map)
