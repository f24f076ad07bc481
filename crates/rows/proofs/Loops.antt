-- One law for each turn, each end and each way out of the functions on rows.
-- Assumes nothing.
use mathlib.Core.Path.{◌≡◌, refl, sym, ap, ◌∙◌}
use mathlib.Core.List.{List}
use mathlib.Core.Bool.{Bool, true, false, cond, ◌&&◌, and_assoc, and-true, and-false}
use Prim.Native.Nat.{ℕ, suc, ◌+◌, ◌-◌, ◌*◌, ◌≤◌, ◌<◌}
use native.Mathlib.Numerals.{add-one}
use native.Mathlib.Omega.{arith}
use borrow.Author.Tests.{lt-ltb, le-ltb, eq-eqb, ne_eqb}
use lib.Dec.{ltb, eqb}
use lib.ListN.{length, get_or, take, drop, set}
use Rattle.cells.specs.Cells.{slot_whole, all_whole, all_filled, marked_all}
use Rattle.cells.proofs.Laws.{one_slot}
use Rattle.rows.specs.declared.Key.{Key}
use Rattle.rows.specs.declared.Entry.{Entry}
use Rattle.rows.specs.declared.Room.{Room}
use Rattle.rows.specs.Rows.{word, origin_at, same_origin, key_at, same_key, earlier_of, oldest_of, fresh_head, room_new, kept_heads, slots_at, slot_count, row_slots, emptied, kept_slots, rows_whole, marked_row, marked_rows, tick_of, last_of, with_mark}

pub before : (n : ℕ) → 0 < n → n ≡ suc (n - 1)
before n h = omega arith

-- ---- find

-- the fields' equalities, as the derive groups them
grouped : (o t e c s n : Bool) → (o && (t && (e && (c && (s && n))))) ≡ (o && t && e && c && s && n)
grouped false t e c s n = refl
grouped true false e c s n = refl
grouped true true false c s n = refl
grouped true true true false s n = refl
grouped true true true true false n = refl
grouped true true true true true n = refl

pub keys_equal : (a b : Key) (r : Bool)
    → r ≡ ((eqb a.from.input b.from.input && eqb a.from.pid b.from.pid) && (eqb a.table_id b.table_id && (eqb a.extension b.extension && (eqb a.current_next b.current_next
    && (eqb a.transport_stream_id b.transport_stream_id && eqb a.original_network_id b.original_network_id))))) → r ≡ same_key a b
unfolding same_origin same_key
keys_equal a b r q =
    q ∙ grouped (eqb a.from.input b.from.input && eqb a.from.pid b.from.pid) (eqb a.table_id b.table_id) (eqb a.extension b.extension) (eqb a.current_next b.current_next)
    (eqb a.transport_stream_id b.transport_stream_id) (eqb a.original_network_id b.original_network_id)

-- ---- oldest

pub elder_new : (heads : List ℕ) (best i a b : ℕ) → a ≡ tick_of heads i → b ≡ tick_of heads best → a < b → i ≡ earlier_of heads best i
unfolding earlier_of
elder_new heads best i a b p q h = rw (← p, ← q, lt-ltb a b h)

pub elder_old : (heads : List ℕ) (best i a b : ℕ) → a ≡ tick_of heads i → b ≡ tick_of heads best → b ≤ a → best ≡ earlier_of heads best i
unfolding earlier_of
elder_old heads best i a b p q h = rw (← p, ← q, le-ltb a b h)

pub oldest_start : (heads : List ℕ) → 0 ≡ oldest_of heads 0
unfolding oldest_of
oldest_start heads = refl

pub oldest_turn : (heads : List ℕ) (i b b' : ℕ) → b ≡ oldest_of heads i → b' ≡ earlier_of heads b i → b' ≡ oldest_of heads (i + 1)
unfolding oldest_of
oldest_turn heads i b b' e k = rw (add-one i, ← e) k

pub elder_within : (heads : List ℕ) (b i r : ℕ) → r ≡ earlier_of heads b i → b ≤ i → r ≤ i + 1
unfolding earlier_of
elder_within heads b i r e h = rw e (go (ltb (tick_of heads i) (tick_of heads b)))
  where
    go : (t : Bool) → cond t i b ≤ i + 1
    go true = omega arith
    go false = omega arith

pub oldest_end : (heads : List ℕ) (i b used : ℕ) → b ≡ oldest_of heads i → used ≤ i → i ≤ used → b ≡ oldest_of heads used
oldest_end heads i b used e h k = let s : i ≡ used = omega arith in rw (← s) e

pub key_is : (heads : List ℕ) (i : ℕ) (key k : Key) (r : Bool) → k ≡ key_at heads i → r ≡ same_key k key → r ≡ same_key (key_at heads i) key
key_is heads i key k r e q = rw (← e) q

-- one word that differs is enough
pub key_differs : (heads : List ℕ) (i : ℕ) (key : Key) (w : ℕ) → w ≡ word heads i 2 → (w ≡ key.extension → ⊥) → false ≡ same_key (key_at heads i) key
unfolding same_key
key_differs heads i key w e h =
    rw (← e, ne_eqb w key.extension h, and-false (same_origin (origin_at heads i) key.from && eqb (word heads i 1) key.table_id))

-- ---- a row for a section

pub room_added : (heads : List ℕ) (limit used evictions : ℕ) → used < limit
    → ◌≡◌ {A = Room} (record { row = used; fresh = true; used = used + 1; evictions = evictions }) (room_new heads limit used evictions)
unfolding room_new
room_added heads limit used evictions h = rw (lt-ltb used limit h)

pub room_evicted : (heads : List ℕ) (limit used evictions o : ℕ) → limit ≤ used → o ≡ oldest_of heads used
    → ◌≡◌ {A = Room} (record { row = o; fresh = true; used = used; evictions = evictions + 1 }) (room_new heads limit used evictions)
unfolding room_new
room_evicted heads limit used evictions o h e = rw (le-ltb used limit h, ← e)

pub head_fresh : (r : Room) (e : Entry) (h h' : List ℕ) → r.fresh ≡ true → h' ≡ fresh_head r.row e h → h' ≡ kept_heads r e h
unfolding kept_heads
head_fresh r e h h' t q = rw t q

pub head_known : (r : Room) (e : Entry) (h h' : List ℕ) → r.fresh ≡ false → h' ≡ with_mark r.row 0 h → h' ≡ kept_heads r e h
unfolding kept_heads
head_known r e h h' t q = rw t q

-- ---- slots

pub row_part : (heads slots : List ℕ) (i w n : ℕ) → w ≡ last_of heads i → n ≡ slot_count w → take (i * 288 + 32 + n - (i * 288 + 32)) (drop (i * 288 + 32) slots) ≡ row_slots heads slots i
unfolding row_slots
row_part heads slots i w n e f = let s : i * 288 + 32 + n - (i * 288 + 32) ≡ n = omega arith in rw (s, f, e)

pub slot_kept : (r : Room) (e : Entry) (w : ℕ) (l l' l'' : List ℕ) → l' ≡ cond r.fresh (emptied (slots_at r.row) (e.last + 1) l) l → l'' ≡ set l' (r.row * 288 + 32 + e.number) w → l'' ≡ kept_slots r e w l
unfolding kept_slots
slot_kept r e w l l' l'' p q = rw (← p) q

-- ---- all rows in use

pub rows_turn : (heads slots : List ℕ) (count size used i : ℕ) (ok r : Bool) → 0 < i → r ≡ all_whole count size (row_slots heads slots (i - 1))
    → rows_whole heads slots count size used ≡ (ok && rows_whole heads slots count size i)
    → rows_whole heads slots count size used ≡ (ok && r && rows_whole heads slots count size (i - 1))
unfolding rows_whole
rows_turn heads slots count size used i ok r p e q =
    q ∙ ap (λ (k : ℕ). ok && rows_whole heads slots count size k) (before i p)
    ∙ sym (and_assoc ok (all_whole count size (row_slots heads slots (i - 1))) (rows_whole heads slots count size (i - 1))) ∙ rw e

pub rows_end : (heads slots : List ℕ) (count size used i : ℕ) (ok : Bool) → i ≤ 0 → rows_whole heads slots count size used ≡ (ok && rows_whole heads slots count size i)
    → ok ≡ rows_whole heads slots count size used
unfolding rows_whole
rows_end heads slots count size used i ok p q = let s : i ≡ 0 = omega arith in sym (q ∙ rw s (and-true ok))

pub row_marked : (heads slots : List ℕ) (gone i : ℕ) (part m m' : List ℕ) → part ≡ row_slots heads slots i → (i ≡ gone → ⊥) → m' ≡ marked_all part m → m' ≡ marked_row heads slots gone i m
row_marked heads slots gone i part m m' d h e = rw (ne_eqb i gone h, ← d) e

pub row_passed : (heads slots : List ℕ) (gone i : ℕ) (m : List ℕ) → i ≡ gone → m ≡ marked_row heads slots gone i m
row_passed heads slots gone i m h = rw (eq-eqb i gone h)

pub marked_turn : (heads slots : List ℕ) (gone used i : ℕ) (m₀ m m' : List ℕ) → 0 < i → m' ≡ marked_row heads slots gone (i - 1) m → marked_rows heads slots gone used m₀ ≡ marked_rows heads slots gone i m
    → marked_rows heads slots gone used m₀ ≡ marked_rows heads slots gone (i - 1) m'
unfolding marked_rows
marked_turn heads slots gone used i m₀ m m' p e q = q ∙ ap (λ (k : ℕ). marked_rows heads slots gone k m) (before i p) ∙ rw e

pub marked_end : (heads slots : List ℕ) (gone used i : ℕ) (m₀ m : List ℕ) → i ≤ 0 → marked_rows heads slots gone used m₀ ≡ marked_rows heads slots gone i m → m ≡ marked_rows heads slots gone used m₀
unfolding marked_rows
marked_end heads slots gone used i m₀ m p q = let s : i ≡ 0 = omega arith in sym (q ∙ rw s)

pub full_row : (heads slots : List ℕ) (i : ℕ) (part : List ℕ) (r : Bool) → part ≡ row_slots heads slots i → r ≡ all_filled part → r ≡ all_filled (row_slots heads slots i)
full_row heads slots i part r e q = rw (← e) q

-- ---- a row of one slot, which is filled

pub row_single : (heads slots : List ℕ) (count size i l w : ℕ) (r : Bool) → l ≡ last_of heads i → l ≡ 0 → i * 288 + 288 ≤ length slots → w ≡ get_or slots (slots_at i + 0) 0
    → (r ≡ true → slot_whole count size w ≡ true) → r ≡ true → true ≡ all_whole count size (row_slots heads slots i)
unfolding row_slots
row_single heads slots count size i l w r e z h f g t =
    let s : slots_at i + 0 ≡ slots_at i = omega arith in
    let one : last_of heads i ≡ 0 = sym e ∙ z in
    let ok : slot_whole count size (get_or slots (slots_at i) 0) ≡ true = rw (← s, ← f) (g t) in
    rw one (sym (one_slot slots (slots_at i) count size (omega arith) ok))

pub row_each : (heads slots : List ℕ) (count size i : ℕ) (part : List ℕ) (r : Bool) → part ≡ row_slots heads slots i → r ≡ all_whole count size part → r ≡ all_whole count size (row_slots heads slots i)
row_each heads slots count size i part r e q = rw (← e) q
