-- Rows whose slots are whole stay such when a section is kept. Of every content.
-- Assumes nothing.
use mathlib.Core.Path.{◌≡◌, refl, subst, ◌∙◌}
use mathlib.Core.Logic.{◌≢◌}
use mathlib.Core.Bool.{Bool, true, false, cond}
use mathlib.Core.List.{List}
use Prim.Native.Nat.{ℕ, ◌+◌, ◌*◌, ◌/◌, ◌%◌, ◌≤◌, ◌<◌}
use native.Mathlib.Decide.{ℕ_discrete}
use native.Mathlib.Omega.{arith}
use borrow.Author.Tests.{ne_eqb, le-leb, lt-ltb}
use lib.ListN.{length, get_or, length-set}
use lib.Seq.{get_or-set_other}
use Rattle.cells.specs.Cells.{slot_word, slot_whole}
use Rattle.rows.specs.Rows.{kept_heads, slots_at, slot_count, emptied, kept_slots, rows_whole, last_of}
use Rattle.rows.specs.declared.Entry.{Entry}
use Rattle.rows.specs.declared.Room.{Room}
use Rattle.rows.proofs.Words.{kept_row, kept_fresh, kept_known, length_emptied, emptied_out, length_kept_slots, kept_slot, kept_other, kept_empty, kept_same}
use Rattle.rows.proofs.Whole.{slot_get, slot_all}
use Rattle.store.specs.Store.{Whole}
use Rattle.store.specs.declared.Sets.{Sets}
use Rattle.arrivals.specs.Arrivals.{Numbered}
use Rattle.placing.specs.Places.{RoomOk}
use Rattle.segments.specs.Segments.{kept_section}

-- the word of a section that fits its cell
pub word_whole : (n c count size : ℕ) → 12 ≤ n → n ≤ size → c < count → count ≤ 65535 → slot_whole count size (slot_word n c) ≡ true
unfolding slot_whole
word_whole n c count size a b h l =
    let p : (n * 65536 + c) / 65536 ≡ n = omega arith in
    let q : (n * 65536 + c) % 65536 ≡ c = omega arith in
    let ne : n ≢ 0 = omega arith in
    rw (p, q, ne_eqb n 0 ne, le-leb 12 n a, le-leb n size b, lt-ltb c count h)

none_whole : (count size : ℕ) → slot_whole count size 0 ≡ true
unfolding slot_whole
none_whole count size = refl

module _ (s : Sets) (heads slots cells : List ℕ) (w : Whole s heads slots cells) (r : Room) (o : RoomOk s r) (e : Entry) (a : Numbered e) (n x : ℕ) where
  abbrev begun : List ℕ
  begun = cond r.fresh (emptied (r.row * 288) 32 slots) slots

  abbrev then : List ℕ
  then = kept_slots r e x begun

  abbrev heads' : List ℕ
  heads' = kept_heads r e heads

  head_room : r.row * 12 + 12 ≤ length heads
  head_room = let a = w.heads_long in let b = o.room in let c = o.row in omega arith

  slot_room : r.row * 288 + 288 ≤ length slots
  slot_room = let a = w.slots_long in let b = o.room in let c = o.row in omega arith

  begun_length : length begun ≡ length slots
  begun_length = go r.fresh
    where
      go : (b : Bool) → length (cond b (emptied (r.row * 288) 32 slots) slots) ≡ length slots
      go true = let h = slot_room in length_emptied (r.row * 288) 32 slots (omega arith)
      go false = refl

  begun_room : r.row * 288 + 288 ≤ length begun
  begun_room = let a = begun_length in let b = slot_room in omega arith

  -- segments are no slots
  begun_slot : (j m : ℕ) → m < 256 → get_or begun (slots_at j + m) 0 ≡ get_or slots (slots_at j + m) 0
  begun_slot j m h = go r.fresh
    where
      go : (b : Bool) → get_or (cond b (emptied (r.row * 288) 32 slots) slots) (slots_at j + m) 0 ≡ get_or slots (slots_at j + m) 0
      go true = let q = slot_room in emptied_out (r.row * 288) 32 slots (omega arith) (slots_at j + m) (λ p t. absurd (omega arith))
      go false = refl

  pub section_length_lem : length (kept_section r e n x slots) ≡ length slots
  unfolding kept_section
  section_length_lem = length-set then (r.row * 288 + e.number / 8) n ∙ length_kept_slots r e x begun begun_room a.number a.last ∙ begun_length

  section_slot : (j m : ℕ) → m < 256 → get_or (kept_section r e n x slots) (slots_at j + m) 0 ≡ get_or then (slots_at j + m) 0
  unfolding kept_section
  section_slot j m h = let b = a.number in let c = a.last in get_or-set_other then (r.row * 288 + e.number / 8) (slots_at j + m) n 0 (omega arith)

  abbrev Ok : ℕ → Type 0
  Ok y = slot_whole s.count s.size y ≡ true

  old : (j m : ℕ) → j < s.used → m < slot_count (last_of heads j) → Ok (get_or slots (slots_at j + m) 0)
  old j m h l = let b = w.slots_long in let c = w.used in slot_get heads slots s.count s.size s.used j m w.rows h (omega arith) l

  module _ (good : Ok x) where
    own : (b : Bool) → r.fresh ≡ b → (m : ℕ) → m < slot_count (last_of heads' r.row) → Dec (m ≡ e.number) → Ok (get_or then (slots_at r.row + m) 0)
    own b f m l (yes q) = rw (q, kept_slot r e x begun begun_room a.number a.last) good
    own true f m l (no d) =
        let last : last_of heads' r.row ≡ e.last = kept_fresh r e heads head_room f 7 (omega arith) in
        rw (kept_empty r e x begun begun_room a.number a.last f m d (omega (arith, last, l))) (none_whole s.count s.size)
    own false f m l (no d) =
        let last : last_of heads' r.row ≡ last_of heads r.row = kept_known r e heads head_room f 7 (omega arith) (omega arith) in
        rw (kept_same r e x begun begun_room a.number a.last f m d, begun_slot r.row m (omega (arith, last, l))) (old r.row m (o.known f) (omega (arith, last, l)))

    each : (j m : ℕ) → j < r.used → m < slot_count (last_of heads' j) → Dec (j ≡ r.row) → Ok (get_or then (slots_at j + m) 0)
    each j m h l (yes q) = rw q (own r.fresh refl m (subst (λ (n : ℕ). m < slot_count (last_of heads' n)) q l) (ℕ_discrete m e.number))
    each j m h l (no d) =
        let last : last_of heads' j ≡ last_of heads j = kept_row r e heads head_room j 7 d (omega arith) in
        let b = o.next in
        let c = o.all in
        let d' : j ≢ r.row = d in
        rw (kept_other r e x begun begun_room a.number a.last j m d (omega (arith, last, l)), begun_slot j m (omega (arith, last, l))) (old j m (omega (arith, b, c, d', h)) (omega (arith, last, l)))

    pub section_whole : rows_whole heads' (kept_section r e n x slots) s.count s.size r.used ≡ true
    section_whole =
        let b = w.slots_long in
        let c = o.room in
        let d = section_length_lem in
        slot_all heads' (kept_section r e n x slots) s.count s.size r.used (omega (arith, b, c, d)) (λ j m h l.
        let q : m < 256 = omega (arith, l) in
        rw (section_slot j m q) (each j m h l (ℕ_discrete j r.row)))
