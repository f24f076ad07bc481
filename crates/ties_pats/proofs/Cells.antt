-- 21 never comes from a PAT store: a section that is kept finds an empty slot in the one row, or that row is emptied, so of the 256 cells one is free.
-- Assumes nothing.
use borrow.Author.Tests.{eqb-true, ltb-true, ne_eqb}
use mathlib.Core.Path.{◌≡◌, refl, sym, ap, subst, ◌∙◌}
use mathlib.Core.Logic.{◌≢◌, ◌⊎◌, inl, inr}
use mathlib.Core.Bool.{Bool, true, false, cond, not, ◌&&◌, ◌||◌, true≢false}
use mathlib.Core.List.{List, [], ◌∷◌}
use Prim.Native.Nat.{ℕ, zero, suc, ◌+◌, ◌≤◌, ◌<◌}
use native.Mathlib.Omega.{arith}
use lib.Dec.{eqb, ltb}
use lib.ListN.{length, get_or}
use Rattle.laws.specs.Lists.{any, same_list}
use Rattle.answers.specs.declared.Refusal.TheVariants.{TooLong, NoCell}
use Rattle.cells.specs.Cells.{kept_length, cell_number, filled, names, some_names, kept}
use Rattle.rows.specs.Rows.{row_of, room_in, room_renewed, room_new, gone_row, slots_at, slot_count, row_slots, taken_in, oldest_of, last_of, version_of}
use Rattle.rows.proofs.Words.{slot_at, length_slots}
use Rattle.rows.specs.declared.Entry.{Entry}
use Rattle.rows.specs.declared.Room.{Room}
use Rattle.store.specs.Store.{Store, WholeStore}
use Rattle.arrivals.specs.Arrivals.{Numbered}
use Rattle.placing.specs.Places.{place_slot, place_known, place_of, PlaceOk}
use Rattle.placing.specs.declared.Place.{Place}
use Rattle.placing.specs.declared.Place.TheVariants.{Conflict, Repeat, Goes}
use Rattle.placing.proofs.Fits.{same_last_lem}
use Rattle.placing.proofs.Laws.{place_ok}
use Rattle.rules_shared.specs.Touch.{count}
use Rattle.sets_plan.specs.Plan.{plan_keep, plan_placed, plan_of}
use Rattle.sets_plan.specs.declared.Plan.TheVariants as plan
use Rattle.sets.proofs.Cells.{none_free}

-- ---- m cells that are all named are named by m words at least

-- how many words are filled, how many name cell c, and how many one of the first m cells
fills : List ℕ → ℕ
fills [] = 0
fills (w ∷ ws) = count (filled w) + fills ws

naming : ℕ → List ℕ → ℕ
naming c [] = 0
naming c (w ∷ ws) = count (names c w) + naming c ws

total : ℕ → List ℕ → ℕ
total zero ws = 0
total (suc m) ws = naming m ws + total m ws

-- one word names one cell at most
ones : ℕ → ℕ → ℕ
ones zero w = 0
ones (suc m) w = count (names m w) + ones m w

ones_past : (m w : ℕ) → m ≤ cell_number w → ones m w ≡ 0
unfolding ones count
ones_past zero w h = refl
ones_past (suc m) w h = go (filled w) (ones_past m w (omega arith))
  where
    go : (b : Bool) → ones m w ≡ 0 → count (b && eqb (cell_number w) m) + ones m w ≡ 0
    go true e = rw (ne_eqb (cell_number w) m (omega arith), e)
    go false e = rw e

ones_le : (m w : ℕ) → ones m w ≤ count (filled w)
unfolding ones count
ones_le zero w = omega arith
ones_le (suc m) w = go (filled w) (eqb (cell_number w) m) refl (ones_le m w)
  where
    go : (b t : Bool) → eqb (cell_number w) m ≡ t → ones m w ≤ count b → count (b && t) + ones m w ≤ count b
    go false t e h = omega arith
    go true true e h = let q = eqb-true (cell_number w) m e in rw (ones_past m w (omega arith)) (omega arith)
    go true false e h = omega arith

total_cons : (m w : ℕ) (ws : List ℕ) → total m (w ∷ ws) ≡ ones m w + total m ws
unfolding total naming ones
total_cons zero w ws = refl
total_cons (suc m) w ws = let e = total_cons m w ws in rw e (omega arith)

total_none : (m : ℕ) → total m [] ≡ 0
unfolding total naming
total_none zero = refl
total_none (suc m) = let e = total_none m in omega arith

total_le : (m : ℕ) (ws : List ℕ) → total m ws ≤ fills ws
unfolding fills
total_le m [] = rw (total_none m) (omega arith)
total_le m (w ∷ ws) = let a = ones_le m w in let b = total_le m ws in rw (total_cons m w ws) (omega arith)

named_once : (c : ℕ) (ws : List ℕ) → some_names c ws ≡ true → 1 ≤ naming c ws
unfolding any naming count
named_once c [] h = absurd (true≢false (sym h))
named_once c (w ∷ ws) h = go (names c w) h (named_once c ws)
  where
    go : (b : Bool) → (b || some_names c ws) ≡ true → (some_names c ws ≡ true → 1 ≤ naming c ws) → 1 ≤ count b + naming c ws
    go true e ih = omega arith
    go false e ih = let i = ih e in omega arith

all_named : (m : ℕ) (ws : List ℕ) → ((c : ℕ) → c < m → some_names c ws ≡ true) → m ≤ total m ws
unfolding total
all_named zero ws f = omega arith
all_named (suc m) ws f = let a = named_once m ws (f m (omega arith)) in let b = all_named m ws (λ c h. f c (omega arith)) in omega arith

-- a word that is not filled names none
fills_length : (ws : List ℕ) → fills ws ≤ length ws
unfolding fills count
fills_length [] = omega arith
fills_length (w ∷ ws) = go (filled w) (fills_length ws)
  where
    go : (b : Bool) → fills ws ≤ length ws → count b + fills ws ≤ suc (length ws)
    go true h = omega arith
    go false h = omega arith

fills_below : (ws : List ℕ) (k : ℕ) → k < length ws → kept_length (get_or ws k 0) ≡ 0 → fills ws < length ws
unfolding fills count
fills_below [] k h e = absurd (omega arith)
fills_below (w ∷ ws) zero h e = let l = fills_length ws in rw e (omega arith)
fills_below (w ∷ ws) (suc k) h e = go (filled w) (fills_below ws k (omega arith) e)
  where
    go : (b : Bool) → fills ws < length ws → count b + fills ws < suc (length ws)
    go true h = omega arith
    go false h = omega arith

-- ---- where a section may be kept in a store of one row

pub record EmptySlot (s : Store) : Type 0 where
  pub number : ℕ
  pub inside : number < slot_count (last_of s.heads 0)
  pub empty : kept_length (get_or s.slots (slots_at 0 + number) 0) ≡ 0

module _ (s : Store) (f : WholeStore s) (one : s.sets.limit ≡ 1) where
  abbrev row : List ℕ
  row = row_slots s.heads s.slots 0

  slots_288 : 288 ≤ length s.slots
  slots_288 = let l = f.slots_long in omega arith

  -- not every cell is named
  row_names : s.sets.count ≡ 256 → EmptySlot s → ((c : ℕ) → c < s.sets.count → some_names c row ≡ true) → ⊥
  row_names n z g =
      let l = length_slots s.heads s.slots 0 slots_288 in
      let i = z.inside in
      let a = fills_below row z.number (omega arith) (ap kept_length (slot_at s.heads s.slots 0 z.number i) ∙ z.empty) in
      let b = all_named 256 row (λ c h. g c (omega arith)) in
      let d = total_le 256 row in
      omega arith

  module _ (n : s.sets.count ≡ 256) (e : Entry) (r : Room) where
    abbrev taken_then : ℕ → ℕ → Bool
    taken_then used c = taken_in s.heads s.slots (gone_row r s.sets.used) used c

    -- a row that begins anew names no cell
    keep_fresh : r.fresh ≡ true → r.row ≡ 0 → plan_keep s e r ≢ plan.Refuse NoCell
    unfolding taken_in
    keep_fresh t z q = go s.sets.used refl (none_free s e r q 0 (omega arith))
      where
        gone : gone_row r s.sets.used ≡ 0
        gone = rw (t, z)

        go : (u : ℕ) → s.sets.used ≡ u → taken_then u 0 ≡ true → ⊥
        go zero p h = true≢false (sym h)
        go (suc zero) p h = true≢false (sym h ∙ rw gone)
        go (suc (suc u)) p h = let l = f.used in omega arith

    keep_empty : EmptySlot s → plan_keep s e r ≢ plan.Refuse NoCell
    unfolding taken_in
    keep_empty z q = row_names n z (λ c h. named c (none_free s e r q c h))
      where
        pick : (a b : Bool) → ((a && b) || false) ≡ true → b ≡ true
        pick true true h = refl
        pick true false h = h
        pick false b h = absurd (true≢false (sym h))

        at : (u c : ℕ) → s.sets.used ≡ u → taken_then u c ≡ true → some_names c row ≡ true
        at zero c p h = absurd (true≢false (sym h))
        at (suc zero) c p h = pick (not (eqb 0 (gone_row r s.sets.used))) (some_names c row) h
        at (suc (suc u)) c p h = let l = f.used in absurd (omega arith)

        named : (c : ℕ) → taken_then s.sets.used c ≡ true → some_names c row ≡ true
        named c h = at s.sets.used c refl h

  -- ---- the room that a section gets

  abbrev Gets : Room → Type 0
  Gets r = ((r.fresh ≡ true) × (r.row ≡ 0)) ⊎ EmptySlot s

  module _ (e : Entry) (m : Numbered e) (bytes : List ℕ) where
    abbrev there : ℕ
    there = row_of s.heads e.key s.sets.used

    abbrev w : ℕ
    w = get_or s.slots (slots_at there + e.number) 0

    new_fresh : (b : Bool)
        → (cond b (room_renewed (s.sets.used + 1) s.sets.evictions s.sets.used)
        (room_renewed s.sets.used (s.sets.evictions + 1) (oldest_of s.heads s.sets.used))).fresh ≡ true
    new_fresh true = refl
    new_fresh false = refl

    at_zero : (r : Room) → place_of s e bytes ≡ Goes r → r.row ≡ 0
    at_zero r q =
        let o : PlaceOk s (Goes r) = subst (PlaceOk s) q (place_ok s f e bytes (omega arith)) in
        let a = o.row in
        let b = o.room in
        omega arith

    -- a known row whose slot is empty
    slot_gets : there < s.sets.used → last_of s.heads there ≡ e.last → (r : Room) → place_slot s bytes there w ≡ Goes r → EmptySlot s
    unfolding place_slot
    slot_gets h l r = go (eqb (kept_length w) 0) (same_list (kept s.cells s.sets.size w) bytes) refl
      where
        go : (b d : Bool) → eqb (kept_length w) 0 ≡ b → cond b (Goes (room_in s.sets.used s.sets.evictions there)) (cond d (Repeat there) (Conflict there)) ≡ Goes r → EmptySlot s
        go true d p q =
            let u = f.used in
            let z : there ≡ 0 = omega arith in
            let i = m.number in
            let k = m.last in
            record {
              number = e.number;
              inside = subst (λ (i : ℕ). e.number < slot_count (last_of s.heads i)) z (rw l (omega arith));
              empty = subst (λ (i : ℕ). kept_length (get_or s.slots (slots_at i + e.number) 0) ≡ 0) z (eqb-true (kept_length w) 0 p);
            }
        go false true p q = let z : ◌≡◌ {A = ℕ} 0 1 = cc in absurd (omega arith)
        go false false p q = let z : ◌≡◌ {A = ℕ} 0 1 = cc in absurd (omega arith)

    known_gets : there < s.sets.used → (r : Room) → r.row ≡ 0 → place_known s e bytes there ≡ Goes r → Gets r
    unfolding place_known
    known_gets h r z = go (eqb (version_of s.heads there) e.version && eqb (last_of s.heads there) e.last) refl
      where
        go : (b : Bool) → (eqb (version_of s.heads there) e.version && eqb (last_of s.heads there) e.last) ≡ b
            → cond b (place_slot s bytes there w) (Goes (room_renewed s.sets.used s.sets.evictions there)) ≡ Goes r → Gets r
        go true p q = inr (slot_gets h (same_last_lem (version_of s.heads there) (last_of s.heads there) e.version e.last p) r q)
        go false p q = let d : true ≡ r.fresh = cc in inl (sym d, z)

    place_gets : (r : Room) → place_of s e bytes ≡ Goes r → Gets r
    unfolding place_of room_new
    place_gets r q = go (ltb there s.sets.used) refl q
      where
        go : (b : Bool) → ltb there s.sets.used ≡ b
            → cond b (place_known s e bytes there) (Goes (room_new s.heads s.sets.limit s.sets.used s.sets.evictions)) ≡ Goes r → Gets r
        go true p j = known_gets (ltb-true there s.sets.used p) r (at_zero r q) j
        go false p j =
            let d : room_new s.heads s.sets.limit s.sets.used s.sets.evictions ≡ r = cc in
            inl (ap (λ (k : Room). k.fresh) (sym d) ∙ new_fresh (ltb s.sets.used s.sets.limit), at_zero r q)

    -- so a cell is free
    placed_not : s.sets.count ≡ 256 → (p : Place) → place_of s e bytes ≡ p → plan_placed s e p ≢ plan.Refuse NoCell
    placed_not n (Conflict i) q h = let z : ◌≡◌ {A = ℕ} 0 1 = cc in omega arith
    placed_not n (Repeat i) q h = let z : ◌≡◌ {A = ℕ} 0 1 = cc in omega arith
    placed_not n (Goes r) q h = go (place_gets r q)
      where
        go : Gets r → ⊥
        go (inl g) = keep_fresh n e r g.0 g.1 h
        go (inr g) = keep_empty n e r g h

    pub never_21 : s.sets.count ≡ 256 → plan_of s e bytes ≢ plan.Refuse NoCell
    unfolding plan_of
    never_21 n h = go (ltb s.sets.size (length bytes)) (eqb s.sets.limit 0) h
      where
        go : (a b : Bool) → cond a (plan.Refuse TooLong) (cond b plan.Silent (plan_placed s e (place_of s e bytes))) ≡ plan.Refuse NoCell → ⊥
        go true b q = let z : ◌≡◌ {A = ℕ} 0 1 = cc in omega arith
        go false true q = let z : ◌≡◌ {A = ℕ} 0 1 = cc in omega arith
        go false false q = placed_not n (place_of s e bytes) refl q
