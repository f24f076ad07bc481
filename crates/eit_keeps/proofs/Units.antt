-- Units whose slots are whole stay such: once a set whose slots are whole was put in, tables were taken out, or a schedule was refilled. Of every content.
-- Assumes nothing.
use mathlib.Core.Path.{◌≡◌, refl, sym, ap, ◌∙◌}
use mathlib.Core.Logic.{◌≢◌}
use mathlib.Core.Bool.{Bool, true, false, cond, not, ◌&&◌}
use mathlib.Core.List.{List}
use Prim.Native.Nat.{ℕ, zero, suc, ◌+◌, ◌-◌, ◌*◌, ◌%◌, ◌≤◌, ◌<◌}
use native.Mathlib.Nat.{le_refl, not-suc-le-zero}
use native.Mathlib.Decide.{ℕ_discrete, dec_lt}
use native.Mathlib.Omega.{arith}
use borrow.Author.Tests.{ltb-true}
use lib.Dec.{eqb, ltb}
use lib.ListN.{length, get_or, drop, length-set, length-drop}
use lib.Seq.{get_or-set_same, get_or-set_other, paste, length-paste, get_or-take, get_or-drop, length-take-le}
use Rattle.laws.proofs.Lists.{paste_past, paste_before, paste_in}
use Rattle.laws.proofs.Tests.{and_true}
use Rattle.laws.proofs.Search.{every_get, every_all}
use Rattle.cells.specs.Cells.{slot_whole, all_whole}
use Rattle.rows.specs.declared.Key.{Key}
use Rattle.rows.specs.Rows.{row_of, row_slots, slots_at, slot_count, last_of, version_of}
use Rattle.rows.proofs.Words.{length_slots}
use Rattle.segments.specs.Segments.{word_of, with_word, set_complete}
use Rattle.units.specs.Units.{is_present, unit_slots, unit_whole, units_whole, without_units, with_words, with_set, first_table, with_table, with_complete, with_table_set, refilled}

-- ---- words of units

put_same : (units : List ℕ) (u k v : ℕ) → u * 288 + k < length units → word_of (with_word u k v units) u k ≡ v
put_same units u k v l = get_or-set_same units (u * 288 + k) v 0 l

put_unit : (units : List ℕ) (u k v j m : ℕ) → k < 288 → m < 288 → j ≢ u → word_of (with_word u k v units) j m ≡ word_of units j m
put_unit units u k v j m hk hm ne = get_or-set_other units (u * 288 + k) (j * 288 + m) v 0 (omega arith)

put_not : (units : List ℕ) (u k v j m : ℕ) → k < 288 → m < 288 → m ≢ k → word_of (with_word u k v units) j m ≡ word_of units j m
put_not units u k v j m hk hm ne = get_or-set_other units (u * 288 + k) (j * 288 + m) v 0 (omega arith)

module _ (count size : ℕ) where
  -- ---- a unit and its slots

  -- slot m of unit u, where it is present, is whole
  abbrev pub SlotsOk : List ℕ → ℕ → Type 0
  SlotsOk units u = is_present units u ≡ true → (m : ℕ) → m < slot_count (word_of units u 2) → slot_whole count size (word_of units u (32 + m)) ≡ true

  module _ (units : List ℕ) (u : ℕ) (long : u * 288 + 288 ≤ length units) where
    size_of : length (unit_slots units u) ≡ slot_count (word_of units u 2)
    unfolding unit_slots
    size_of = length-take-le (slot_count (word_of units u 2)) (drop (slots_at u) units) (rw (length-drop (slots_at u) units) (omega arith))

    slot_of : (m : ℕ) → m < slot_count (word_of units u 2) → get_or (unit_slots units u) m 0 ≡ word_of units u (32 + m)
    unfolding unit_slots
    slot_of m h =
        let z : slots_at u + m ≡ u * 288 + (32 + m) = omega arith in
        get_or-take (slot_count (word_of units u 2)) (drop (slots_at u) units) m 0 h ∙ get_or-drop (slots_at u) units m 0 ∙ ap (λ (k : ℕ). get_or units k 0) z

    pub unit_get : unit_whole units count size u ≡ true → SlotsOk units u
    unfolding unit_whole
    unit_get e t m h =
        let d = size_of in
        rw (slot_of m h) at (every_get (slot_whole count size) (unit_slots units u) 0 m (rw t at e) (omega arith))

    pub unit_all : SlotsOk units u → unit_whole units count size u ≡ true
    unfolding unit_whole
    unit_all f = go (is_present units u) refl
      where
        go : (b : Bool) → is_present units u ≡ b → cond b (all_whole count size (unit_slots units u)) true ≡ true
        go true t =
            let d = size_of in
            every_all (slot_whole count size) (unit_slots units u) 0 (λ m h. let q : m < slot_count (word_of units u 2) = omega arith in rw (slot_of m q) (f t m q))
        go false t = refl

  -- a unit's 288 words are all that the test looks at
  alike : (units units' : List ℕ) (u : ℕ) → length units' ≡ length units → u * 288 + 288 ≤ length units → ((k : ℕ) → k < 288 → word_of units' u k ≡ word_of units u k)
      → unit_whole units count size u ≡ true → unit_whole units' count size u ≡ true
  alike units units' u l long e w =
      unit_all units' u (omega arith) (λ t m h.
      let p : is_present units u ≡ true = ap (λ (x : ℕ). not (eqb x 0)) (sym (e 0 (omega arith))) ∙ t in
      let q : word_of units' u 2 ≡ word_of units u 2 = e 2 (omega arith) in
      let k : m < slot_count (word_of units u 2) = omega (arith, q, h) in
      rw (e (32 + m) (omega (arith, k))) (unit_get units u long w p m k))

  -- ---- what keeps units whole

  pub record Keeps (units units' : List ℕ) : Type 0 where
    pub same : length units' ≡ length units
    pub stays : (v : ℕ) → v * 288 + 288 ≤ length units → unit_whole units count size v ≡ true → unit_whole units' count size v ≡ true

  pub keeps_all : (units : List ℕ) → Keeps units units
  keeps_all units = record { same = refl; stays = λ v l w. w }

  pub keeps_both : (a b c : List ℕ) → Keeps a b → Keeps b c → Keeps a c
  keeps_both a b c f g = record { same = g.same ∙ f.same; stays = λ v l w. let e = f.same in g.stays v (omega arith) (f.stays v l w) }

  -- ---- a set is put in

  module _ (heads slots : List ℕ) (i u : ℕ) (units : List ℕ) (in_slots : i * 288 + 288 ≤ length slots) (in_units : u * 288 + 288 ≤ length units)
      (whole : all_whole count size (row_slots heads slots i) ≡ true) where
    abbrev part : List ℕ
    part = row_slots heads slots i

    abbrev pasted : List ℕ
    pasted = paste units (slots_at u) part (length part)

    abbrev v : ℕ
    v = version_of heads i % 4294967296

    abbrev n : ℕ
    n = length part - 1

    abbrev put : List ℕ
    put = with_words u v n pasted

    part_length : length part ≡ slot_count (last_of heads i)
    part_length = length_slots heads slots i in_slots

    pasted_length : length pasted ≡ length units
    pasted_length = let d = part_length in length-paste units (slots_at u) part (length part) (omega arith) (le_refl (length part))

    put_length : length put ≡ length units
    put_length = length-set (with_word u 1 v (with_word u 0 1 pasted)) (u * 288 + 2) n ∙ length-set (with_word u 0 1 pasted) (u * 288 + 1) v ∙ length-set pasted (u * 288 + 0) 1 ∙ pasted_length

    other : (j : ℕ) → j ≢ u → (m : ℕ) → m < 288 → word_of put j m ≡ word_of units j m
    other j ne m h =
        put_unit (with_word u 1 v (with_word u 0 1 pasted)) u 2 n j m (omega arith) h ne
        ∙ put_unit (with_word u 0 1 pasted) u 1 v j m (omega arith) h ne
        ∙ put_unit pasted u 0 1 j m (omega arith) h ne ∙ beside (dec_lt j u)
      where
        d : length part ≡ slot_count (last_of heads i)
        d = part_length

        beside : Dec (j < u) → word_of pasted j m ≡ word_of units j m
        beside (yes l) = let z = d in paste_before units (slots_at u) part (length part) (j * 288 + m) 0 (omega arith) (le_refl (length part)) (omega arith)
        beside (no l) = let z = d in paste_past units (slots_at u) part (length part) (j * 288 + m) 0 (omega arith) (le_refl (length part)) (omega arith)

    last : word_of put u 2 ≡ n
    last =
        let k : length (with_word u 1 v (with_word u 0 1 pasted)) ≡ length units = length-set (with_word u 0 1 pasted) (u * 288 + 1) v ∙ length-set pasted (u * 288 + 0) 1 ∙ pasted_length in
        put_same (with_word u 1 v (with_word u 0 1 pasted)) u 2 n (omega arith)

    slot : (m : ℕ) → m < length part → word_of put u (32 + m) ≡ get_or part m 0
    slot m h =
        let d = part_length in
        let z : u * 288 + (32 + m) ≡ slots_at u + m = omega arith in
        put_not (with_word u 1 v (with_word u 0 1 pasted)) u 2 n u (32 + m) (omega arith) (omega arith) (omega arith)
        ∙ put_not (with_word u 0 1 pasted) u 1 v u (32 + m) (omega arith) (omega arith) (omega arith)
        ∙ put_not pasted u 0 1 u (32 + m) (omega arith) (omega arith) (omega arith)
        ∙ ap (λ (k : ℕ). get_or pasted k 0) z ∙ paste_in units (slots_at u) part (length part) m 0 (omega arith) (le_refl (length part)) h

    own : unit_whole put count size u ≡ true
    own =
        let l = put_length in
        unit_all put u (omega arith) (λ t m h.
        let d = part_length in
        let q = last in
        let k : m < length part = omega (arith, d, q, h) in
        rw (slot m k) (every_get (slot_whole count size) part 0 m whole k))

    put_keeps : Keeps units put
    put_keeps = record { same = put_length; stays = λ j l w. go j l w (ℕ_discrete j u) }
      where
        go : (j : ℕ) → j * 288 + 288 ≤ length units → unit_whole units count size j ≡ true → Dec (j ≡ u) → unit_whole put count size j ≡ true
        go j l w (yes e) = rw e own
        go j l w (no ne) = alike units put j put_length l (other j ne) w

    pub set_keeps : Keeps units (with_set heads slots i u units)
    unfolding with_set
    set_keeps = put_keeps

  -- ---- the tables are taken out

  module _ (u : ℕ) (units : List ℕ) (in_units : u * 288 + 288 ≤ length units) where
    gone_length : length (with_word u 0 0 units) ≡ length units
    gone_length = length-set units (u * 288 + 0) 0

    gone_own : unit_whole (with_word u 0 0 units) count size u ≡ true
    unfolding unit_whole
    gone_own = rw (put_same units u 0 0 (omega arith))

    gone_keeps : Keeps units (with_word u 0 0 units)
    gone_keeps = record { same = gone_length; stays = λ j l w. go j l w (ℕ_discrete j u) }
      where
        go : (j : ℕ) → j * 288 + 288 ≤ length units → unit_whole units count size j ≡ true → Dec (j ≡ u) → unit_whole (with_word u 0 0 units) count size j ≡ true
        go j l w (yes e) = rw e gone_own
        go j l w (no ne) = alike units (with_word u 0 0 units) j gone_length l (λ m h. put_unit units u 0 0 j m (omega arith) h ne) w

  pub without_keeps : (base n : ℕ) (units : List ℕ) → (base + n) * 288 ≤ length units → Keeps units (without_units base n units)
  unfolding without_units
  without_keeps base zero units l = keeps_all units
  without_keeps base (suc n) units l =
      let g = gone_keeps (base + n) units (omega arith) in
      let e = g.same in
      keeps_both units (with_word (base + n) 0 0 units) (without_units base n (with_word (base + n) 0 0 units)) g (without_keeps base n (with_word (base + n) 0 0 units) (omega arith))

  -- they are whole whatever they were
  pub without_whole : (base n : ℕ) (units : List ℕ) → (base + n) * 288 ≤ length units → (j : ℕ) → j < n → unit_whole (without_units base n units) count size (base + j) ≡ true
  unfolding without_units
  without_whole base zero units l j h = absurd (not-suc-le-zero h)
  without_whole base (suc n) units l j h =
      let e = gone_length (base + n) units (omega arith) in
      let k = without_keeps base n (with_word (base + n) 0 0 units) (omega arith) in
      go (ℕ_discrete j n) (k.stays (base + n) (omega arith) (gone_own (base + n) units (omega arith))) (λ q. without_whole base n (with_word (base + n) 0 0 units) (omega arith) j q)
    where
      go : Dec (j ≡ n) → unit_whole (without_units base n (with_word (base + n) 0 0 units)) count size (base + n) ≡ true
          → (j < n → unit_whole (without_units base n (with_word (base + n) 0 0 units)) count size (base + j) ≡ true)
          → unit_whole (without_units base n (with_word (base + n) 0 0 units)) count size (base + j) ≡ true
      go (yes e) o ih = rw e o
      go (no ne) o ih = ih (omega arith)

  -- ---- refilled

  module _ (heads slots : List ℕ) (used : ℕ) (key : Key) (own_table base : ℕ) (long : used * 288 ≤ length slots)
      (rows : (i : ℕ) → i < used → all_whole count size (row_slots heads slots i) ≡ true) where
    abbrev row_for : ℕ → ℕ
    row_for j = row_of heads (with_table key (first_table key.table_id + j)) used

    table_keeps : (j : ℕ) (units : List ℕ) → (base + j) * 288 + 288 ≤ length units → Keeps units (with_table_set heads slots used key own_table base j units)
    unfolding with_table_set with_complete
    table_keeps j units l = go (eqb (first_table key.table_id + j) own_table) (ltb (row_for j) used) (set_complete heads slots (row_for j)) refl
      where
        go : (a b c : Bool) → ltb (row_for j) used ≡ b → Keeps units (cond a units (cond (b && c) (with_set heads slots (row_for j) (base + j) units) units))
        go true b c e = keeps_all units
        go false false c e = keeps_all units
        go false true false e = keeps_all units
        go false true true e = let h = ltb-true (row_for j) used e in set_keeps heads slots (row_for j) (base + j) units (omega arith) l (rows (row_for j) h)

    pub refill_keeps : (n : ℕ) (units : List ℕ) → (base + n) * 288 ≤ length units → Keeps units (refilled heads slots used key own_table base n units)
    unfolding refilled
    refill_keeps zero units l = keeps_all units
    refill_keeps (suc n) units l =
        let t = table_keeps n units (omega arith) in
        let e = t.same in
        keeps_both units (with_table_set heads slots used key own_table base n units) (refilled heads slots used key own_table base n (with_table_set heads slots used key own_table base n units)) t
        (refill_keeps n (with_table_set heads slots used key own_table base n units) (omega arith))

  -- ---- the units of a schedule

  module _ (units : List ℕ) (base : ℕ) where
    pub units_get : (n j : ℕ) → units_whole units count size base n ≡ true → j < n → unit_whole units count size (base + j) ≡ true
    unfolding units_whole
    units_get zero j e h = absurd (not-suc-le-zero h)
    units_get (suc n) j e h =
        let a = and_true (unit_whole units count size (base + n)) (units_whole units count size base n) e in
        go (ℕ_discrete j n) a.0 (λ q. units_get n j a.1 q)
      where
        go : Dec (j ≡ n) → unit_whole units count size (base + n) ≡ true → (j < n → unit_whole units count size (base + j) ≡ true) → unit_whole units count size (base + j) ≡ true
        go (yes q) p ih = rw q p
        go (no d) p ih = ih (omega arith)

    pub units_all : (n : ℕ) → ((j : ℕ) → j < n → unit_whole units count size (base + j) ≡ true) → units_whole units count size base n ≡ true
    unfolding units_whole
    units_all zero f = refl
    units_all (suc n) f = rw (f n (omega arith)) (units_all n (λ j h. f j (omega arith)))
