-- A column of tags: one law for each turn and each way out, and a touch leaves a column that tells of the rows.
-- Assumes nothing.
use mathlib.Core.Path.{◌≡◌, refl, sym, ap, ◌∙◌}
use mathlib.Core.List.{List}
use mathlib.Core.Logic.{◌≢◌}
use mathlib.Core.Bool.{Bool, true, false, cond, ◌&&◌, ◌||◌, or_assoc, or-false}
use Prim.Native.Nat.{ℕ, zero, suc, ◌+◌, ◌-◌, ◌<◌, ◌≤◌, min}
use native.Mathlib.Numerals.{add-one}
use native.Mathlib.Decide.{ℕ_discrete}
use native.Mathlib.Omega.{arith}
use borrow.Author.Tests.{eqb-true, eqb-false, leb-true}
use lib.Dec.{eqb, leb, ltb}
use lib.ListN.{length, get_or, take, drop, set, length-drop, drop_of_length-le}
use lib.Seq.{drop-cons, get_or-take, get_or-drop, length-take-le, get_or-set_same, get_or-set_other}
use Rattle.laws.specs.Lists.{any, first_from}
use Rattle.laws.proofs.Search.{any_not, first_before, first_skip}
use Rattle.laws.proofs.Tests.{and_true as both_true}
use Rattle.rows.specs.Rows.{key_at, same_origin, same_key, touched}
use Rattle.rows.specs.declared.Origin.{Origin}
use Rattle.rows.specs.declared.Key.{Key}
use Rattle.rows.proofs.Words.{touched_not}
use Rattle.columns.specs.Columns.{tag_of, Tells}

-- ---- a touch

-- it changes no word of a key
pub tells_touched : (tags heads : List ℕ) (used clock i : ℕ) → Tells tags heads used → Tells tags (touched clock i heads) used
tells_touched tags heads used clock i t = record {
  each = λ j h. t.each j h ∙ sym (rw (
    touched_not clock i heads j 0 (omega arith) (omega arith),
    touched_not clock i heads j 1 (omega arith) (omega arith),
    touched_not clock i heads j 2 (omega arith) (omega arith),
    touched_not clock i heads j 4 (omega arith) (omega arith),
  ));
}

-- fewer rows
pub tells_fewer : (tags heads : List ℕ) (n m : ℕ) → m ≤ n → Tells tags heads n → Tells tags heads m
tells_fewer tags heads n m h t = record { each = λ i l. t.each i (omega arith) }

-- ---- a column that pays has room for the rows

pub pays_room : (used bytes : ℕ) (b : Bool) → b ≡ (leb 512 used && leb used 8192 && ltb 4103 bytes) → b ≡ true → used ≤ 8192
pays_room used bytes b e t = leb-true used 8192 (both_true (leb 512 used) (leb used 8192) (both_true (leb 512 used && leb used 8192) (ltb 4103 bytes) (sym e ∙ t)).0).1

-- ---- filling

pub tells_none : (tags heads : List ℕ) → Tells tags heads 0
tells_none tags heads = record { each = λ i l. absurd (omega arith) }

pub tells_more : (tags heads : List ℕ) (i v : ℕ) (k : Key) → i < length tags → k ≡ key_at heads i → v ≡ tag_of k → Tells tags heads i → Tells (set tags i v) heads (i + 1)
tells_more tags heads i v k l e q t = record { each = λ j h. go j h (ℕ_discrete j i) }
  where
    go : (j : ℕ) → j < i + 1 → Dec (j ≡ i) → get_or (set tags i v) j 0 ≡ tag_of (key_at heads j)
    go j h (yes p) = rw p (get_or-set_same tags i v 0 l ∙ q ∙ ap tag_of e)
    go j h (no p) = let n : j ≢ i = p in get_or-set_other tags i j v 0 (omega arith) ∙ t.each j (omega arith)

-- ---- one of the tags

module _ (test : ℕ → Bool) where
  pub any_turn : (xs : List ℕ) (i : ℕ) (ok r : Bool) → i < length xs → r ≡ test (get_or xs i 0) → any test xs ≡ (ok || any test (drop i xs)) → any test xs ≡ (ok || r || any test (drop (i + 1) xs))
  unfolding any
  any_turn xs i ok r h e q =
      q ∙ ap (λ (l : List ℕ). ok || any test l) (drop-cons xs i 0 h) ∙ sym (or_assoc ok (test (get_or xs i 0)) (any test (drop (suc i) xs))) ∙ rw (e, add-one i)

  pub any_end : (xs : List ℕ) (i : ℕ) (ok : Bool) → length xs ≤ i → any test xs ≡ (ok || any test (drop i xs)) → ok ≡ any test xs
  unfolding any
  any_end xs i ok h q = sym (q ∙ rw (drop_of_length-le xs h) (or-false ok))

-- ---- rows by their tags

-- keys that are the same have the same tag
same_pid : (a b : Origin) → same_origin a b ≡ true → a.pid ≡ b.pid
unfolding same_origin
same_pid a b h = eqb-true _ _ (both_true (eqb a.input b.input) (eqb a.pid b.pid) h).1

same_tag : (a b : Key) → same_key a b ≡ true → tag_of a ≡ tag_of b
unfolding same_key
same_tag a b h =
    let stream = both_true _ _ (both_true _ _ h).0 in
    let extension = both_true _ _ (both_true _ _ stream.0).0 in
    let table = both_true _ _ extension.0 in
    let x : a.extension ≡ b.extension = eqb-true _ _ extension.1 in
    let y : a.table_id ≡ b.table_id = eqb-true _ _ table.1 in
    let z : a.from.pid ≡ b.from.pid = same_pid _ _ table.0 in
    let w : a.transport_stream_id ≡ b.transport_stream_id = eqb-true _ _ stream.1 in
    rw (x, y, z, w)

-- a row with another tag has another key
pub other_tag : (tags heads : List ℕ) (n i : ℕ) (key : Key) (t : ℕ) → Tells tags heads n → i < n → t ≡ tag_of key → (get_or tags i 0 ≡ t → ⊥) → false ≡ same_key (key_at heads i) key
other_tag tags heads n i key t tells h e other = go (same_key (key_at heads i) key) refl
  where
    go : (b : Bool) → same_key (key_at heads i) key ≡ b → false ≡ same_key (key_at heads i) key
    go true q = absurd (other (tells.each i h ∙ same_tag (key_at heads i) key q ∙ sym e))
    go false q = sym q

pub row_tagged : (tags heads : List ℕ) (i : ℕ) (key : Key) (t : ℕ) → Tells tags heads (i + 1) → t ≡ tag_of key → (get_or tags i 0 ≡ t → ⊥) → false ≡ same_key (key_at heads i) key
row_tagged tags heads i key t tells e other = other_tag tags heads (i + 1) i key t tells (omega arith) e other

pub row_looked : (heads : List ℕ) (i : ℕ) (key k : Key) (r : Bool) → k ≡ key_at heads i → r ≡ same_key k key → r ≡ same_key (key_at heads i) key
row_looked heads i key k r e q = rw (← e) q

-- ---- a block

module _ (test : ℕ → Bool) where
  -- none of the numbers from a to before e passes
  pub first_none : (a e : ℕ) → a ≤ e → ((j : ℕ) → a ≤ j → j < e → test j ≡ false) → e ≡ first_from test (e - a) a
  unfolding first_from
  first_none a e h f =
      let z : e - a ≡ (e - a) + 0 = omega arith in
      let y : a + (e - a) ≡ e = omega arith in
      sym (ap (λ (n : ℕ). first_from test n a) z ∙ first_skip test (e - a) 0 a (λ j p q. f j p (omega arith)) ∙ rw y)

  longer : (n m i : ℕ) → first_from test n i < i + n → first_from test n i ≡ first_from test (n + m) i
  unfolding first_from
  longer zero m i h = absurd (omega arith)
  longer (suc n) m i h = rw (suc_plus n m) (go (test i) (λ k. longer n m (suc i) k) h)
    where
      suc_plus : (n m : ℕ) → suc n + m ≡ suc (n + m)
      suc_plus n m = omega arith

      go : (b : Bool) → (first_from test n (suc i) < suc i + n → first_from test n (suc i) ≡ first_from test (n + m) (suc i))
          → cond b i (first_from test n (suc i)) < i + suc n → cond b i (first_from test n (suc i)) ≡ cond b i (first_from test (n + m) (suc i))
      go true f h = refl
      go false f h = f (omega arith)

  -- a search in blocks, of which one goes from a to before e: found in it, or not
  pub block_hit : (whole used a e i : ℕ) → a ≤ e → e ≤ used → i ≡ first_from test (e - a) a → i < e → whole ≡ first_from test (used - a) a → i ≡ whole
  block_hit whole used a e i h k q l w =
      let z : used - a ≡ (e - a) + (used - e) = omega arith in
      q ∙ longer (e - a) (used - e) a (rw (← q) (omega arith)) ∙ sym (w ∙ ap (λ (n : ℕ). first_from test n a) z)

  pub block_miss : (whole used a e i : ℕ) → a ≤ e → e ≤ used → i ≡ first_from test (e - a) a → e ≤ i → whole ≡ first_from test (used - a) a → whole ≡ first_from test (used - e) e
  block_miss whole used a e i h k q l w =
      let z : used - a ≡ (e - a) + (used - e) = omega arith in
      let y : a + (e - a) ≡ e = omega arith in
      w ∙ ap (λ (n : ℕ). first_from test n a) z
      ∙ first_skip test (e - a) (used - e) a (λ j p m. first_before test (e - a) a j p (rw (← q) (omega arith))) ∙ rw y

  -- the same by the number that the blocks count on with, which may pass the last
  pub blocks_start : (used : ℕ) → first_from test used 0 ≡ first_from test (used - min 0 used) (min 0 used)
  blocks_start used =
      let z : min 0 used ≡ 0 = omega arith in
      let y : used - 0 ≡ used = omega arith in
      rw (z, y)

  pub block_found : (whole used a e i : ℕ) → a < used → e ≡ min (a + 256) used → i ≡ first_from test (e - a) a → i < e → whole ≡ first_from test (used - min a used) (min a used) → i ≡ whole
  block_found whole used a e i h n q l w =
      let z : min a used ≡ a = omega arith in
      block_hit whole used a e i (omega arith) (omega arith) q l (rw z at w)

  pub block_passed : (whole used a e i : ℕ) → a < used → e ≡ min (a + 256) used → i ≡ first_from test (e - a) a → e ≤ i → whole ≡ first_from test (used - min a used) (min a used)
      → whole ≡ first_from test (used - min (a + 256) used) (min (a + 256) used)
  block_passed whole used a e i h n q l w =
      let z : min a used ≡ a = omega arith in
      let m : whole ≡ first_from test (used - e) e = block_miss whole used a e i (omega arith) (omega arith) q l (rw z at w) in
      rw (← n) m

  pub block_last : (whole used a e i : ℕ) → a < used → used ≤ a + 256 → e ≡ min (a + 256) used → i ≡ first_from test (e - a) a → e ≤ i → whole ≡ first_from test (used - min a used) (min a used) → used ≡ whole
  unfolding first_from
  block_last whole used a e i h k n q l w =
      let z : min a used ≡ a = omega arith in
      let m : whole ≡ first_from test (used - e) e = block_miss whole used a e i (omega arith) (omega arith) q l (rw z at w) in
      let y : used - e ≡ 0 = omega arith in
      let x : used ≡ e = omega arith in
      x ∙ sym (m ∙ rw y)

  pub blocks_end : (whole used a : ℕ) → used ≤ a → whole ≡ first_from test (used - min a used) (min a used) → used ≡ whole
  unfolding first_from
  blocks_end whole used a h w =
      let z : min a used ≡ used = omega arith in
      let y : used - used ≡ 0 = omega arith in
      sym (w ∙ rw (z, y))

pub block_none : (tags heads : List ℕ) (key : Key) (t a e : ℕ) (r : Bool) → a ≤ e → e ≤ length tags → Tells tags heads e → t ≡ tag_of key
    → r ≡ any (λ (x : ℕ). eqb x t) (take (e - a) (drop a tags)) → r ≡ false → e ≡ first_from (λ (k : ℕ). same_key (key_at heads k) key) (e - a) a
block_none tags heads key t a e r h l tells q n f = first_none (λ (k : ℕ). same_key (key_at heads k) key) a e h (λ j p m. sym (other_tag tags heads e j key t tells m q (differs j p m)))
  where
    size : length (take (e - a) (drop a tags)) ≡ e - a
    size = length-take-le (e - a) (drop a tags) (rw (length-drop a tags) (omega arith))

    differs : (j : ℕ) → a ≤ j → j < e → get_or tags j 0 ≡ t → ⊥
    differs j p m =
        let k : a + (j - a) ≡ j = omega arith in
        let b : j - a < e - a = omega arith in
        let o : eqb (get_or (take (e - a) (drop a tags)) (j - a) 0) t ≡ false = any_not (λ (x : ℕ). eqb x t) (take (e - a) (drop a tags)) 0 (j - a) (sym n ∙ f) (rw size b) in
        let g : get_or (take (e - a) (drop a tags)) (j - a) 0 ≡ get_or tags j 0 = get_or-take (e - a) (drop a tags) (j - a) 0 b ∙ get_or-drop a tags (j - a) 0 ∙ rw k in
        eqb-false _ _ (ap (λ (x : ℕ). eqb x t) (sym g) ∙ o)
