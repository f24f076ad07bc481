-- The words of the heads: each touch that the code makes is one of Touched.
-- Assumes nothing.
use mathlib.Core.Path.{◌≡◌, ◌∙◌}
use mathlib.Core.Logic.{◌≢◌}
use mathlib.Core.Bool.{Bool, true, false, cond}
use mathlib.Core.List.{List}
use Prim.Native.Nat.{ℕ, ◌+◌, ◌*◌, ◌≤◌, ◌<◌}
use native.Mathlib.Omega.{arith}
use lib.ListN.{length}
use Rattle.rows.specs.declared.Key.{Key}
use Rattle.rows.specs.declared.Entry.{Entry}
use Rattle.rows.specs.declared.Room.{Room}
use Rattle.rows.specs.Rows.{word, put, KeyWord, to_5, is_10, key_at, touched, fresh_head, kept_heads, mark_of, with_mark}
use Rattle.rows.proofs.Words.{of_key, put_same, put_not, touched_not, touched_newest, touched_other, fresh_word, kept_fresh}
use Rattle.ticks.specs.Order.{Touched}

-- words that are the same are the same key
pub key_same : (h h' : List ℕ) (i : ℕ) → ((m : ℕ) → KeyWord m → word h' i m ≡ word h i m) → key_at h' i ≡ key_at h i
key_same h h' i e =
    rw (low 0 (omega arith), low 1 (omega arith), low 2 (omega arith), low 3 (omega arith), low 4 (omega arith), low 5 (omega arith), e 10 is_10)
  where
    low : (m : ℕ) → m < 6 → word h' i m ≡ word h i m
    low m l = e m (to_5 m l)

-- row i was made ready, with the key, and is touched
pub ready_touched : (heads heads₁ : List ℕ) (key : Key) (i clock used' : ℕ) → used' * 12 ≤ length heads₁ → i < used' → key_at heads₁ i ≡ key
    → ((j m : ℕ) → j < used' → j ≢ i → m < 12 → word heads₁ j m ≡ word heads j m) → Touched heads (touched clock i heads₁) key i clock used'
ready_touched heads heads₁ key i clock used' l h own others = record {
  newest = touched_newest clock i heads₁ (omega arith);
  own = key_same heads₁ (touched clock i heads₁) i (λ m k. touched_not clock i heads₁ i m (of_key m k).no_tick (of_key m k).below) ∙ own;
  ticks = λ j k ne. touched_other clock i heads₁ j 9 ne (omega arith) ∙ others j 9 k ne (omega arith);
  others = λ j k ne. key_same heads (touched clock i heads₁) j (λ m q. touched_other clock i heads₁ j m ne (of_key m q).below ∙ others j m k ne (of_key m q).below);
}

-- a word that is neither of the key nor the tick does not matter
pub put_touched : (heads heads₁ : List ℕ) (key : Key) (i clock used' r k v : ℕ) → Touched heads heads₁ key i clock used' → ((m : ℕ) → KeyWord m → m ≢ k) → k < 12 → 9 ≢ k → Touched heads (put r k v heads₁) key i clock used'
put_touched heads heads₁ key i clock used' r k v t l h n = record {
  newest = same 9 i n (omega arith) ∙ t.newest;
  own = keys i ∙ t.own;
  ticks = λ j q ne. same 9 j n (omega arith) ∙ t.ticks j q ne;
  others = λ j q ne. keys j ∙ t.others j q ne;
}
  where
    same : (m j : ℕ) → m ≢ k → m < 12 → word (put r k v heads₁) j m ≡ word heads₁ j m
    same m j ne q = put_not heads₁ r k v j m ne h q

    keys : (j : ℕ) → key_at (put r k v heads₁) j ≡ key_at heads₁ j
    keys j = key_same heads₁ (put r k v heads₁) j (λ m q. same m j (l m q) (of_key m q).below)

-- ---- the head of a section that is kept

module _ (r : Room) (e : Entry) (h : List ℕ) (l : r.row * 12 + 12 ≤ length h) where
  pub kept_fresh_key : r.fresh ≡ true → key_at (kept_heads r e h) r.row ≡ e.key
  kept_fresh_key f =
      rw (
        kept_fresh r e h l f 0 (omega arith),
        kept_fresh r e h l f 1 (omega arith),
        kept_fresh r e h l f 2 (omega arith),
        kept_fresh r e h l f 3 (omega arith),
        kept_fresh r e h l f 4 (omega arith),
        kept_fresh r e h l f 5 (omega arith),
        kept_fresh r e h l f 10 (omega arith),
      )

  -- "A new section clears the mark"
  pub kept_unmarked : mark_of (kept_heads r e h) r.row ≡ 0
  unfolding kept_heads
  kept_unmarked = go r.fresh
    where
      go : (b : Bool) → mark_of (cond b (fresh_head r.row e h) (with_mark r.row 0 h)) r.row ≡ 0
      go true = fresh_word r.row e h l 8 (omega arith)
      go false = put_same h r.row 8 0 (omega arith)
