-- The loop over the tables of two schedules: the first section of each table, met in order on one walk.
-- Assumes nothing.
use mathlib.Core.Path.{◌≡◌, refl, sym, ap, ◌∙◌}
use mathlib.Core.Bool.{Bool, true, false, cond}
use mathlib.Core.List.{List, [], ◌∷◌, ◌++◌, append-nil, append_assoc}
use Prim.Native.Nat.{ℕ, zero, suc, ◌+◌, ◌≤◌, ◌<◌}
use native.Mathlib.Nat.{add-zero}
use native.Mathlib.Numerals.{add-one}
use native.Mathlib.Omega.{arith}
use lib.ListN.{length, drop, set, drop_of_length-le}
use lib.Seq.{set_at, drop-cons}
use lib.Dec.{ltb, eqb}
use borrow.Author.Tests.{eq-eqb, ne_eqb, leb-true, ltb-true, ltb-false, eqb-false}
use Rattle.laws.proofs.Tests.{and_true}
use Rattle.section.specs.Header.{table_id_of}
use Rattle.laid.specs.Laid.{sections_in, chain, chain_from, same_version, same_last}
use Rattle.laid.specs.Walk.{LaidFrom, from, leads, following, below_table, Passed}
use Rattle.differences.specs.Rules.{up_from, leader, table_word, table_words}
use Rattle.differences.specs.Walk.{tables_rise, StartsAt, Tabled}
use Rattle.differences.proofs.Upward.{up_append}

-- ---- the word of a table

module _ (x y : List ℕ) where
  pub word_neither : length x ≡ 0 → length y ≡ 0 → 0 ≡ table_word x y
  unfolding table_word
  word_neither h l = rw (eq-eqb (length x) 0 h, eq-eqb (length y) 0 l)

  pub word_second : length x ≡ 0 → (length y ≡ 0 → ⊥) → 2 ≡ table_word x y
  unfolding table_word
  word_second h l = rw (eq-eqb (length x) 0 h, ne_eqb (length y) 0 l)

  pub word_first : (length x ≡ 0 → ⊥) → length y ≡ 0 → 1 ≡ table_word x y
  unfolding table_word
  word_first h l = rw (ne_eqb (length x) 0 h, eq-eqb (length y) 0 l)

  pub word_both : (v l : ℕ) → (length x ≡ 0 → ⊥) → (length y ≡ 0 → ⊥) → v ≡ cond (same_version x y) 0 4 → l ≡ cond (same_last x y) 0 8 → 3 + v + l ≡ table_word x y
  unfolding table_word
  word_both v l h m e f = rw (ne_eqb (length x) 0 h, ne_eqb (length y) 0 m, e, f)

-- ---- the first section of a table

-- past the table there is none
leader_past : (t : ℕ) (x : List ℕ) (xs : List (List ℕ)) → t < table_id_of x → chain_from tables_rise x xs ≡ true → leader xs t ≡ []
unfolding chain_from leader
leader_past t x [] h e = refl
leader_past t x (y ∷ ys) h e =
    let c = and_true (tables_rise x y) (chain_from tables_rise y ys) e in
    let l = leb-true (table_id_of x) (table_id_of y) c.0 in
    rw (ne_eqb (table_id_of y) t (λ (q : table_id_of y ≡ t). omega arith)) (leader_past t y ys (omega arith) c.1)

-- where no earlier table is left, it leads or is not there
pub leader_leads : (t : ℕ) (xs : List (List ℕ)) → chain tables_rise xs ≡ true → StartsAt t xs → leader xs t ≡ leads t xs
unfolding chain leader
leader_leads t [] e h = refl
leader_leads t (x ∷ xs) e h = go (eqb (table_id_of x) t) refl
  where
    go : (b : Bool) → eqb (table_id_of x) t ≡ b → cond b x (leader xs t) ≡ cond b x []
    go true z = refl
    go false z = let q = eqb-false (table_id_of x) t z in leader_past t x xs (omega arith) e

-- passing earlier tables leaves the first section of the others, and the order
pub leader_passed : (bound m : ℕ) (xs : List (List ℕ)) → bound ≤ m → leader xs m ≡ leader (following (below_table bound) xs) m
unfolding leader following
leader_passed bound m [] h = refl
leader_passed bound m (x ∷ xs) h = go (ltb (table_id_of x) bound) refl (leader_passed bound m xs h)
  where
    go : (b : Bool) → ltb (table_id_of x) bound ≡ b → leader xs m ≡ leader (following (below_table bound) xs) m
        → cond (eqb (table_id_of x) m) x (leader xs m) ≡ leader (cond b (following (below_table bound) xs) (x ∷ xs)) m
    go true z f = let q = ltb-true (table_id_of x) bound z in rw (ne_eqb (table_id_of x) m (λ (p : table_id_of x ≡ m). omega arith)) f
    go false z f = refl

passed_starts : (bound : ℕ) (xs : List (List ℕ)) → StartsAt bound (following (below_table bound) xs)
unfolding following
passed_starts bound [] = tt
passed_starts bound (x ∷ xs) = go (ltb (table_id_of x) bound) refl (passed_starts bound xs)
  where
    go : (b : Bool) → ltb (table_id_of x) bound ≡ b → StartsAt bound (following (below_table bound) xs) → StartsAt bound (cond b (following (below_table bound) xs) (x ∷ xs))
    go true z f = f
    go false z f = ltb-false (table_id_of x) bound z

tail_rises : (x : List ℕ) (xs : List (List ℕ)) → chain_from tables_rise x xs ≡ true → chain tables_rise xs ≡ true
unfolding chain chain_from
tail_rises x [] e = refl
tail_rises x (y ∷ ys) e = (and_true (tables_rise x y) (chain_from tables_rise y ys) e).1

passed_rises : (bound : ℕ) (xs : List (List ℕ)) → chain tables_rise xs ≡ true → chain tables_rise (following (below_table bound) xs) ≡ true
unfolding chain following
passed_rises bound [] e = refl
passed_rises bound (x ∷ xs) e = go (ltb (table_id_of x) bound) (λ (f : chain tables_rise xs ≡ true). passed_rises bound xs f)
  where
    go : (b : Bool) → (chain tables_rise xs ≡ true → chain tables_rise (following (below_table bound) xs) ≡ true) → chain tables_rise (cond b (following (below_table bound) xs) (x ∷ xs)) ≡ true
    go true f = f (tail_rises x xs e)
    go false f = e

-- ---- the loop

-- a side at table t of the walk
pub record Side (base : ℕ) (s : List ℕ) (i t : ℕ) : Type 0 where
  pub laid : LaidFrom s i
  pub rising : chain tables_rise (from s i) ≡ true
  pub starts : StartsAt (base + t) (from s i)
  pub same : (m : ℕ) → base + t ≤ m → leader (sections_in s) m ≡ leader (from s i) m

pub side_starts : (base : ℕ) (s : List ℕ) → Tabled base s → Side base s 0 0
side_starts base s w = record {
  laid = record { fits = omega arith; whole = w.laid };
  rising = w.rising;
  starts = rw (add-zero base) w.starts;
  same = λ m h. refl;
}

module _ (base : ℕ) (s : List ℕ) (i t : ℕ) (k : Side base s i t) where
  pub side_leads : leads (base + t) (from s i) ≡ leader (sections_in s) (base + t)
  side_leads = sym (k.same (base + t) (omega arith) ∙ leader_leads (base + t) (from s i) k.rising k.starts)

  pub side_turn : (r : ℕ) → Passed (below_table (base + t + 1)) s i r → Side base s r (t + 1)
  side_turn r p =
      let z : base + t + 1 ≡ base + (t + 1) = omega arith in
      record {
        laid = p.laid;
        rising = rw p.rest (passed_rises (base + t + 1) (from s i) k.rising);
        starts = rw (p.rest, ← z) (passed_starts (base + t + 1) (from s i));
        same = λ m h. k.same m (omega arith) ∙ leader_passed (base + t + 1) m (from s i) (omega arith) ∙ rw p.rest;
      }

-- one word a table
word_at : List ℕ → List ℕ → ℕ → List ℕ
word_at a b t = table_word (leader (sections_in a) t) (leader (sections_in b) t) ∷ []

one_each : (k n : ℕ) (a b : List ℕ) → length (up_from k n (word_at a b)) ≡ k
unfolding up_from word_at
one_each zero n a b = refl
one_each (suc k) n a b = ap suc (one_each k (suc n) a b)

-- the words of the first t tables, and the others as they were
abbrev pub words_to : ℕ → List ℕ → List ℕ → List ℕ → ℕ → List ℕ
words_to base a b words t = up_from t base (λ (m : ℕ). table_word (leader (sections_in a) m) (leader (sections_in b) m) ∷ []) ++ drop t words

module _ (base : ℕ) (a b words₀ : List ℕ) where
  pub tabling_starts : words₀ ≡ words_to base a b words₀ 0
  unfolding up_from
  tabling_starts = refl

  pub tabling_turn : (words : List ℕ) (t v : ℕ) (x y : List ℕ) → words ≡ words_to base a b words₀ t → t < length words₀
      → x ≡ leader (sections_in a) (base + t) → y ≡ leader (sections_in b) (base + t) → v ≡ table_word x y → set words t v ≡ words_to base a b words₀ (t + 1)
  unfolding up_from word_at
  tabling_turn words t v x y e h ex ey ev =
      let n : length (up_from t base (λ (m : ℕ). table_word (leader (sections_in a) m) (leader (sections_in b) m) ∷ [])) ≡ t = one_each t base a b in
      rw (
        e,
        drop-cons words₀ t 0 h,
        set_at (up_from t base (λ (m : ℕ). table_word (leader (sections_in a) m) (leader (sections_in b) m) ∷ [])) _ (drop (suc t) words₀) v t n,
        up_append t 1 base (λ (m : ℕ). table_word (leader (sections_in a) m) (leader (sections_in b) m) ∷ []),
        add-one t,
        ev,
        ex,
        ey,
      )
      (sym (append_assoc (up_from t base (λ (m : ℕ). table_word (leader (sections_in a) m) (leader (sections_in b) m) ∷ [])) (table_word (leader (sections_in a) (base + t)) (leader (sections_in b) (base + t)) ∷ []) (drop (suc t) words₀)))

  pub tabling_ends : (words : List ℕ) (t : ℕ) → words ≡ words_to base a b words₀ t → length words₀ ≡ 16 → 16 ≤ t → t ≤ 16 → words ≡ table_words base (sections_in a) (sections_in b)
  unfolding table_words
  tabling_ends words t e l h g =
      let z : t ≡ 16 = omega arith in
      let m : length words₀ ≤ t = omega arith in
      e ∙ rw (drop_of_length-le words₀ m, z) (append-nil (up_from 16 base (λ (m : ℕ). table_word (leader (sections_in a) m) (leader (sections_in b) m) ∷ [])))
