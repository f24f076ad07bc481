-- Rows, by key: what a list of rows has after an update, a turn or a replacement, and that a key found among the words is a key of the list.
-- Assumes nothing.
use Prim.Native.Nat.{ℕ, zero, suc, ◌+◌, ◌*◌, ◌/◌, ◌%◌, ◌^◌, ◌<◌, ◌≤◌}
use mathlib.Core.Path.{◌≡◌, refl, sym, ap, ◌∙◌}
use mathlib.Core.List.{List, [], ◌∷◌, ◌++◌}
use mathlib.Core.Bool.{Bool, true, false, cond, not, ◌&&◌, ◌||◌, or_comm, or_assoc}
use mathlib.Core.List.{append_assoc, append-nil}
use lib.ListN.{length, get_or, take, drop, set, take-append-drop, length-append, drop_of_length-le}
use lib.Seq.{drop-cons, drop-set-lt, take-suc-set, set_split}
use native.Mathlib.Nat.{mod-eq_of_lt, mod_self}
use native.Mathlib.Numerals.{add-one}
use native.Mathlib.Decide.{dec_lt}
use lib.Dec.{ltb, leb, eqb, leb-suc-suc}
use borrow.Author.Tests.{lt-ltb, eqb-true, eqb-false, eq-eqb, ne_eqb}
use native.Mathlib.Omega.{arith}
use Rattle.ring.specs.Store.{row_of, stamp_of}
use Rattle.ring.specs.Rules.{Row, holds, has, updated, later, count_key}
use Rattle.ring.specs.View.{row_at, rows_of, turned}

-- true is not false
no_way {ℓ} : {A : Type ℓ} → true ≡ false → A
no_way e = let z : ◌≡◌ {A = ℕ} 0 1 = cc in absurd (omega arith)

-- key tests over ++
pub holds_append : (k : ℕ) (l m : List Row) → holds k (l ++ m) ≡ (holds k l || holds k m)
holds_append k [] m = refl
holds_append k (r ∷ l) m = ap (λ (b : Bool). eqb r.key k || b) (holds_append k l m) ∙ sym (or_assoc (eqb r.key k) (holds k l) (holds k m))

pub has_append : (n : Row) (l m : List Row) → has n (l ++ m) ≡ cond (holds n.key l) (has n l) (has n m)
has_append n [] m = refl
has_append n (r ∷ l) m =
    go (eqb r.key n.key) (eqb r.version n.version && eqb r.change n.change) (holds n.key l) (has n l) (has_append n l m)
  where
    go : (t e h y : Bool) → has n (l ++ m) ≡ cond h y (has n m) → cond t e (has n (l ++ m)) ≡ cond (t || h) (cond t e y) (has n m)
    go true e h y p = refl
    go false e h y p = p

pub updated_append : (n : Row) (l m : List Row) → updated n (l ++ m) ≡ cond (holds n.key l) (updated n l ++ m) (l ++ updated n m)
updated_append n [] m = refl
updated_append n (r ∷ l) m = go (eqb r.key n.key) (holds n.key l) (updated_append n l m)
  where
    go : (t h : Bool) {x : List Row} → x ≡ cond h (updated n l ++ m) (l ++ updated n m) →
        cond t (n ∷ (l ++ m)) (r ∷ x) ≡ cond (t || h) (cond t (n ∷ l) (r ∷ updated n l) ++ m) (r ∷ (l ++ updated n m))
    go true h p = refl
    go false true p = ap (λ (y : List Row). r ∷ y) p
    go false false p = ap (λ (y : List Row). r ∷ y) p

pub updated_take : (n : Row) (i : ℕ) (l : List Row) → take i (updated n l) ≡ updated n (take i l)
updated_take n zero l = refl
updated_take n (suc i) [] = refl
updated_take n (suc i) (r ∷ l) = go (eqb r.key n.key) (updated_take n i l)
  where
    go : (t : Bool) → take i (updated n l) ≡ updated n (take i l) → take (suc i) (cond t (n ∷ l) (r ∷ updated n l)) ≡ cond t (n ∷ take i l) (r ∷ updated n (take i l))
    go true p = refl
    go false p = ap (λ (y : List Row). r ∷ y) p

pub updated_drop : (n : Row) (i : ℕ) (l : List Row) → drop i (updated n l) ≡ cond (holds n.key (take i l)) (drop i l) (updated n (drop i l))
updated_drop n zero l = refl
updated_drop n (suc i) [] = refl
updated_drop n (suc i) (r ∷ l) = go (eqb r.key n.key) (holds n.key (take i l)) (updated_drop n i l)
  where
    go : (t h : Bool) → drop i (updated n l) ≡ cond h (drop i l) (updated n (drop i l)) → drop (suc i) (cond t (n ∷ l) (r ∷ updated n l)) ≡ cond (t || h) (drop i l) (updated n (drop i l))
    go true h p = refl
    go false h p = p

pub count_append : (k : ℕ) (l m : List Row) → count_key k (l ++ m) ≡ count_key k l + count_key k m
count_append k [] m = omega arith
count_append k (r ∷ l) m = go _ _ _ (eqb r.key k) (count_append k l m)
  where
    go : (a b d : ℕ) (t : Bool) → d ≡ a + b → cond t (suc d) d ≡ cond t (suc a) a + b
    go a b d true e = omega arith
    go a b d false e = e

-- none of a key
pub none_held : (k : ℕ) (l : List Row) → count_key k l ≡ 0 → holds k l ≡ false
none_held k [] e = refl
none_held k (r ∷ l) e = go (eqb r.key k) e (none_held k l)
  where
    go : (t : Bool) {n : ℕ} {h : Bool} → cond t (suc n) n ≡ 0 → (n ≡ 0 → h ≡ false) → (t || h) ≡ false
    go true e f = absurd (omega arith)
    go false e f = f e

pub held_none : (k : ℕ) (l : List Row) → holds k l ≡ false → count_key k l ≡ 0
held_none k [] e = refl
held_none k (r ∷ l) e = go (eqb r.key k) e (held_none k l)
  where
    go : (t : Bool) {n : ℕ} {h : Bool} → (t || h) ≡ false → (h ≡ false → n ≡ 0) → cond t (suc n) n ≡ 0
    go true e f = no_way e
    go false e f = f e

pub held_some : (k : ℕ) (l : List Row) → holds k l ≡ true → 1 ≤ count_key k l
held_some k [] e = no_way (sym e)
held_some k (r ∷ l) e = go (eqb r.key k) e (held_some k l)
  where
    go : (t : Bool) {n : ℕ} {h : Bool} → (t || h) ≡ true → (h ≡ true → 1 ≤ n) → 1 ≤ cond t (suc n) n
    go true e f = omega arith
    go false e f = f e

pub has_none : (n : Row) (l : List Row) → holds n.key l ≡ false → has n l ≡ false
has_none n [] e = refl
has_none n (r ∷ l) e = go (eqb r.key n.key) _ e (has_none n l)
  where
    go : (t x : Bool) {h g : Bool} → (t || h) ≡ false → (h ≡ false → g ≡ false) → cond t x g ≡ false
    go true x e f = no_way e
    go false x e f = f e

pub updated_none : (n : Row) (l : List Row) → holds n.key l ≡ false → updated n l ≡ l
updated_none n [] e = refl
updated_none n (r ∷ l) e = go (eqb r.key n.key) e (updated_none n l)
  where
    go : (t : Bool) {h : Bool} {m : List Row} → (t || h) ≡ false → (h ≡ false → m ≡ l) → cond t (n ∷ l) (r ∷ m) ≡ r ∷ l
    go true e f = no_way e
    go false e f = ap (λ (x : List Row). r ∷ x) (f e)

pub count_updated : (k : ℕ) (n : Row) (l : List Row) → count_key k (updated n l) ≡ count_key k l
count_updated k n [] = refl
count_updated k n (r ∷ l) = go (eqb r.key n.key) refl (count_updated k n l)
  where
    go : (t : Bool) → eqb r.key n.key ≡ t → count_key k (updated n l) ≡ count_key k l → count_key k (cond t (n ∷ l) (r ∷ updated n l)) ≡ cond (eqb r.key k) (suc (count_key k l)) (count_key k l)
    go true e p = rw (eqb-true r.key n.key e)
    go false e p = rw p

-- the ring's rows, by key
pub held_row : (ks ms : List ℕ) (k : ℕ) → length ks ≡ length ms → ltb (row_of ks k) (length ks) ≡ holds k (rows_of ks ms)
held_row [] ms k e = refl
held_row (x ∷ ks) [] k e = absurd (omega arith)
held_row (x ∷ ks) (m ∷ ms) k e = go (eqb x k) (row_of ks k) (length ks) (held_row ks ms k (omega arith))
  where
    go : (t : Bool) (r l : ℕ) {h : Bool} → ltb r l ≡ h → ltb (cond t 0 (suc r)) (suc l) ≡ (t || h)
    go true r l p = lt-ltb 0 (suc l) (omega arith)
    go false r l p = leb-suc-suc (suc r) l ∙ p

-- a number is a version and a change number
pub stamp_row : (k v d : ℕ) → d < 2 ^ 32 → row_at k (stamp_of v d) ≡ record { key = k; version = v; change = d }
stamp_row k v d h =
    let p : (v * 4294967296 + d) / 4294967296 ≡ v = omega arith in
    let q : (v * 4294967296 + d) % 4294967296 ≡ d = omega arith in
    rw (p, q)

pub stamp_eqb : (m v d : ℕ) → d < 2 ^ 32 → (eqb (m / 4294967296) v && eqb (m % 4294967296) d) ≡ eqb m (stamp_of v d)
stamp_eqb m v d h = go (eqb (m / 4294967296) v) (eqb (m % 4294967296) d) refl refl
  where
    go : (s t : Bool) → eqb (m / 4294967296) v ≡ s → eqb (m % 4294967296) d ≡ t → (s && t) ≡ eqb m (stamp_of v d)
    go true true a b =
        let p : m / 4294967296 ≡ v = eqb-true _ _ a in
        let q : m % 4294967296 ≡ d = eqb-true _ _ b in
        sym (eq-eqb m _ (omega arith))
    go true false a b = sym (ne_eqb m _ (λ e. eqb-false (m % 4294967296) d b (omega arith)))
    go false t a b = sym (ne_eqb m _ (λ e. eqb-false (m / 4294967296) v a (omega arith)))

-- the row that is found has both numbers where the list has the very row
pub has_row :
    (ks ms : List ℕ) (n : Row) → length ks ≡ length ms → n.change < 2 ^ 32 → row_of ks n.key < length ks →
    has n (rows_of ks ms) ≡ eqb (get_or ms (row_of ks n.key) 0) (stamp_of n.version n.change)
has_row [] ms n e h f = absurd (omega arith)
has_row (x ∷ ks) [] n e h f = absurd (omega arith)
has_row (x ∷ ks) (m ∷ ms) n e h f = go (eqb x n.key) f (has_row ks ms n (omega arith) h)
  where
    rest : List Row
    rest = rows_of ks ms

    E : Bool
    E = eqb (m / 4294967296) n.version && eqb (m % 4294967296) n.change

    S : ℕ
    S = stamp_of n.version n.change

    R : ℕ
    R = row_of ks n.key

    go :
        (t : Bool) → cond t 0 (suc R) < suc (length ks) → (R < length ks → has n rest ≡ eqb (get_or ms R 0) S) →
        cond t E (has n rest) ≡ eqb (get_or (m ∷ ms) (cond t 0 (suc R)) 0) S
    go true f ih = stamp_eqb m n.version n.change h
    go false f ih = ih (omega arith)

-- to store a number in the row that is found is to update the list
pub update_row :
    (ks ms : List ℕ) (n : Row) → length ks ≡ length ms → n.change < 2 ^ 32 → row_of ks n.key < length ks →
    rows_of ks (set ms (row_of ks n.key) (stamp_of n.version n.change)) ≡ updated n (rows_of ks ms)
update_row [] ms n e h f = absurd (omega arith)
update_row (x ∷ ks) [] n e h f = absurd (omega arith)
update_row (x ∷ ks) (m ∷ ms) n e h f = go (eqb x n.key) refl f (update_row ks ms n (omega arith) h)
  where
    rest : List Row
    rest = rows_of ks ms

    S : ℕ
    S = stamp_of n.version n.change

    R : ℕ
    R = row_of ks n.key

    go :
        (t : Bool) → eqb x n.key ≡ t → cond t 0 (suc R) < suc (length ks) → (R < length ks → rows_of ks (set ms R S) ≡ updated n rest) →
        rows_of (x ∷ ks) (set (m ∷ ms) (cond t 0 (suc R)) S) ≡ cond t (n ∷ rest) (row_at x m ∷ updated n rest)
    go true q f ih = rw (eqb-true x n.key q) (ap (λ (r : Row). r ∷ rest) (stamp_row n.key n.version n.change h))
    go false q f ih = ap (λ (l : List Row). row_at x m ∷ l) (ih (omega arith))

pub length_rows : (ks ms : List ℕ) → length ks ≡ length ms → length (rows_of ks ms) ≡ length ks
length_rows [] ms e = refl
length_rows (k ∷ ks) [] e = absurd (omega arith)
length_rows (k ∷ ks) (m ∷ ms) e = ap suc (length_rows ks ms (omega arith))

pub rows_last :
    (ks ms : List ℕ) (k m : ℕ) → length ks ≡ length ms → rows_of (ks ++ (k ∷ [])) (ms ++ (m ∷ [])) ≡ rows_of ks ms ++ (row_at k m ∷ [])
rows_last [] [] k m e = refl
rows_last [] (y ∷ ms) k m e = absurd (omega arith)
rows_last (x ∷ ks) [] k m e = absurd (omega arith)
rows_last (x ∷ ks) (y ∷ ms) k m e = ap (λ (l : List Row). row_at x y ∷ l) (rows_last ks ms k m (omega arith))

pub rows_set :
    (ks ms : List ℕ) (i k m : ℕ) → length ks ≡ length ms → rows_of (set ks i k) (set ms i m) ≡ set (rows_of ks ms) i (row_at k m)
rows_set [] ms i k m e = refl
rows_set (x ∷ ks) [] i k m e = absurd (omega arith)
rows_set (x ∷ ks) (y ∷ ms) zero k m e = refl
rows_set (x ∷ ks) (y ∷ ms) (suc i) k m e = ap (λ (l : List Row). row_at x y ∷ l) (rows_set ks ms i k m (omega arith))

-- a list turned has the same rows
pub holds_turned : (k f : ℕ) (l : List Row) → holds k (turned f l) ≡ holds k l
holds_turned k f l =
    holds_append k (drop f l) (take f l) ∙ or_comm (holds k (drop f l)) (holds k (take f l)) ∙ sym (holds_append k (take f l) (drop f l)) ∙ ap (holds k) (take-append-drop f l)

pub count_turned : (k f : ℕ) (l : List Row) → count_key k (turned f l) ≡ count_key k l
count_turned k f l =
    let a = count_append k (drop f l) (take f l) in
    let b = count_append k (take f l) (drop f l) in
    let d : count_key k (take f l ++ drop f l) ≡ count_key k l = ap (count_key k) (take-append-drop f l) in
    omega arith

-- a key that stands once is found, and updated, in the list turned as in the list
module _ (n : Row) (f : ℕ) (l : List Row) (once : count_key n.key l ≤ 1) where
  one_side : holds n.key (take f l) ≡ true → holds n.key (drop f l) ≡ true → ⊥
  one_side p q =
      let a = count_append n.key (take f l) (drop f l) in
      let d : count_key n.key (take f l ++ drop f l) ≡ count_key n.key l = ap (count_key n.key) (take-append-drop f l) in
      omega (arith, once, held_some n.key (take f l) p, held_some n.key (drop f l) q)

  pub has_turned : has n (turned f l) ≡ has n l
  has_turned =
      has_append n (drop f l) (take f l)
      ∙ go (holds n.key (drop f l)) (holds n.key (take f l)) refl refl
      ∙ sym (has_append n (take f l) (drop f l)) ∙ ap (has n) (take-append-drop f l)
    where
      go : (s t : Bool) → holds n.key (drop f l) ≡ s → holds n.key (take f l) ≡ t →
          cond s (has n (drop f l)) (has n (take f l)) ≡ cond t (has n (take f l)) (has n (drop f l))
      go true true p q = absurd (one_side q p)
      go true false p q = refl
      go false true p q = refl
      go false false p q = has_none n (take f l) q ∙ sym (has_none n (drop f l) p)

  pub updated_turned : turned f (updated n l) ≡ updated n (turned f l)
  updated_turned =
      rw (updated_append n (drop f l) (take f l), updated_take n f l, updated_drop n f l)
      (go (holds n.key (drop f l)) (holds n.key (take f l)) refl refl)
    where
      go : (s t : Bool) → holds n.key (drop f l) ≡ s → holds n.key (take f l) ≡ t →
          cond t (drop f l) (updated n (drop f l)) ++ updated n (take f l) ≡ cond s (updated n (drop f l) ++ take f l) (drop f l ++ updated n (take f l))
      go true true p q = absurd (one_side q p)
      go true false p q = ap (λ (y : List Row). updated n (drop f l) ++ y) (updated_none n (take f l) q)
      go false true p q = refl
      go false false p q = ap (λ (y : List Row). y ++ updated n (take f l)) (updated_none n (drop f l) p)

pub length_turned : (f : ℕ) (l : List Row) → length (turned f l) ≡ length l
length_turned f l =
    let a = length-append (drop f l) (take f l) in
    let b = length-append (take f l) (drop f l) in
    let d : length (take f l ++ drop f l) ≡ length l = ap length (take-append-drop f l) in
    omega arith

-- in a full ring the row at f gives way: the list loses its first and gains a last
pub replace_row : (l : List Row) (n : Row) (f : ℕ) → f < length l → turned ((f + 1) % length l) (set l f n) ≡ later (turned f l) ++ (n ∷ [])
replace_row l n f h = go (dec_lt (f + 1) (length l))
  where
    old : later (turned f l) ≡ drop (suc f) l ++ take f l
    old = rw (drop-cons l f (row_at 0 0) h)

    go : Dec (f + 1 < length l) → turned ((f + 1) % length l) (set l f n) ≡ later (turned f l) ++ (n ∷ [])
    go (yes q) =
        rw (old, mod-eq_of_lt q, add-one f, drop-set-lt (suc f) l f n (omega arith), take-suc-set l f n h)
        (sym (append_assoc (drop (suc f) l) (take f l) (n ∷ [])))
    go (no q) =
        let e : f + 1 ≡ length l = omega arith in
        let z : drop (suc f) l ≡ [] = drop_of_length-le l {i = suc f} (omega arith) in
        rw (old, e, mod_self (length l), set_split l f n h, z) (append-nil _)

pub count_later : (k : ℕ) (l : List Row) → count_key k (later l) ≤ count_key k l
count_later k [] = omega arith
count_later k (r ∷ l) = go (eqb r.key k) (count_key k l)
  where
    go : (t : Bool) (n : ℕ) → n ≤ cond t (suc n) n
    go true n = omega arith
    go false n = omega arith

-- a key that is new stands once
pub count_last : (k : ℕ) (l : List Row) (n : Row) → count_key k l ≤ 1 → count_key n.key l ≡ 0 → count_key k (l ++ (n ∷ [])) ≤ 1
count_last k l n h z = go (eqb n.key k) refl
  where
    go : (t : Bool) → eqb n.key k ≡ t → count_key k (l ++ (n ∷ [])) ≤ 1
    go true e =
        let q : n.key ≡ k = eqb-true _ _ e in
        let y : count_key k l ≡ 0 = rw q at z in
        let a : count_key k (n ∷ []) ≡ 1 = rw e in
        omega (arith, count_append k l (n ∷ []))
    go false e =
        let a : count_key k (n ∷ []) ≡ 0 = rw e in
        omega (arith, count_append k l (n ∷ []))
