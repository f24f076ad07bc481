-- Ticks that are a touch order, over any ticks: touching a row takes it out of its place and puts it at the end.
-- Assumes nothing.
use mathlib.Core.Path.{◌≡◌, refl, sym, ap, subst, ◌∙◌}
use mathlib.Core.Logic.{◌≢◌}
use mathlib.Core.Bool.{Bool, true, false, cond, true≢false}
use mathlib.Core.Option.{Option, none, some}
use mathlib.Core.List.{List, [], ◌∷◌, ◌++◌}
use Prim.Native.Nat.{ℕ, zero, suc, ◌≤◌, ◌<◌}
use native.Mathlib.Nat.{not-suc-le-zero}
use native.Mathlib.Decide.{ℕ_discrete, dec_le}
use native.Mathlib.Omega.{arith}
use borrow.Author.Tests.{eq-eqb, eqb-true, lt-ltb, le-ltb}
use lib.Dec.{eqb}
use lib.ListN.{length}
use Rattle.laws.proofs.Search.{first_passes, first_before}
use Rattle.laws.proofs.Tests.{and_true, or_false}
use Rattle.rules_shared.specs.Touch.{Rows, Entry, find, remove, retain, oldest_gone, some_row, every_row}
use Rattle.ticks.specs.Order.{ahead, listed, row_of_tick, at_tick, in_order, Ticked}

-- ---- lists by a function that has something at some numbers

-- f without what it has at a
abbrev pub gap : {A : Type 0} → ℕ → (ℕ → Option A) → ℕ → Option A
gap zero f zero = none
gap zero f (suc t) = f (suc t)
gap (suc a) f zero = f 0
gap (suc a) f (suc t) = gap a (λ (b : ℕ). f (suc b)) t

-- xs are ys with e somewhere
pub data With {A : Type 0} (e : A) : List A → List A → Type 0 where
  here : (xs : List A) → With e (e ∷ xs) xs
  later : (x : A) {xs ys : List A} → With e xs ys → With e (x ∷ xs) (x ∷ ys)

-- all xs are P
pub data Each {A : Type 0} (P : A → Type 0) : List A → Type 0 where
  over : Each P []
  next : (x : A) {xs : List A} → P x → Each P xs → Each P (x ∷ xs)

module _ {A : Type 0} where
  pub some_none : {a : A} → some a ≢ none
  some_none e = true≢false (ap has e)
    where
      has : Option A → Bool
      has none = false
      has (some a) = true

  pub gap_same : (a : ℕ) (f : ℕ → Option A) → gap a f a ≡ none
  gap_same zero f = refl
  gap_same (suc a) f = gap_same a (λ (b : ℕ). f (suc b))

  pub gap_other : (a : ℕ) (f : ℕ → Option A) (t : ℕ) → t ≢ a → gap a f t ≡ f t
  gap_other zero f zero ne = absurd (ne refl)
  gap_other zero f (suc t) ne = refl
  gap_other (suc a) f zero ne = refl
  gap_other (suc a) f (suc t) ne = gap_other a (λ (b : ℕ). f (suc b)) t (λ e. ne (ap suc e))

  pub listed_cong : (f h : ℕ → Option A) (n : ℕ) → ((b : ℕ) → b < n → f b ≡ h b) → listed f n ≡ listed h n
  unfolding listed
  listed_cong f h zero e = refl
  listed_cong f h (suc n) e =
      let p = e 0 (omega arith) in
      let q = listed_cong (λ (b : ℕ). f (suc b)) (λ (b : ℕ). h (suc b)) n (λ b l. e (suc b) (omega arith)) in
      λ i. ahead (p i) (q i)

  ahead_append : (o : Option A) (l m : List A) → ahead o (l ++ m) ≡ ahead o l ++ m
  ahead_append none l m = refl
  ahead_append (some a) l m = refl

  pub listed_last : (f : ℕ → Option A) (n : ℕ) → listed f (suc n) ≡ listed f n ++ ahead (f n) []
  unfolding listed
  listed_last f zero = refl
  listed_last f (suc n) = ap (ahead (f 0)) (listed_last (λ (b : ℕ). f (suc b)) n) ∙ ahead_append (f 0) (listed (λ (b : ℕ). f (suc b)) n) (ahead (f (suc n)) [])

  pub listed_none : (f : ℕ → Option A) (n : ℕ) → ((b : ℕ) → b < n → f b ≡ none) → listed f n ≡ []
  unfolding listed
  listed_none f zero e = refl
  listed_none f (suc n) e = rw (e 0 (omega arith)) (listed_none (λ (b : ℕ). f (suc b)) n (λ b l. e (suc b) (omega arith)))

  -- nothing from n on
  pub listed_more : (f : ℕ → Option A) (n m : ℕ) → n ≤ m → ((b : ℕ) → n ≤ b → b < m → f b ≡ none) → listed f m ≡ listed f n
  unfolding listed
  listed_more f zero m h e = listed_none f m (λ b l. e b (omega arith) l)
  listed_more f (suc n) zero h e = absurd (not-suc-le-zero h)
  listed_more f (suc n) (suc m) h e = ap (ahead (f 0)) (listed_more (λ (b : ℕ). f (suc b)) n m (omega arith) (λ b k l. e (suc b) (omega arith) (omega arith)))

  pub listed_with : (f : ℕ → Option A) (n a : ℕ) (e : A) → a < n → f a ≡ some e → With e (listed f n) (listed (gap a f) n)
  unfolding listed
  listed_with f zero a e h q = absurd (not-suc-le-zero h)
  listed_with f (suc n) zero e h q = rw q (here (listed (λ (b : ℕ). f (suc b)) n))
  listed_with f (suc n) (suc a) e h q = go (f 0) (listed_with (λ (b : ℕ). f (suc b)) n a e (omega arith) q)
    where
      go : (o : Option A) {xs ys : List A} → With e xs ys → With e (ahead o xs) (ahead o ys)
      go none w = w
      go (some x) w = later x w

  pub listed_each : (P : A → Type 0) (f : ℕ → Option A) (n : ℕ) → ((b : ℕ) (e : A) → b < n → f b ≡ some e → P e) → Each P (listed f n)
  unfolding listed
  listed_each P f zero y = over
  listed_each P f (suc n) y = go (f 0) refl (listed_each P (λ (b : ℕ). f (suc b)) n (λ b e l. y (suc b) e (omega arith)))
    where
      go : (o : Option A) → f 0 ≡ o → {xs : List A} → Each P xs → Each P (ahead o xs)
      go none q r = r
      go (some e) q r = next e (y 0 e (omega arith) q) r

  pub length_with : {e : A} {xs ys : List A} → With e xs ys → length xs ≡ suc (length ys)
  length_with (here xs) = refl
  length_with (later x w) = ap suc (length_with w)

module _ {K R : Type 0} where
  pub first_gone : (f : ℕ → Option (Entry K R)) (n a : ℕ) (e : Entry K R) → a < n → f a ≡ some e → ((b : ℕ) → b < a → f b ≡ none) → oldest_gone (listed f n) ≡ listed (gap a f) n
  unfolding listed oldest_gone
  first_gone f zero a e h q z = absurd (not-suc-le-zero h)
  first_gone f (suc n) zero e h q z = rw q
  first_gone f (suc n) (suc a) e h q z = rw (z 0 (omega arith)) (first_gone (λ (b : ℕ). f (suc b)) n a e (omega arith) q (λ b l. z (suc b) (omega arith)))

  pub retain_with : (test : K → Bool) {e : Entry K R} {xs ys : Rows K R} → With e xs ys → test e.key ≡ false → retain test xs ≡ retain test ys
  unfolding retain
  retain_with test (here xs) y = rw y
  retain_with test (later x w) y = let r = retain_with test w y in λ k. cond (test x.key) (x ∷ r k) (r k)

  pub retain_each : (test : K → Bool) {xs : Rows K R} → Each (λ (e : Entry K R). test e.key ≡ true) xs → retain test xs ≡ xs
  unfolding retain
  retain_each test over = refl
  retain_each test (next x y r) = rw y (ap (λ l. x ∷ l) (retain_each test r))

module _ {K R : Type 0} (same : K → K → Bool) (k : K) where
  pub find_each : {xs : Rows K R} → Each (λ (e : Entry K R). same k e.key ≡ false) xs → find same k xs ≡ none
  unfolding find
  find_each over = refl
  find_each (next x y r) = rw y (find_each r)

  -- the key's row among rows that lack it
  pub with_found : {e : Entry K R} {xs ys : Rows K R} → With e xs ys → same k e.key ≡ true → find same k ys ≡ none → (find same k xs ≡ some e.row) × (remove same k xs ≡ ys)
  unfolding find remove
  with_found (here xs) y z = (rw y, rw y)
  with_found {e} (later x {xs} {ys} w) y z = go (same k x.key) refl z (with_found w y)
    where
      go : (b : Bool) → same k x.key ≡ b → cond b (some x.row) (find same k ys) ≡ none
          → (find same k ys ≡ none → (find same k xs ≡ some e.row) × (remove same k xs ≡ ys))
          → (cond (same k x.key) (some x.row) (find same k xs) ≡ some e.row) × (cond (same k x.key) xs (x ∷ remove same k xs) ≡ x ∷ ys)
      go true q z ih = absurd (some_none z)
      go false q z ih = let r = ih z in (rw q r.0, rw q (ap (λ l. x ∷ l) r.1))

module _ {K R : Type 0} (test : R → Bool) where
  every_each : {xs : Rows K R} → Each (λ (e : Entry K R). test e.row ≡ true) xs → every_row test xs ≡ true
  unfolding every_row
  every_each over = refl
  every_each (next x y r) = rw y (every_each r)

  none_each : {xs : Rows K R} → Each (λ (e : Entry K R). test e.row ≡ false) xs → some_row test xs ≡ false
  unfolding some_row
  none_each over = refl
  none_each (next x y r) = rw y (none_each r)

  with_every : {e : Entry K R} {xs ys : Rows K R} → With e xs ys → every_row test xs ≡ true → test e.row ≡ true
  unfolding every_row
  with_every {e} (here xs) h = (and_true (test e.row) (every_row test xs) h).0
  with_every (later x {xs} w) h = with_every w (and_true (test x.row) (every_row test xs) h).1

  with_none : {e : Entry K R} {xs ys : Rows K R} → With e xs ys → some_row test xs ≡ false → test e.row ≡ false
  unfolding some_row
  with_none {e} (here xs) h = (or_false (test e.row) (some_row test xs) h).0
  with_none (later x {xs} w) h = with_none w (or_false (test x.row) (some_row test xs) h).1

-- ---- rows by tick

-- a row in use has the tick, or none has it
pub data Holds (g : ℕ → ℕ) (used t : ℕ) : Type 0 where
  held : (j : ℕ) → j < used → g j ≡ t → Holds g used t
  free : ((j : ℕ) → j < used → g j ≢ t) → Holds g used t

module _ (g : ℕ → ℕ) (used t : ℕ) where
  row_of : row_of_tick g used t < used → g (row_of_tick g used t) ≡ t
  row_of h = eqb-true (g (row_of_tick g used t)) t (first_passes (λ (i : ℕ). eqb (g i) t) used 0 (omega arith))

  row_none : used ≤ row_of_tick g used t → (j : ℕ) → j < used → g j ≢ t
  row_none h j l e = true≢false (sym (eq-eqb (g j) t e) ∙ first_before (λ (i : ℕ). eqb (g i) t) used 0 j (omega arith) (omega arith))

  pub holds : Holds g used t
  holds = go (dec_le (suc (row_of_tick g used t)) used)
    where
      go : Dec (suc (row_of_tick g used t) ≤ used) → Holds g used t
      go (yes h) = held (row_of_tick g used t) h (row_of h)
      go (no h) = free (row_none (omega arith))

  pub at_none : {A : Type 0} (F : ℕ → A) → ((j : ℕ) → j < used → g j ≢ t) → at_tick g used F t ≡ none
  unfolding at_tick
  at_none F f = go (dec_le (suc (row_of_tick g used t)) used)
    where
      go : Dec (suc (row_of_tick g used t) ≤ used) → at_tick g used F t ≡ none
      go (yes h) = absurd (f (row_of_tick g used t) h (row_of h))
      go (no h) = rw (le-ltb (row_of_tick g used t) used (omega arith))

-- each tick at most once
abbrev pub Once : (ℕ → ℕ) → ℕ → Type 0
Once g used = (i j : ℕ) → i < used → j < used → g i ≡ g j → i ≡ j

module _ {A : Type 0} (g : ℕ → ℕ) (used : ℕ) (one : Once g used) (F : ℕ → A) where
  pub at_some : (j t : ℕ) → j < used → g j ≡ t → at_tick g used F t ≡ some (F j)
  unfolding at_tick
  at_some j t h e = go (dec_le (suc (row_of_tick g used t)) used)
    where
      go : Dec (suc (row_of_tick g used t) ≤ used) → at_tick g used F t ≡ some (F j)
      go (yes l) = rw (lt-ltb (row_of_tick g used t) used l) (ap (λ (i : ℕ). some (F i)) (one (row_of_tick g used t) j l h (row_of g used t l ∙ sym e)))
      go (no l) = absurd (row_none g used t (omega arith) j h e)

  -- what stands at a tick is what a row has
  pub at_row : (t : ℕ) (e : A) → at_tick g used F t ≡ some e → (j : ℕ) × (j < used) × (g j ≡ t) × (F j ≡ e)
  at_row t e q = go (holds g used t)
    where
      same : {a b : A} → ◌≡◌ {A = Option A} (some a) (some b) → a ≡ b
      same {a} z = ap pick z
        where
          pick : Option A → A
          pick none = a
          pick (some c) = c

      go : Holds g used t → (j : ℕ) × (j < used) × (g j ≡ t) × (F j ≡ e)
      go (held j h p) = (j, h, p, same (sym (at_some j t h p) ∙ q))
      go (free f) = absurd (some_none (sym q ∙ at_none g used t F f))

-- two tables with the same at a tick
module _ {A : Type 0} (g g' : ℕ → ℕ) (used used' : ℕ) (one : Once g used) (one' : Once g' used') (F F' : ℕ → A) (t : ℕ) where
  pub same_at : ((j : ℕ) → j < used → g j ≡ t → (m : ℕ) × (m < used') × (g' m ≡ t) × (F' m ≡ F j)) → ((m : ℕ) → m < used' → g' m ≡ t → (j : ℕ) × (j < used) × (g j ≡ t))
      → at_tick g used F t ≡ at_tick g' used' F' t
  same_at to back = go (holds g used t)
    where
      go : Holds g used t → at_tick g used F t ≡ at_tick g' used' F' t
      go (held j h e) = let r = to j h e in at_some g used one F j t h e ∙ ap some (sym r.3) ∙ sym (at_some g' used' one' F' r.0 t r.1 r.2)
      go (free f) = at_none g used t F f ∙ sym (at_none g' used' t F' (λ m l e. let r = back m l e in f r.0 r.1 r.2))

  -- .. but for row i's
  pub gap_at : (i : ℕ) → i < used → ((j : ℕ) → j < used → j ≢ i → g j ≡ t → (m : ℕ) × (m < used') × (g' m ≡ t) × (F' m ≡ F j))
      → ((m : ℕ) → m < used' → g' m ≡ t → (j : ℕ) × (j < used) × (j ≢ i) × (g j ≡ t)) → gap (g i) (at_tick g used F) t ≡ at_tick g' used' F' t
  gap_at i hi to back = go (ℕ_discrete t (g i))
    where
      go : Dec (t ≡ g i) → gap (g i) (at_tick g used F) t ≡ at_tick g' used' F' t
      go (yes e) =
          ap (gap (g i) (at_tick g used F)) e ∙ gap_same (g i) (at_tick g used F)
          ∙ sym (at_none g' used' t F' (λ m l q. let r = back m l q in r.2 (one r.0 i r.1 hi (r.3 ∙ e))))
      go (no ne) =
          gap_other (g i) (at_tick g used F) t ne
          ∙ same_at (λ j h e. to j h (λ q. ne (sym e ∙ ap g q)) e) (λ m l e. let r = back m l e in (r.0, r.1, r.3))

-- ---- the order

-- the rows in touch order without row i
unfoldable pub without : {A : Type 0} → (ℕ → ℕ) → (used clock i : ℕ) → (ℕ → A) → List A
without g used clock i F = listed (gap (g i) (at_tick g used F)) (suc clock)

-- no rows
pub ticked_none : (g : ℕ → ℕ) (clock : ℕ) → Ticked g 0 clock
ticked_none g clock = record { below = λ i h. absurd (not-suc-le-zero h); one = λ i j h. absurd (not-suc-le-zero h) }

pub order_empty : {A : Type 0} (g : ℕ → ℕ) (clock : ℕ) (F : ℕ → A) → in_order g 0 clock F ≡ []
unfolding in_order
order_empty g clock F = listed_none (at_tick g 0 F) (suc clock) (λ b l. at_none g 0 b F (λ j h. absurd (not-suc-le-zero h)))

module _ (g : ℕ → ℕ) (used clock : ℕ) (w : Ticked g used clock) where
  -- a clock that goes on
  pub ticked_later : (clock' : ℕ) → clock ≤ clock' → Ticked g used clock'
  ticked_later clock' h = record { below = λ i l. let b = w.below i l in omega arith; one = w.one }

  pub order_later : {A : Type 0} (clock' : ℕ) → clock ≤ clock' → (F : ℕ → A) → in_order g used clock' F ≡ in_order g used clock F
  unfolding in_order
  order_later clock' h F =
      listed_more (at_tick g used F) (suc clock) (suc clock') (omega arith)
      (λ b k l. at_none g used b F (λ j m e. let z : g j ≤ clock = w.below j m in absurd (omega arith)))

  -- what F makes of the rows in use is all that matters
  pub order_cong : {A : Type 0} (F H : ℕ → A) → ((j : ℕ) → j < used → F j ≡ H j) → in_order g used clock F ≡ in_order g used clock H
  unfolding in_order
  order_cong F H e =
      listed_cong (at_tick g used F) (at_tick g used H) (suc clock)
      (λ t l. same_at g g used used w.one w.one F H t (λ j h q. (j, h, q, sym (e j h))) (λ j h q. (j, h, q)))

-- as many as rows in use
pub length_order : {A : Type 0} (g : ℕ → ℕ) (used clock : ℕ) → Ticked g used clock → (F : ℕ → A) → length (in_order g used clock F) ≡ used
unfolding in_order
length_order g zero clock w F = ap length (order_empty g clock F)
length_order {A} g (suc n) clock w F =
    let v : Ticked g n clock = record { below = λ i l. w.below i (omega arith); one = λ i j h k. w.one i j (omega arith) (omega arith) } in
    let b : g n ≤ clock = w.below n (omega arith) in
    let f : ℕ → Option A = at_tick g (suc n) F in
    let p : (t : ℕ) → gap (g n) f t ≡ at_tick g n F t = λ t. gap_at g g (suc n) n w.one v.one F F t n (omega arith) (λ j h d e. (j, omega arith, e, refl)) (λ j h e. (j, omega arith, omega arith, e)) in
    length_with (listed_with f (suc clock) (g n) (F n) (omega arith) (at_some g (suc n) w.one F n (g n) (omega arith) refl))
    ∙ ap (λ (l : List A). suc (length l)) (listed_cong (gap (g n) f) (at_tick g n F) (suc clock) (λ t l. p t))
    ∙ ap suc (length_order g n clock v F)

-- ---- row i is touched, or comes: its tick is above all others

module _ (g g' : ℕ → ℕ) (used used' clock clock' i : ℕ) (w : Ticked g used clock) (rise : clock < clock') (hi : i < used') (newest : g' i ≡ clock')
    (in_use : (j : ℕ) → j < used' → j ≢ i → j < used) (stay : (j : ℕ) → j < used' → j ≢ i → g' j ≡ g j) where
  pub ticked_touched : Ticked g' used' clock'
  ticked_touched = record { below = low; one = once }
    where
      others : (j : ℕ) → j < used' → j ≢ i → g' j ≤ clock
      others j h ne = let e = stay j h ne in let b = w.below j (in_use j h ne) in omega arith

      low : (j : ℕ) → j < used' → g' j ≤ clock'
      low j h = go (ℕ_discrete j i)
        where
          go : Dec (j ≡ i) → g' j ≤ clock'
          go (yes e) = let z : g' j ≡ clock' = ap g' e ∙ newest in omega arith
          go (no ne) = let b = others j h ne in omega arith

      once : Once g' used'
      once j k hj hk e = go (ℕ_discrete j i) (ℕ_discrete k i)
        where
          go : Dec (j ≡ i) → Dec (k ≡ i) → j ≡ k
          go (yes p) (yes q) = p ∙ sym q
          go (yes p) (no q) = let z : g' j ≡ clock' = ap g' p ∙ newest in let b = others k hk q in absurd (omega arith)
          go (no p) (yes q) = let z : g' k ≡ clock' = ap g' q ∙ newest in let b = others j hj p in absurd (omega arith)
          go (no p) (no q) = w.one j k (in_use j hj p) (in_use k hk q) (sym (stay j hj p) ∙ e ∙ stay k hk q)

  module _ {A : Type 0} (F F' : ℕ → A) (e : (j : ℕ) → j < used' → j ≢ i → F' j ≡ F j) where
    not_newest : (m t : ℕ) → t < suc clock → g' m ≡ t → m ≢ i
    not_newest m t l q z = let y : g' m ≡ clock' = ap g' z ∙ newest in omega arith

    -- what was there, and row i at the end
    at_end_lem : (before : List A) → listed (at_tick g' used' F') (suc clock) ≡ before → in_order g' used' clock' F' ≡ before ++ (F' i ∷ [])
    unfolding in_order
    at_end_lem before q =
        listed_last (at_tick g' used' F') clock'
        ∙ ap (λ (o : Option A). listed (at_tick g' used' F') clock' ++ ahead o []) (at_some g' used' ticked_touched.one F' i clock' hi newest)
        ∙ ap (λ (l : List A). l ++ (F' i ∷ [])) (listed_more (at_tick g' used' F') (suc clock) clock' rise between ∙ q)
      where
        between : (b : ℕ) → suc clock ≤ b → b < clock' → at_tick g' used' F' b ≡ none
        between b k l = at_none g' used' b F' (λ j h z. go j h z (ℕ_discrete j i))
          where
            go : (j : ℕ) → j < used' → g' j ≡ b → Dec (j ≡ i) → ⊥
            go j h z (yes p) = let y : g' j ≡ clock' = ap g' p ∙ newest in omega arith
            go j h z (no ne) = let y = stay j h ne in let c = w.below j (in_use j h ne) in omega arith

    -- touching a row takes it out of its place and puts it at the end
    pub touched_order : i < used → used ≤ used' → in_order g' used' clock' F' ≡ without g used clock i F ++ (F' i ∷ [])
    unfolding without
    touched_order h m = at_end_lem (listed (gap (g i) (at_tick g used F)) (suc clock)) (sym (listed_cong (gap (g i) (at_tick g used F)) (at_tick g' used' F') (suc clock) (λ t l.
        gap_at g g' used used' w.one ticked_touched.one F F' t i h
        (λ j k ne q. let k' : j < used' = omega arith in (j, k', stay j k' ne ∙ q, e j k' ne))
        (λ j k q. let ne = not_newest j t l q in (j, in_use j k ne, ne, sym (stay j k ne) ∙ q)))))

    -- a row more is put at the end
    pub added_order : used ≤ i → used ≤ used' → in_order g' used' clock' F' ≡ in_order g used clock F ++ (F' i ∷ [])
    unfolding in_order
    added_order h m = at_end_lem (listed (at_tick g used F) (suc clock)) (sym (listed_cong (at_tick g used F) (at_tick g' used' F') (suc clock) (λ t l.
        same_at g g' used used' w.one ticked_touched.one F F' t
        (λ j k q. let k' : j < used' = omega arith in let ne : j ≢ i = omega arith in (j, k', stay j k' ne ∙ q, e j k' ne))
        (λ j k q. let ne = not_newest j t l q in (j, in_use j k ne, sym (stay j k ne) ∙ q)))))

-- ---- the row of a key

module _ {A : Type 0} (g : ℕ → ℕ) (used clock : ℕ) (w : Ticked g used clock) (F : ℕ → A) where
  pub row_with : (i : ℕ) → i < used → With (F i) (in_order g used clock F) (without g used clock i F)
  unfolding in_order without
  row_with i h = let b : g i ≤ clock = w.below i h in listed_with (at_tick g used F) (suc clock) (g i) (F i) (omega arith) (at_some g used w.one F i (g i) h refl)

  -- what holds of every row in use, in whatever order
  pub order_each : (P : A → Type 0) → ((j : ℕ) → j < used → P (F j)) → Each P (in_order g used clock F)
  unfolding in_order
  order_each P y = listed_each P (at_tick g used F) (suc clock) (λ b e l q. let r = at_row g used w.one F b e q in subst P r.3 (y r.0 r.1))

  pub without_each : (P : A → Type 0) (i : ℕ) → ((j : ℕ) → j < used → j ≢ i → P (F j)) → Each P (without g used clock i F)
  unfolding without
  without_each P i y = listed_each P (gap (g i) (at_tick g used F)) (suc clock) (λ b e l q. go b e q (ℕ_discrete b (g i)))
    where
      go : (b : ℕ) (e : A) → gap (g i) (at_tick g used F) b ≡ some e → Dec (b ≡ g i) → P e
      go b e q (yes p) = absurd (some_none (sym q ∙ ap (gap (g i) (at_tick g used F)) p ∙ gap_same (g i) (at_tick g used F)))
      go b e q (no ne) =
          let r = at_row g used w.one F b e (sym (gap_other (g i) (at_tick g used F) b ne) ∙ q) in
          subst P r.3 (y r.0 r.1 (λ p. ne (sym r.2 ∙ ap g p)))

module _ {K R : Type 0} (g : ℕ → ℕ) (used clock : ℕ) (w : Ticked g used clock) (F : ℕ → Entry K R) where
  -- the oldest row leaves
  pub oldest_gone_lem : (i : ℕ) → i < used → ((j : ℕ) → j < used → g i ≤ g j) → oldest_gone (in_order g used clock F) ≡ without g used clock i F
  unfolding in_order without
  oldest_gone_lem i h least =
      let b : g i ≤ clock = w.below i h in
      first_gone (at_tick g used F) (suc clock) (g i) (F i) (omega arith) (at_some g used w.one F i (g i) h refl)
      (λ b l. at_none g used b F (λ j k q. let z : g i ≤ g j = least j k in absurd (omega arith)))

  module _ (same : K → K → Bool) (k : K) where
    -- no row has it
    pub new_found : ((j : ℕ) → j < used → same k (F j).key ≡ false) → find same k (in_order g used clock F) ≡ none
    new_found y = find_each same k (order_each g used clock w F (λ (e : Entry K R). same k e.key ≡ false) y)

    -- row i has the key, and no other row has it
    pub known_found : (i : ℕ) → i < used → same k (F i).key ≡ true → ((j : ℕ) → j < used → j ≢ i → same k (F j).key ≡ false)
        → (find same k (in_order g used clock F) ≡ some (F i).row) × (remove same k (in_order g used clock F) ≡ without g used clock i F)
    known_found i h y z = with_found same k (row_with g used clock w F i h) y (find_each same k (without_each g used clock w F (λ (e : Entry K R). same k e.key ≡ false) i z))

  -- tests of every row and of some row
  module _ (test : R → Bool) where
    pub order_every : ((j : ℕ) → j < used → test (F j).row ≡ true) → every_row test (in_order g used clock F) ≡ true
    order_every y = every_each test (order_each g used clock w F (λ (e : Entry K R). test e.row ≡ true) y)

    pub every_order : (j : ℕ) → every_row test (in_order g used clock F) ≡ true → j < used → test (F j).row ≡ true
    every_order j e h = with_every test (row_with g used clock w F j h) e

    pub order_none : ((j : ℕ) → j < used → test (F j).row ≡ false) → some_row test (in_order g used clock F) ≡ false
    order_none y = none_each test (order_each g used clock w F (λ (e : Entry K R). test e.row ≡ false) y)

    pub none_order : (j : ℕ) → some_row test (in_order g used clock F) ≡ false → j < used → test (F j).row ≡ false
    none_order j e h = with_none test (row_with g used clock w F j h) e
