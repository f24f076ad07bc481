-- What the list of two sides says, of the rules alone: it is empty exactly where both hold the same sections; each rank that they differ in stands in it once, by rising
-- rank; with the sides exchanged kinds 1 and 2 are.
-- Assumes nothing.
use mathlib.Core.Path.{◌≡◌, refl, sym, ap, ◌∙◌}
use mathlib.Core.Logic.{⊎_elim, by_cases}
use mathlib.Core.Bool.{Bool, true, false, cond, ◌&&◌, true≢false}
use mathlib.Core.List.{List, [], ◌∷◌, ◌++◌, map, append-nil}
use Prim.Native.Nat.{ℕ, zero, suc, ◌+◌, ◌*◌, ◌/◌, ◌%◌, ◌≤◌, ◌<◌}
use native.Mathlib.Decide.{ℕ_discrete}
use native.Mathlib.Omega.{arith}
use lib.ListN.{length}
use lib.Dec.{eqb, ltb, leb}
use borrow.Author.Tests.{eq-eqb, ne_eqb, eqb-true, eqb-false, ltb-true, leb-true, le-leb}
use Rattle.laws.specs.Lists.{every, same_list}
use Rattle.laws.proofs.Search.{same_true, same_refl}
use Rattle.laws.proofs.Tests.{and_true, lt_or_le, eqb_sym}
use Rattle.laid.specs.Laid.{chain, chain_from}
use Rattle.laid.specs.Walk.{rank_of}
use Rattle.differences.specs.Rules.{Entry, held_in, first_place, is_none, kind_of, place_of, entry_by, entry_of, entry_at, up_from}
use Rattle.differences.specs.Walk.{rises, all_differences}
use Rattle.differences.proofs.Held.{held_below, held_after_lem}
use Rattle.differences.proofs.Places.{place_swap}
use Rattle.differences.proofs.Upward.{up_none}

-- ---- the kinds: 1 the first alone, 2 the second alone, 3 both with other bytes, 0 no difference

pub record Kinds (x y : List ℕ) : Type 0 where
  pub same : kind_of x y ≡ 0 → x ≡ y
  pub first : kind_of x y ≡ 1 → (is_none x ≡ false) × (is_none y ≡ true)
  pub second : kind_of x y ≡ 2 → (is_none x ≡ true) × (is_none y ≡ false)
  pub both : kind_of x y ≡ 3 → (is_none x ≡ false) × (is_none y ≡ false) × (x ≡ y → ⊥)

none_is : (x : List ℕ) → is_none x ≡ true → x ≡ []
none_is [] e = refl
none_is (b ∷ x) e = let z = eqb-true (length (b ∷ x)) 0 e in absurd (omega arith)

clash : {A : Type 0} (m n : ℕ) → eqb m n ≡ false → m ≡ n → A
clash m n e h = absurd (eqb-false m n e h)

pub kinds : (x y : List ℕ) → Kinds x y
unfolding kind_of
kinds x y = go (is_none x) refl (is_none y) refl (same_list x y) refl
  where
    kind_is : (a b s : Bool) → is_none x ≡ a → is_none y ≡ b → same_list x y ≡ s → kind_of x y ≡ cond a (cond b 0 2) (cond b 1 (cond s 0 3))
    kind_is a b s ea eb es = rw (ea, eb, es)

    go : (a : Bool) → is_none x ≡ a → (b : Bool) → is_none y ≡ b → (s : Bool) → same_list x y ≡ s → Kinds x y
    go true ea true eb s es = record {
      same = λ h. none_is x ea ∙ sym (none_is y eb);
      first = λ h. clash 0 1 refl (sym (kind_is true true s ea eb es) ∙ h);
      second = λ h. clash 0 2 refl (sym (kind_is true true s ea eb es) ∙ h);
      both = λ h. clash 0 3 refl (sym (kind_is true true s ea eb es) ∙ h);
    }
    go true ea false eb s es = record {
      same = λ h. clash 2 0 refl (sym (kind_is true false s ea eb es) ∙ h);
      first = λ h. clash 2 1 refl (sym (kind_is true false s ea eb es) ∙ h);
      second = λ h. (ea, eb);
      both = λ h. clash 2 3 refl (sym (kind_is true false s ea eb es) ∙ h);
    }
    go false ea true eb s es = record {
      same = λ h. clash 1 0 refl (sym (kind_is false true s ea eb es) ∙ h);
      first = λ h. (ea, eb);
      second = λ h. clash 1 2 refl (sym (kind_is false true s ea eb es) ∙ h);
      both = λ h. clash 1 3 refl (sym (kind_is false true s ea eb es) ∙ h);
    }
    go false ea false eb true es = record {
      same = λ h. same_true x y es;
      first = λ h. clash 0 1 refl (sym (kind_is false false true ea eb es) ∙ h);
      second = λ h. clash 0 2 refl (sym (kind_is false false true ea eb es) ∙ h);
      both = λ h. clash 0 3 refl (sym (kind_is false false true ea eb es) ∙ h);
    }
    go false ea false eb false es = record {
      same = λ h. clash 3 0 refl (sym (kind_is false false false ea eb es) ∙ h);
      first = λ h. clash 3 1 refl (sym (kind_is false false false ea eb es) ∙ h);
      second = λ h. clash 3 2 refl (sym (kind_is false false false ea eb es) ∙ h);
      both = λ h. (ea, eb, λ (q : x ≡ y). true≢false (sym (ap (λ (z : List ℕ). same_list x z) (sym q) ∙ same_refl x) ∙ es));
    }

pub kind_same : (x : List ℕ) → kind_of x x ≡ 0
unfolding kind_of
kind_same x = go (is_none x)
  where
    go : (a : Bool) → ◌≡◌ {A = ℕ} (cond a (cond a 0 2) (cond a 1 (cond (same_list x x) 0 3))) 0
    go true = refl
    go false = rw (same_refl x)

-- ---- empty exactly where both hold the same

entry_same : (r : ℕ) (x y : List ℕ) → entry_of r x y ≡ [] → x ≡ y
entry_same r x y e = (kinds x y).same (go (eqb (kind_of x y) 0) refl e)
  where
    go : (t : Bool) → eqb (kind_of x y) 0 ≡ t → cond {A = List Entry} t [] (record { table = r / 256; number = r % 256; kind = kind_of x y; place = place_of x y } ∷ []) ≡ [] → kind_of x y ≡ 0
    go true z h = eqb-true (kind_of x y) 0 z
    go false z h = let q : ◌≡◌ {A = ℕ} 1 0 = ap length h in absurd (omega arith)

append_none : {E : Type 0} (a b : List E) → (a ++ b) ≡ [] → (a ≡ []) × (b ≡ [])
append_none [] b h = (refl, h)
append_none (x ∷ a) b h = let q : suc (length (a ++ b)) ≡ 0 = ap length h in absurd (omega arith)

up_empty : {E : Type 0} (k n : ℕ) (f : ℕ → List E) → up_from k n f ≡ [] → (m : ℕ) → n ≤ m → m < n + k → f m ≡ []
unfolding up_from
up_empty zero n f e m a b = absurd (omega arith)
up_empty (suc k) n f e m a b =
    let c = append_none (f n) (up_from k (suc n) f) e in
    by_cases (ℕ_discrete m n) (λ (q : m ≡ n). rw q c.0) (λ (q : ¬ (m ≡ n)). up_empty k (suc n) f c.1 m (omega arith) (omega arith))

-- sections that have bytes, and a rank below 65,536
abbrev pub proper : List ℕ → Bool
proper x = ltb 0 (length x) && ltb (rank_of x) 65536

held_past : (xs : List (List ℕ)) (r : ℕ) → every proper xs ≡ true → 65536 ≤ r → held_in xs r ≡ []
unfolding every held_in
held_past [] r e h = refl
held_past (x ∷ xs) r e h =
    let c = and_true (proper x) (every proper xs) e in
    let l = ltb-true (rank_of x) 65536 (and_true (ltb 0 (length x)) (ltb (rank_of x) 65536) c.0).1 in
    rw (ne_eqb (rank_of x) r (λ (q : rank_of x ≡ r). omega arith)) (held_past xs r c.1 h)

held_first : (x : List ℕ) (xs : List (List ℕ)) → held_in (x ∷ xs) (rank_of x) ≡ x
unfolding held_in
held_first x xs = rw (eq-eqb (rank_of x) (rank_of x) refl)

held_later : (x : List ℕ) (xs : List (List ℕ)) (r : ℕ) → (rank_of x ≡ r → ⊥) → held_in (x ∷ xs) r ≡ held_in xs r
unfolding held_in
held_later x xs r h = rw (ne_eqb (rank_of x) r h)

some_bytes : (x : List ℕ) → proper x ≡ true → x ≡ [] → ⊥
some_bytes x e h = let l = ltb-true 0 (length x) (and_true (ltb 0 (length x)) (ltb (rank_of x) 65536) e).0 in let z : length x ≡ 0 = ap length h in omega arith

tail_rises : (x : List ℕ) (xs : List (List ℕ)) → chain_from rises x xs ≡ true → chain rises xs ≡ true
unfolding chain chain_from
tail_rises x [] e = refl
tail_rises x (y ∷ ys) e = (and_true (rises x y) (chain_from rises y ys) e).1

-- two sides that hold the same of every rank are the same
held_same : (a b : List (List ℕ)) → chain rises a ≡ true → chain rises b ≡ true → every proper a ≡ true → every proper b ≡ true → ((r : ℕ) → held_in a r ≡ held_in b r) → a ≡ b
unfolding chain every held_in
held_same [] [] ea eb pa pb h = refl
held_same [] (y ∷ ys) ea eb pa pb h = absurd (some_bytes y (and_true (proper y) (every proper ys) pb).0 (sym (held_first y ys) ∙ sym (h (rank_of y))))
held_same (x ∷ xs) [] ea eb pa pb h = absurd (some_bytes x (and_true (proper x) (every proper xs) pa).0 (sym (held_first x xs) ∙ h (rank_of x)))
held_same (x ∷ xs) (y ∷ ys) ea eb pa pb h =
    let ca = and_true (proper x) (every proper xs) pa in
    let cb = and_true (proper y) (every proper ys) pb in
    let l : rank_of y ≤ rank_of x = ⊎_elim
    (λ (k : rank_of x < rank_of y). absurd (some_bytes x ca.0 (sym (held_first x xs) ∙ h (rank_of x) ∙ held_below (y ∷ ys) (rank_of x) eb k)))
    (λ (k : rank_of y ≤ rank_of x). k) (lt_or_le (rank_of x) (rank_of y)) in
    let m : rank_of x ≤ rank_of y = ⊎_elim
    (λ (k : rank_of y < rank_of x). absurd (some_bytes y cb.0 (sym (held_first y ys) ∙ sym (h (rank_of y)) ∙ held_below (x ∷ xs) (rank_of y) ea k)))
    (λ (k : rank_of x ≤ rank_of y). k) (lt_or_le (rank_of y) (rank_of x)) in
    let q : rank_of x ≡ rank_of y = omega arith in
    let e : x ≡ y = sym (held_first x xs) ∙ h (rank_of x) ∙ ap (λ (r : ℕ). held_in (y ∷ ys) r) q ∙ held_first y ys in
    let t : xs ≡ ys = held_same xs ys (tail_rises x xs ea) (tail_rises y ys eb) ca.1 cb.1
    (λ r. by_cases (ℕ_discrete (rank_of x) r)
    (λ (k : rank_of x ≡ r). held_after_lem x xs r ea (omega arith) ∙ sym (held_after_lem y ys r eb (omega arith)))
    (λ (k : ¬ (rank_of x ≡ r)). sym (held_later x xs r k) ∙ h r ∙ held_later y ys r (λ (z : rank_of y ≡ r). k (q ∙ z)))) in
    λ i. e i ∷ t i

-- theorem 1, of the rules
pub empty_same : (a b : List (List ℕ)) → chain rises a ≡ true → chain rises b ≡ true → every proper a ≡ true → every proper b ≡ true → all_differences a b ≡ [] → a ≡ b
unfolding all_differences
empty_same a b ea eb pa pb e =
    held_same a b ea eb pa pb
    (λ r. ⊎_elim
    (λ (h : r < 65536). entry_same r (held_in a r) (held_in b r) (up_empty 65536 0 (entry_at a b) e r (omega arith) (omega arith)))
    (λ (h : 65536 ≤ r). held_past a r pa h ∙ sym (held_past b r pb h)) (lt_or_le r 65536))

pub same_empty : (a : List (List ℕ)) → all_differences a a ≡ []
unfolding all_differences
same_empty a = up_none 65536 0 (entry_at a a) (λ m p q. rw (kind_same (held_in a m)))

-- ---- each once, by rising rank, and no more than there are numbers

-- the rank of an entry
abbrev pub entry_rank : Entry → ℕ
entry_rank e = e.table * 256 + e.number

-- the entries of one rank
unfoldable pub of_rank : ℕ → List Entry → List Entry
of_rank r [] = []
of_rank r (e ∷ es) = cond (eqb (entry_rank e) r) (e ∷ of_rank r es) (of_rank r es)

rank_back : (r : ℕ) → r / 256 * 256 + r % 256 ≡ r
rank_back r = omega arith

of_append : (r : ℕ) (a b : List Entry) → of_rank r (a ++ b) ≡ of_rank r a ++ of_rank r b
unfolding of_rank
of_append r [] b = refl
of_append r (e ∷ a) b = go (eqb (entry_rank e) r) (of_append r a b)
  where
    go : (t : Bool) → of_rank r (a ++ b) ≡ of_rank r a ++ of_rank r b → cond t (e ∷ of_rank r (a ++ b)) (of_rank r (a ++ b)) ≡ cond t (e ∷ of_rank r a) (of_rank r a) ++ of_rank r b
    go true h = ap (λ (l : List Entry). e ∷ l) h
    go false h = h

of_own : (r kind place : ℕ) → of_rank r (entry_by r kind place) ≡ entry_by r kind place
unfolding of_rank
of_own r kind place = go (eqb kind 0)
  where
    go : (t : Bool) → of_rank r (cond t [] (record { table = r / 256; number = r % 256; kind = kind; place = place } ∷ [])) ≡ cond t [] (record { table = r / 256; number = r % 256; kind = kind; place = place } ∷ [])
    go true = refl
    go false = rw (rank_back r, eq-eqb r r refl)

of_other : (r m kind place : ℕ) → (m ≡ r → ⊥) → of_rank r (entry_by m kind place) ≡ []
unfolding of_rank
of_other r m kind place h = go (eqb kind 0)
  where
    go : (t : Bool) → of_rank r (cond t [] (record { table = m / 256; number = m % 256; kind = kind; place = place } ∷ [])) ≡ []
    go true = refl
    go false = rw (rank_back m, ne_eqb m r h)

of_below : (k n r : ℕ) (a b : List (List ℕ)) → r < n → of_rank r (up_from k n (entry_at a b)) ≡ []
unfolding up_from of_rank
of_below zero n r a b h = refl
of_below (suc k) n r a b h =
    of_append r (entry_at a b n) (up_from k (suc n) (entry_at a b))
    ∙ rw (of_other r n (kind_of (held_in a n) (held_in b n)) (place_of (held_in a n) (held_in b n)) (λ (q : n ≡ r). omega arith)) (of_below k (suc n) r a b (omega arith))

-- theorem 2, of the rules: of each rank in the range exactly the entry that its sections give, none or one
pub listed_once : (k n r : ℕ) (a b : List (List ℕ)) → n ≤ r → r < n + k → of_rank r (up_from k n (entry_at a b)) ≡ entry_at a b r
unfolding up_from of_rank
listed_once zero n r a b h l = absurd (omega arith)
listed_once (suc k) n r a b h l =
    of_append r (entry_at a b n) (up_from k (suc n) (entry_at a b))
    ∙ by_cases (ℕ_discrete n r)
    (λ (q : n ≡ r). rw (of_below k (suc n) r a b (omega arith), q, of_own r (kind_of (held_in a r) (held_in b r)) (place_of (held_in a r) (held_in b r))) (append-nil (entry_at a b r)))
    (λ (q : ¬ (n ≡ r)). rw (of_other r n (kind_of (held_in a n) (held_in b n)) (place_of (held_in a n) (held_in b n)) q) (listed_once k (suc n) r a b (omega arith) (omega arith)))

-- ranks rise, the first being n or more
unfoldable pub above : ℕ → List Entry → Bool
above n [] = true
above n (e ∷ es) = leb n (entry_rank e) && above (entry_rank e + 1) es

above_less : (n : ℕ) (es : List Entry) → above (suc n) es ≡ true → above n es ≡ true
unfolding above
above_less n [] e = refl
above_less n (x ∷ es) e =
    let c = and_true (leb (suc n) (entry_rank x)) (above (entry_rank x + 1) es) e in
    let l = leb-true (suc n) (entry_rank x) c.0 in
    rw (le-leb n (entry_rank x) (omega arith)) c.1

pub listed_rising : (k n : ℕ) (a b : List (List ℕ)) → above n (up_from k n (entry_at a b)) ≡ true
unfolding up_from above
listed_rising zero n a b = refl
listed_rising (suc k) n a b = go (eqb (kind_of (held_in a n) (held_in b n)) 0) (listed_rising k (suc n) a b)
  where
    go : (t : Bool) → above (suc n) (up_from k (suc n) (entry_at a b)) ≡ true
        → above n (cond t [] (record { table = n / 256; number = n % 256; kind = kind_of (held_in a n) (held_in b n); place = place_of (held_in a n) (held_in b n) } ∷ []) ++ up_from k (suc n) (entry_at a b)) ≡ true
    go true h = above_less n (up_from k (suc n) (entry_at a b)) h
    go false h =
        let s : n + 1 ≡ suc n = omega arith in
        rw (rank_back n, le-leb n n (omega arith), s) h

pub listed_few : (k n : ℕ) (a b : List (List ℕ)) → length (up_from k n (entry_at a b)) ≤ k
unfolding up_from
listed_few zero n a b = omega arith
listed_few (suc k) n a b = go (eqb (kind_of (held_in a n) (held_in b n)) 0) (listed_few k (suc n) a b)
  where
    go : (t : Bool) → length (up_from k (suc n) (entry_at a b)) ≤ k
        → length (cond t [] (record { table = n / 256; number = n % 256; kind = kind_of (held_in a n) (held_in b n); place = place_of (held_in a n) (held_in b n) } ∷ []) ++ up_from k (suc n) (entry_at a b)) ≤ suc k
    go true h = omega arith
    go false h = omega arith

-- ---- the sides exchanged

abbrev pub other_kind : ℕ → ℕ
other_kind k = cond (eqb k 1) 2 (cond (eqb k 2) 1 k)

abbrev pub mirror : Entry → Entry
mirror e = record { table = e.table; number = e.number; kind = other_kind e.kind; place = e.place }

same_swap : (x y : List ℕ) → same_list x y ≡ same_list y x
unfolding same_list
same_swap [] [] = refl
same_swap [] (y ∷ ys) = refl
same_swap (x ∷ xs) [] = refl
same_swap (x ∷ xs) (y ∷ ys) = rw (eqb_sym x y, same_swap xs ys)

kind_swap : (x y : List ℕ) → kind_of y x ≡ other_kind (kind_of x y)
unfolding kind_of
kind_swap x y = rw (same_swap y x) (go (is_none x) (is_none y) (same_list x y))
  where
    go : (a b s : Bool) → cond b (cond a 0 2) (cond a 1 (cond s 0 3)) ≡ other_kind (cond a (cond b 0 2) (cond b 1 (cond s 0 3)))
    go true true s = refl
    go true false s = refl
    go false true s = refl
    go false false true = refl
    go false false false = refl

place_swapped : (x y : List ℕ) → place_of y x ≡ place_of x y
unfolding place_of
place_swapped x y = rw (place_swap y x, kind_swap x y) (go (eqb (kind_of x y) 1) refl (eqb (kind_of x y) 2) refl)
  where
    go : (a : Bool) → eqb (kind_of x y) 1 ≡ a → (b : Bool) → eqb (kind_of x y) 2 ≡ b → cond (eqb (cond a 2 (cond b 1 (kind_of x y))) 3) (first_place x y) 0 ≡ cond (eqb (kind_of x y) 3) (first_place x y) 0
    go true ea b eb = let q = eqb-true (kind_of x y) 1 ea in rw q
    go false ea true eb = let q = eqb-true (kind_of x y) 2 eb in rw q
    go false ea false eb = refl

other_none : (k : ℕ) → eqb (other_kind k) 0 ≡ eqb k 0
other_none k = go (eqb k 1) refl (eqb k 2) refl
  where
    go : (a : Bool) → eqb k 1 ≡ a → (b : Bool) → eqb k 2 ≡ b → eqb (cond a 2 (cond b 1 k)) 0 ≡ eqb k 0
    go true ea b eb = let q = eqb-true k 1 ea in rw q
    go false ea true eb = let q = eqb-true k 2 eb in rw q
    go false ea false eb = refl

entry_mirrored : (r : ℕ) (x y : List ℕ) → entry_of r y x ≡ map mirror (entry_of r x y)
entry_mirrored r x y = rw (kind_swap x y, place_swapped x y, other_none (kind_of x y)) (go (eqb (kind_of x y) 0))
  where
    go : (t : Bool) → ◌≡◌ {A = List Entry} (cond t [] (record { table = r / 256; number = r % 256; kind = other_kind (kind_of x y); place = place_of x y } ∷ []))
        (map mirror (cond t [] (record { table = r / 256; number = r % 256; kind = kind_of x y; place = place_of x y } ∷ [])))
    go true = refl
    go false = refl

map_append : {A B : Type 0} (f : A → B) (a b : List A) → map f (a ++ b) ≡ map f a ++ map f b
map_append f [] b = refl
map_append f (x ∷ a) b = ap (λ l. f x ∷ l) (map_append f a b)

-- theorem 7, of the rules
pub all_mirrored : (k n : ℕ) (a b : List (List ℕ)) → up_from k n (entry_at b a) ≡ map mirror (up_from k n (entry_at a b))
unfolding up_from
all_mirrored zero n a b = refl
all_mirrored (suc k) n a b =
    rw (entry_mirrored n (held_in a n) (held_in b n), all_mirrored k (suc n) a b) (sym (map_append mirror (entry_at a b n) (up_from k (suc n) (entry_at a b))))
