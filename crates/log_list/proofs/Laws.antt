-- A section list read place by place: what begins at a place is what `sections_in` reads there, and one law for each way out.
-- Assumes nothing.
use mathlib.Core.Path.{◌≡◌, refl, sym, ap, subst, ◌∙◌}
use mathlib.Core.Bool.{Bool, true, false, cond}
use mathlib.Core.List.{[], ◌∷◌}
use Prim.Native.Nat.{ℕ, zero, suc, ◌+◌, ◌-◌, ◌*◌, ◌≤◌, ◌<◌}
use native.Mathlib.Omega.{arith}
use lib.Dec.{ltb, leb, eqb}
use lib.ListN.{length, take, drop, get_or, length-drop}
use lib.Seq.{get_or-drop, drop-drop}
use borrow.Author.Tests.{eq-eqb, ne_eqb, eqb-false, lt-ltb, le-ltb, le-leb, lt-leb, ltb-true, ltb-false, leb-true, leb-false}
use Rattle.laws.proofs.Lists.{get_d_ix}
use Rattle.laws.proofs.Tests.{same_test}
use Rattle.section.specs.Header.{byte_at, word16}
use Rattle.rules_logs.specs.Records.{Bytes}
use Rattle.rules_logs.specs.Sections.{Given, Listed, too_long, cut, sections, before, size_in, first_in, listed, sections_in}
use Rattle.log_list.specs.declared.Place.{Place}
use Rattle.log_list.specs.declared.Sections.{Sections}
use Rattle.std.specs.Prelude.{Option, Some, None, Result, Ok, Err}
use Rattle.log_list.specs.declared.ListError.{ListError}
use Rattle.log_list.specs.declared.ListError.TheVariants as error
use Rattle.log_list.specs.List.{place_at, next_at, judged_of, givens_of, givens_from, given_at, WholeFrom, PlacedAt, Gives}

-- ---- one section of a list

-- more than enough turns change nothing
enough : (n m : ℕ) (s : Bytes) → length s ≤ n → length s ≤ m → listed n s ≡ listed m s
unfolding listed
enough zero zero s h k = refl
enough zero (suc m) s h k = rw (eq-eqb (length s) 0 (omega (arith, h))) refl
enough (suc n) zero s h k = rw (eq-eqb (length s) 0 (omega (arith, k))) refl
enough (suc n) (suc m) s h k = go (eqb (length s) 0) refl (λ l. enough n m (drop (5 + size_in s) s) (omega (arith, h, l, length-drop (5 + size_in s) s)) (omega (arith, k, l, length-drop (5 + size_in s) s)))
  where
    one : Listed → Listed
    one l = cond (ltb (length s) 5) cut (cond (ltb 4098 (size_in s)) too_long (cond (ltb (length s) (5 + size_in s)) cut (before (first_in s) l)))

    go : (b : Bool) → eqb (length s) 0 ≡ b → (0 < length s → listed n (drop (5 + size_in s) s) ≡ listed m (drop (5 + size_in s) s))
        → cond b (sections []) (one (listed n (drop (5 + size_in s) s))) ≡ cond b (sections []) (one (listed m (drop (5 + size_in s) s)))
    go true e r = refl
    go false e r = ap one (r (let q = eqb-false (length s) 0 e in omega (arith, q)))

same_rest : (s : Bytes) {a b : ℕ} → a ≡ b → drop a s ≡ drop b s
same_rest s e = ap (λ (k : ℕ). drop k s) e

-- a list and what is behind its first section
one_of : Bytes → Listed → Listed
one_of s l = cond (eqb (length s) 0) (sections []) (cond (ltb (length s) 5) cut (cond (ltb 4098 (size_in s)) too_long (cond (ltb (length s) (5 + size_in s)) cut (before (first_in s) l))))

once : (n : ℕ) (s : Bytes) → n ≡ length s → listed n s ≡ one_of s (sections_in (drop (5 + size_in s) s))
unfolding listed sections_in one_of
once zero s h = rw (eq-eqb (length s) 0 (sym h)) refl
once (suc n) s h = ap (one_of s) (enough n (length (drop (5 + size_in s) s)) (drop (5 + size_in s) s) (omega (arith, h, length-drop (5 + size_in s) s)) (omega arith))

first_of_lem : (s : Bytes) → sections_in s ≡ one_of s (sections_in (drop (5 + size_in s) s))
unfolding sections_in
first_of_lem s = once (length s) s refl

-- ---- what begins at a place

-- the list from a place on, by what begins there
abbrev Found : Type 0
Found = Result (Option Place) ListError

abbrev after : Bytes → Found → Listed
after s (Ok None) = sections []
after s (Err error.Cut) = cut
after s (Err error.TooLong) = too_long
after s (Ok (Some r)) = before (given_at s r) (sections_in (drop (r.start + r.length) s))

module _ (s : Bytes) (p : ℕ) where
  size_there : size_in (drop p s) ≡ (place_at s p).length
  unfolding place_at
  size_there = rw (get_or-drop p s 3 0, get_or-drop p s 4 0) refl

  given_there : first_in (drop p s) ≡ given_at s (place_at s p)
  unfolding place_at
  given_there = let here : p + 0 ≡ p = omega arith in λ i. record {
    input = (get_or-drop p s 0 0 ∙ get_d_ix s 0 here) i;
    pid = (ap (λ (b : ℕ). b * 256 + get_or (drop p s) 2 0) (get_or-drop p s 1 0) ∙ ap (λ (b : ℕ). get_or s (p + 1) 0 * 256 + b) (get_or-drop p s 2 0)) i;
    section = (ap (λ (n : ℕ). take n (drop 5 (drop p s))) size_there ∙ ap (take (place_at s p).length) (drop-drop 5 p s)) i;
  }

  behind_there : drop (5 + size_in (drop p s)) (drop p s) ≡ drop ((place_at s p).start + (place_at s p).length) s
  unfolding place_at
  behind_there =
      let here : p + (5 + size_in (drop p s)) ≡ (place_at s p).start + (place_at s p).length = omega (arith, size_there) in
      drop-drop (5 + size_in (drop p s)) p s ∙ same_rest s here

  pub from_here : sections_in (drop p s) ≡ after s (next_at s p)
  unfolding next_at one_of
  from_here =
      first_of_lem (drop p s)
      ∙ rw (behind_there, given_there, size_there, length-drop p s)
      (go (leb (length s) p) refl (ltb (length s - p) 5) refl)
    where
      behind : Listed
      behind = before (given_at s (place_at s p)) (sections_in (drop ((place_at s p).start + (place_at s p).length) s))

      size : ℕ
      size = (place_at s p).length

      go : (a : Bool) → leb (length s) p ≡ a → (b : Bool) → ltb (length s - p) 5 ≡ b
          → cond (eqb (length s - p) 0) (sections []) (cond b cut (cond (ltb 4098 size) too_long (cond (ltb (length s - p) (5 + size)) cut behind)))
          ≡ after s (cond a (Ok None) (cond b (Err error.Cut) (cond (ltb 4098 size) (Err error.TooLong) (cond (ltb (length s - (p + 5)) size) (Err error.Cut) (Ok (Some (place_at s p)))))))
      go true e b f = rw (eq-eqb (length s - p) 0 (let h = leb-true (length s) p e in omega (arith, h))) refl
      go false e true f = rw (ne_eqb (length s - p) 0 (let h = leb-false (length s) p e in λ q. omega (arith, h, q))) refl
      go false e false f =
          let h : p < length s = leb-false (length s) p e in
          let g : 5 ≤ length s - p = ltb-false (length s - p) 5 f in
          let same : ltb (length s - p) (5 + size) ≡ ltb (length s - (p + 5)) size =
          same_test _ _
          (λ q. lt-ltb (length s - (p + 5)) size (let r = ltb-true (length s - p) (5 + size) q in omega (arith, r, g, h)))
          (λ q. lt-ltb (length s - p) (5 + size) (let r = ltb-true (length s - (p + 5)) size q in omega (arith, r, g, h))) in
          rw (ne_eqb (length s - p) 0 (λ q. omega (arith, h, q)), same)
          (sized (ltb 4098 size) (ltb (length s - (p + 5)) size))
        where
          sized : (c d : Bool) → cond c too_long (cond d cut behind) ≡ after s (cond c (Err error.TooLong) (cond d (Err error.Cut) (Ok (Some (place_at s p)))))
          sized true d = refl
          sized false true = refl
          sized false false = refl

-- ---- the ways out

module _ (s : Bytes) (p : ℕ) where
  pub place_read : {a b c : ℕ} → a ≡ word16 (byte_at s (p + 1)) (byte_at s (p + 1 + 1)) → b ≡ byte_at s (p + 3) → c ≡ byte_at s (p + 4)
      → ◌≡◌ {A = Place} (record { input = byte_at s p; pid = a; start = p + 5; length = b * 256 + c }) (place_at s p)
  unfolding place_at
  place_read a b c = let two : p + 1 + 1 ≡ p + 2 = omega arith in rw (a, b, c, get_d_ix s 0 two) refl

  pub at_end_lem : length s ≤ p → Ok None ≡ next_at s p
  unfolding next_at
  at_end_lem h = rw (le-leb (length s) p h) refl

  pub head_cut : p < length s → length s - p < 5 → Err error.Cut ≡ next_at s p
  unfolding next_at
  head_cut h l = rw (lt-leb (length s) p h, lt-ltb (length s - p) 5 l) refl

  pub too_long_lem : {r : Place} → p < length s → 5 ≤ length s - p → r ≡ place_at s p → 4098 < r.length → Err error.TooLong ≡ next_at s p
  unfolding next_at
  too_long_lem {r = r} h l e m = rw (lt-leb (length s) p h, le-ltb (length s - p) 5 l, ← e, lt-ltb 4098 r.length m) refl

  pub starts : (place_at s p).start ≡ p + 5
  unfolding place_at
  starts = refl

  pub starts_in_lem : {r : Place} → p < length s → 5 ≤ length s - p → r ≡ place_at s p → r.start ≤ length s
  starts_in_lem {r = r} h l e =
      let q : r.start ≡ p + 5 = ap (λ (x : Place). x.start) e ∙ starts in
      omega (arith, h, l, q)

  pub body_cut : {r : Place} → p < length s → 5 ≤ length s - p → r ≡ place_at s p → r.length ≤ 4098 → length s - r.start < r.length → Err error.Cut ≡ next_at s p
  unfolding next_at
  body_cut {r = r} h l e m n =
      let q : r.start ≡ p + 5 = ap (λ (x : Place). x.start) e ∙ starts in
      rw (lt-leb (length s) p h, le-ltb (length s - p) 5 l, ← e, le-ltb 4098 r.length m, lt-ltb (length s - (p + 5)) r.length (omega (arith, n, q))) refl

  pub is_there : {r : Place} → p < length s → 5 ≤ length s - p → r ≡ place_at s p → r.length ≤ 4098 → r.length ≤ length s - r.start → Ok (Some r) ≡ next_at s p
  unfolding next_at
  is_there {r = r} h l e m n =
      let q : r.start ≡ p + 5 = ap (λ (x : Place). x.start) e ∙ starts in
      rw (lt-leb (length s) p h, le-ltb (length s - p) 5 l, ← e, le-ltb 4098 r.length m, le-ltb (length s - (p + 5)) r.length (omega (arith, n, q))) refl

-- ---- a section that is there

pub record Stands (s : Bytes) (p : ℕ) (r : Place) : Type 0 where
  pub placed : r ≡ place_at s p
  pub head : p + 5 ≤ length s
  pub start : r.start ≡ p + 5
  pub short : r.length ≤ 4098
  pub within : r.start + r.length ≤ length s

there_stands : (s : Bytes) (p : ℕ) (r : Place) → next_at s p ≡ Ok (Some r) → Stands s p r
unfolding next_at
there_stands s p r = go (leb (length s) p) refl (ltb (length s - p) 5) refl (ltb 4098 size) refl (ltb (length s - (p + 5)) size) refl
  where
    size : ℕ
    size = (place_at s p).length

    go : (a : Bool) → leb (length s) p ≡ a → (b : Bool) → ltb (length s - p) 5 ≡ b → (c : Bool) → ltb 4098 size ≡ c → (d : Bool) → ltb (length s - (p + 5)) size ≡ d
        → cond a (Ok None) (cond b (Err error.Cut) (cond c (Err error.TooLong) (cond d (Err error.Cut) (Ok (Some (place_at s p)))))) ≡ Ok (Some r) → Stands s p r
    go true e b f c g d h q = absurd (let z : ◌≡◌ {A = ℕ} 0 1 = cc in omega arith)
    go false e true f c g d h q = absurd (let z : ◌≡◌ {A = ℕ} 0 1 = cc in omega arith)
    go false e false f true g d h q = absurd (let z : ◌≡◌ {A = ℕ} 0 1 = cc in omega arith)
    go false e false f false g true h q = absurd (let z : ◌≡◌ {A = ℕ} 0 1 = cc in omega arith)
    go false e false f false g false h q =
        let is : place_at s p ≡ r = cc in
        let one : p < length s = leb-false (length s) p e in
        let two : 5 ≤ length s - p = ltb-false (length s - p) 5 f in
        let three : size ≤ 4098 = ltb-false 4098 size g in
        let four : size ≤ length s - (p + 5) = ltb-false (length s - (p + 5)) size h in
        let five : size ≡ r.length = ap (λ (x : Place). x.length) is in
        let six : r.start ≡ p + 5 = ap (λ (x : Place). x.start) (sym is) ∙ starts s p in
        record { placed = sym is; head = omega (arith, one, two); start = six; short = omega (arith, three, five); within = omega (arith, one, two, four, five, six) }

there_ends : (s : Bytes) (p : ℕ) → next_at s p ≡ Ok None → length s ≤ p
unfolding next_at
there_ends s p = go (leb (length s) p) refl (ltb (length s - p) 5) (ltb 4098 (place_at s p).length) (ltb (length s - (p + 5)) (place_at s p).length)
  where
    go : (a : Bool) → leb (length s) p ≡ a → (b c d : Bool)
        → cond a (Ok None) (cond b (Err error.Cut) (cond c (Err error.TooLong) (cond d (Err error.Cut) (Ok (Some (place_at s p)))))) ≡ Ok None → length s ≤ p
    go true e b c d q = leb-true (length s) p e
    go false e true c d q = absurd (let z : ◌≡◌ {A = ℕ} 0 1 = cc in omega arith)
    go false e false true d q = absurd (let z : ◌≡◌ {A = ℕ} 0 1 = cc in omega arith)
    go false e false false true q = absurd (let z : ◌≡◌ {A = ℕ} 0 1 = cc in omega arith)
    go false e false false false q = absurd (let z : ◌≡◌ {A = ℕ} 0 1 = cc in omega arith)

-- ---- the whole list

judged_before : (g : Given) (l : Listed) → judged_of (before g l) ≡ judged_of l
judged_before g too_long = refl
judged_before g cut = refl
judged_before g (sections gs) = refl

givens_before : (g : Given) (l : Listed) → judged_of l ≡ Ok tt → givens_of (before g l) ≡ g ∷ givens_of l
givens_before g too_long h = absurd (let z : ◌≡◌ {A = ℕ} 0 1 = cc in omega arith)
givens_before g cut h = absurd (let z : ◌≡◌ {A = ℕ} 0 1 = cc in omega arith)
givens_before g (sections gs) h = refl

module _ (s : Bytes) (at : ℕ) {found : Found} (e : found ≡ next_at s at) where
  -- what begins here decides, or hands on
  by_next : (n : Found) → found ≡ n → sections_in (drop at s) ≡ after s n
  by_next n q = from_here s at ∙ ap (after s) (sym e ∙ q)

  pub judged_end : found ≡ Ok None → judged_of (sections_in s) ≡ judged_of (sections_in (drop at s)) → Ok tt ≡ judged_of (sections_in s)
  judged_end q inv = sym (inv ∙ ap judged_of (by_next (Ok None) q))

  pub judged_fault : {x : ListError} → found ≡ Err x → judged_of (sections_in s) ≡ judged_of (sections_in (drop at s)) → Err x ≡ judged_of (sections_in s)
  judged_fault {x = error.Cut} q inv = sym (inv ∙ ap judged_of (by_next (Err error.Cut) q))
  judged_fault {x = error.TooLong} q inv = sym (inv ∙ ap judged_of (by_next (Err error.TooLong) q))

  pub judged_on : {r : Place} → found ≡ Ok (Some r) → judged_of (sections_in s) ≡ judged_of (sections_in (drop at s)) → judged_of (sections_in s) ≡ judged_of (sections_in (drop (r.start + r.length) s))
  judged_on {r = r} q inv = inv ∙ ap judged_of (by_next (Ok (Some r)) q) ∙ judged_before (given_at s r) (sections_in (drop (r.start + r.length) s))

  pub stands : {r : Place} → found ≡ Ok (Some r) → Stands s at r
  stands {r = r} q = there_stands s at r (sym e ∙ q)

-- ---- a section of a whole list

module _ (s : Bytes) (p : ℕ) (w : WholeFrom s p) (l : p < length s) where
  at_whole : next_at s p ≡ Ok (Some (place_at s p))
  at_whole = go (next_at s p) refl (sym (ap judged_of (from_here s p)) ∙ w.whole)
    where
      go : (n : Found) → next_at s p ≡ n → judged_of (after s n) ≡ Ok tt → n ≡ Ok (Some (place_at s p))
      go (Ok None) e h = absurd (let q = there_ends s p e in omega (arith, q, l))
      go (Err error.Cut) e h = absurd (let z : ◌≡◌ {A = ℕ} 0 1 = cc in omega arith)
      go (Err error.TooLong) e h = absurd (let z : ◌≡◌ {A = ℕ} 0 1 = cc in omega arith)
      go (Ok (Some r)) e h = ap (λ (x : Place). Ok (Some x)) (there_stands s p r e).placed

  placed : Stands s p (place_at s p)
  placed = there_stands s p (place_at s p) at_whole

  pub head_fits : p + 5 ≤ length s
  head_fits = placed.head

  pub first_there : {r : Place} → r ≡ place_at s p → PlacedAt s p r
  first_there {r = r} e = rw e (record { first = first; behind = record { within = placed.within; whole = whole }; starts = placed.start; later = omega (arith, placed.start); short = placed.short })
    where
      there : Place
      there = place_at s p

      rest : Listed
      rest = sections_in (drop (there.start + there.length) s)

      is : sections_in (drop p s) ≡ before (given_at s there) rest
      is = from_here s p ∙ ap (after s) at_whole

      whole : judged_of rest ≡ Ok tt
      whole = sym (judged_before (given_at s there) rest) ∙ sym (ap judged_of is) ∙ w.whole

      first : givens_from s p ≡ given_at s there ∷ givens_of rest
      first = ap givens_of is ∙ givens_before (given_at s there) rest whole

-- no sections are left at the end
pub none_left : (s : Bytes) (p : ℕ) → length s ≤ p → givens_from s p ≡ []
none_left s p h = ap givens_of (from_here s p ∙ ap (after s) (sym (at_end_lem s p h)))

-- a list that was judged whole is whole from its start
pub from_start : (s : Bytes) → judged_of (sections_in s) ≡ Ok tt → WholeFrom s 0
from_start s h = record { within = omega arith; whole = h }

-- ---- the iterator over the sections of a list

module _ (s t : Sections) {list : Bytes} (e : s.list.now ≡ list) where
  pub gave_place : {place : Place} → Gives s (Some place) t → PlacedAt list s.at place × (t.at ≡ place.start + place.length) × (t.list.now ≡ list)
  gave_place {place = place} g = (subst (λ (l : Bytes). PlacedAt l s.at place) e g.1.0, g.1.1, g.0 ∙ e)

  pub gave_none : Gives s None t → length list ≤ s.at
  gave_none g = rw (← e) g.1

  module _ {p : ℕ} (f : s.at ≡ p) where
    pub gave_next : {place : Place} → Gives s (Some place) t → PlacedAt list p place × (t.at ≡ place.start + place.length) × (t.list.now ≡ list)
    gave_next {place = place} g = let w = gave_place g in (subst (λ (k : ℕ). PlacedAt list k place) f w.0, w.1, w.2)

    pub gave_end : Gives s None t → length list ≤ p
    gave_end g = rw (← f) (gave_none g)
