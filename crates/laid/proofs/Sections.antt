-- Bytes cut into sections: what the first section, the rest and the whole say of each other.
-- How many sections the definition is prepared to cut off appears in no law.
-- Assumes nothing.
use mathlib.Core.Path.{◌≡◌, refl, sym, ap, ◌∙◌}
use mathlib.Core.Logic.{⊎_elim}
use mathlib.Core.Bool.{Bool, true, false, cond, ◌&&◌, true≢false}
use mathlib.Core.List.{List, [], ◌∷◌, flatten}
use Prim.Native.Nat.{ℕ, zero, suc, ◌≤◌, ◌<◌}
use native.Mathlib.Omega.{arith}
use lib.ListN.{length, take, drop, length-drop, take-append-drop}
use lib.Seq.{get_or-take, length-take-le}
use lib.Dec.{leb, eqb}
use borrow.Author.Tests.{eq-eqb, ne_eqb, le-leb, leb-true, eqb-true, eqb-false}
use Rattle.laws.specs.Entries.{whole_entries}
use Rattle.laws.specs.Lists.{every}
use Rattle.laws.proofs.Entries.{entries_empty, entries_short, entries_past, entries_more}
use Rattle.laws.proofs.Tests.{lt_or_le, and_true}
use Rattle.section.specs.Header.{long_form}
use Rattle.laid.specs.Laid.{size_of, cut, sections_in, is_long, laid_out}
use Rattle.laid.specs.Walk.{long_size}

-- ---- the cuts

-- any two counts that reach the length say the same
cut_enough : (k m : ℕ) (s : List ℕ) → length s ≤ k → length s ≤ m → cut k s ≡ cut m s
unfolding cut
cut_enough zero zero s h l = refl
cut_enough zero (suc m) s h l = simp (eq-eqb (length s) 0 (omega arith))
cut_enough (suc k) zero s h l = simp (eq-eqb (length s) 0 (omega arith))
cut_enough (suc k) (suc m) s h l =
    let e : cut k (drop (size_of s) s) ≡ cut m (drop (size_of s) s) = cut_enough k m (drop (size_of s) s) (simp length-drop (omega arith)) (simp length-drop (omega arith)) in
    ap (λ (r : List (List ℕ)). cond (eqb (length s) 0) [] (take (size_of s) s ∷ r)) e

by_one : (s : List ℕ) → sections_in s ≡ cond (eqb (length s) 0) [] (take (size_of s) s ∷ sections_in (drop (size_of s) s))
unfolding cut sections_in
by_one s =
    let e : cut (length s) (drop (size_of s) s) ≡ cut (length (drop (size_of s) s)) (drop (size_of s) s) =
    cut_enough (length s) (length (drop (size_of s) s)) (drop (size_of s) s) (simp length-drop (omega arith)) (omega arith) in
    cut_enough (length s) (suc (length s)) s (omega arith) (omega arith)
    ∙ ap (λ (r : List (List ℕ)). cond (eqb (length s) 0) [] (take (size_of s) s ∷ r)) e

pub sections_none : (s : List ℕ) → length s ≡ 0 → sections_in s ≡ []
sections_none s h = by_one s ∙ simp (eq-eqb (length s) 0 h)

pub sections_one : (s : List ℕ) → (length s ≡ 0 → ⊥) → sections_in s ≡ take (size_of s) s ∷ sections_in (drop (size_of s) s)
sections_one s h = by_one s ∙ simp (ne_eqb (length s) 0 h)

-- ---- the layout

and_swap : (a b c : Bool) → (a && (b && c)) ≡ (b && (a && c))
and_swap true b c = refl
and_swap false true c = refl
and_swap false false c = refl

-- of a section that is there, the first decides with the rest
laid_step : (s : List ℕ) → 3 ≤ length s → size_of s ≤ length s → laid_out s ≡ ((long_form s && leb 12 (size_of s)) && laid_out (drop (size_of s) s))
unfolding laid_out every
laid_step s h l =
    let n : length (take (size_of s) s) ≡ size_of s = length-take-le (size_of s) s l in
    let f : long_form (take (size_of s) s) ≡ long_form s = ap (λ (b : ℕ). leb 128 b) (get_or-take (size_of s) s 1 0 (omega arith)) in
    let g : is_long (take (size_of s) s) ≡ (long_form s && leb 12 (size_of s)) = rw (f, n) in
    let e : every is_long (sections_in s) ≡ ((long_form s && leb 12 (size_of s)) && every is_long (sections_in (drop (size_of s) s))) =
    ap (λ (l : List (List ℕ)). every is_long l) (sections_one s (omega arith)) ∙ ap (λ (b : Bool). b && every is_long (sections_in (drop (size_of s) s))) g in
    ap (λ (b : Bool). b && every is_long (sections_in s)) (entries_more 3 (omega arith) s h l)
    ∙ ap (λ (b : Bool). whole_entries 3 (drop (size_of s) s) && b) e
    ∙ and_swap (whole_entries 3 (drop (size_of s) s)) (long_form s && leb 12 (size_of s)) (every is_long (sections_in (drop (size_of s) s)))

pub laid_empty : (s : List ℕ) → length s ≡ 0 → laid_out s ≡ true
unfolding laid_out every
laid_empty s h = rw (entries_empty 3 (omega arith) s h, sections_none s h)

-- where no whole section stands, nothing is laid
unlaid_short : (s : List ℕ) → (length s ≡ 0 → ⊥) → length s < 3 → laid_out s ≡ false
unfolding laid_out
unlaid_short s h l = rw (entries_short 3 (omega arith) s h l)

unlaid_past : (s : List ℕ) → 3 ≤ length s → length s < size_of s → laid_out s ≡ false
unfolding laid_out
unlaid_past s h l = rw (entries_past 3 (omega arith) s h l)

-- a whole long-form section stands at the front
pub record Front (s : List ℕ) (n : ℕ) : Type 0 where
  pub exact : n ≡ size_of s
  pub least : 12 ≤ n
  pub within : n ≤ length s
  pub long : long_form s ≡ true

pub size_front : (s : List ℕ) (n : ℕ) → n ≡ long_size s → (n ≡ 0 → ⊥) → Front s n
size_front s n e h = go (leb 12 (length s)) (long_form s) (leb 12 (size_of s)) (leb (size_of s) (length s)) refl refl refl e
  where
    go : (a b c d : Bool) → long_form s ≡ b → leb 12 (size_of s) ≡ c → leb (size_of s) (length s) ≡ d → n ≡ cond a (cond (b && c && d) (size_of s) 0) 0 → Front s n
    go true true true true p q r z =
        let l : 12 ≤ size_of s = leb-true 12 (size_of s) q in
        let m : size_of s ≤ length s = leb-true (size_of s) (length s) r in
        record { exact = z; least = rw z l; within = rw z m; long = p }
    go true true true false p q r z = absurd (h z)
    go true true false d p q r z = absurd (h z)
    go true false c d p q r z = absurd (h z)
    go false b c d p q r z = absurd (h z)

pub front_size : (s : List ℕ) → 12 ≤ size_of s → size_of s ≤ length s → long_form s ≡ true → long_size s ≡ size_of s
front_size s l m f = let k : 12 ≤ length s = omega arith in rw (le-leb 12 (length s) k, f, le-leb 12 (size_of s) l, le-leb (size_of s) (length s) m)

-- what is laid is empty or has a whole section at the front, and what follows it is laid
pub record Begins (s : List ℕ) : Type 0 where
  pub front : Front s (size_of s)
  pub rest : laid_out (drop (size_of s) s) ≡ true

pub laid_begins : (s : List ℕ) → (length s ≡ 0 → ⊥) → laid_out s ≡ true → Begins s
laid_begins s h w = ⊎_elim (λ (l : length s < 3). absurd (true≢false (sym w ∙ unlaid_short s h l))) long (lt_or_le (length s) 3)
  where
    there : 3 ≤ length s → size_of s ≤ length s → Begins s
    there l m =
        let e = and_true (long_form s && leb 12 (size_of s)) (laid_out (drop (size_of s) s)) (sym (laid_step s l m) ∙ w) in
        let f = and_true (long_form s) (leb 12 (size_of s)) e.0 in
        record { front = record { exact = refl; least = leb-true 12 (size_of s) f.1; within = m; long = f.0 }; rest = e.1 }

    long : 3 ≤ length s → Begins s
    long l = ⊎_elim (λ (m : length s < size_of s). absurd (true≢false (sym w ∙ unlaid_past s l m))) (λ (m : size_of s ≤ length s). there l m) (lt_or_le (length s) (size_of s))

-- the same the other way round: by the size at the front
pub laid_none : (s : List ℕ) → (length s ≡ 0 → ⊥) → long_size s ≡ 0 → laid_out s ≡ false
laid_none s h e = go (laid_out s) refl
  where
    go : (b : Bool) → laid_out s ≡ b → b ≡ false
    go true w =
        let b = laid_begins s h w in
        let z : size_of s ≡ 0 = sym (front_size s b.front.least b.front.within b.front.long) ∙ e in
        absurd (omega arith)
    go false w = refl

pub laid_front : (s : List ℕ) (n : ℕ) → Front s n → laid_out s ≡ laid_out (drop n s)
laid_front s n f =
    let l : 12 ≤ size_of s = rw f.exact at f.least in
    let m : size_of s ≤ length s = rw f.exact at f.within in
    laid_step s (omega arith) m ∙ rw (f.long, le-leb 12 (size_of s) l, f.exact)

pub sections_front : (s : List ℕ) (n : ℕ) → Front s n → sections_in s ≡ take n s ∷ sections_in (drop n s)
sections_front s n f =
    let l : 12 ≤ size_of s = rw f.exact at f.least in
    let m : size_of s ≤ length s = rw f.exact at f.within in
    sections_one s (omega arith) ∙ rw f.exact

-- the sections are the bytes, none left out
nothing : (s : List ℕ) → length s ≡ 0 → flatten (sections_in s) ≡ s
unfolding flatten
nothing [] z = rw (sections_none [] z)
nothing (x ∷ s) z = absurd (omega arith)

all_in : (k : ℕ) (s : List ℕ) → length s ≤ k → laid_out s ≡ true → flatten (sections_in s) ≡ s
unfolding flatten
all_in zero s h w = nothing s (omega arith)
all_in (suc k) s h w = go (eqb (length s) 0) refl (λ (l : length (drop (size_of s) s) ≤ k) (r : laid_out (drop (size_of s) s) ≡ true). all_in k (drop (size_of s) s) l r)
  where
    go : (b : Bool) → eqb (length s) 0 ≡ b → (length (drop (size_of s) s) ≤ k → laid_out (drop (size_of s) s) ≡ true → flatten (sections_in (drop (size_of s) s)) ≡ drop (size_of s) s)
        → flatten (sections_in s) ≡ s
    go true z f = nothing s (eqb-true (length s) 0 z)
    go false z f =
        let b = laid_begins s (eqb-false (length s) 0 z) w in
        let l : 12 ≤ size_of s = b.front.least in
        rw (sections_one s (eqb-false (length s) 0 z), f (simp length-drop (omega arith)) b.rest) (take-append-drop (size_of s) s)

pub sections_all : (s : List ℕ) → laid_out s ≡ true → flatten (sections_in s) ≡ s
sections_all s w = all_in (length s) s (omega arith) w
