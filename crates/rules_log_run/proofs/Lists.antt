-- The sections of a list of bytes can be taken, and are fewer than its bytes.
-- Assumes nothing.
use mathlib.Core.Path.{◌≡◌, refl, subst}
use mathlib.Core.Bool.{Bool, true, false, cond}
use mathlib.Core.List.{List, [], ◌∷◌}
use Prim.Native.Nat.{ℕ, zero, suc, ◌+◌, ◌≤◌, ◌<◌}
use native.Mathlib.Nat.{min-le_left}
use native.Mathlib.Decide.{dec_lt}
use native.Mathlib.Omega.{arith}
use borrow.Author.Tests.{ltb-false}
use lib.Dec.{ltb, eqb}
use lib.ListN.{length, take, drop, get_or, length-take, length-drop}
use lib.Seq.{get_or-take, get_or-drop}
use Rattle.section.specs.Facts.{Bytes as OfBytes}
use Rattle.rules_logs.specs.Records.{Bytes}
use Rattle.rules_logs.specs.Sections.{Given, Listed, too_long, cut, sections, before, size_in, first_in, listed, sections_in}
use Rattle.rules_log_run.specs.Lists.{Takable, AllTakable}

drop_bytes : (n : ℕ) (s : Bytes) → OfBytes s → OfBytes (drop n s)
drop_bytes n s b i = rw (get_or-drop n s i 0) (b (n + i))

-- past its end a list reads as 0
past : (s : Bytes) (i : ℕ) → length s ≤ i → get_or s i 0 ≡ 0
past [] i h = refl
past (x ∷ s) zero h = absurd (omega arith)
past (x ∷ s) (suc i) h = past s i (omega arith)

take_bytes : (n : ℕ) (s : Bytes) → OfBytes s → OfBytes (take n s)
take_bytes n s b i = go (dec_lt i n)
  where
    go : Dec (i < n) → get_or (take n s) i 0 < 256
    go (yes h) = rw (get_or-take n s i 0 h) (b i)
    go (no h) = let l = length-take n s in let m = min-le_left n (length s) in rw (past (take n s) i (omega arith)) (omega arith)

-- one section and the rest
record Read (s : Bytes) (gs : List Given) : Type 0 where
  takable : AllTakable gs
  few : length gs ≤ length s

first_takable : (s : Bytes) → OfBytes s → size_in s ≤ 4098 → Takable (first_in s)
first_takable s b h = record {
  of_bytes = take_bytes (size_in s) (drop 5 s) (drop_bytes 5 s b);
  short = let l = length-take (size_in s) (drop 5 s) in let m = min-le_left (size_in s) (length (drop 5 s)) in omega arith;
}

listed_read : (n : ℕ) (s : Bytes) → OfBytes s → (gs : List Given) → listed n s ≡ sections gs → Read s gs
unfolding listed
listed_read zero s b gs e = go (eqb (length s) 0) e
  where
    go : (t : Bool) → cond t (sections []) cut ≡ sections gs → Read s gs
    go true q = let z : [] ≡ gs = cc in subst (Read s) z (record { takable = tt; few = omega arith })
    go false q = let z : ◌≡◌ {A = ℕ} 0 1 = cc in absurd (omega arith)
listed_read (suc n) s b gs e =
    go (eqb (length s) 0) (ltb (length s) 5) (ltb 4098 (size_in s)) (ltb (length s) (5 + size_in s)) refl refl refl (listed n (drop (5 + size_in s) s)) refl e
    (λ gs. listed_read n (drop (5 + size_in s) s) (drop_bytes (5 + size_in s) s b) gs)
  where
    more : (r : Listed) → listed n (drop (5 + size_in s) s) ≡ r → size_in s ≤ 4098 → 5 ≤ length s → before (first_in s) r ≡ sections gs
        → ((gs : List Given) → listed n (drop (5 + size_in s) s) ≡ sections gs → Read (drop (5 + size_in s) s) gs) → Read s gs
    more too_long q h l e ih = let z : ◌≡◌ {A = ℕ} 0 1 = cc in absurd (omega arith)
    more cut q h l e ih = let z : ◌≡◌ {A = ℕ} 0 1 = cc in absurd (omega arith)
    more (sections rest) q h l e ih =
        let r = ih rest q in
        let z : first_in s ∷ rest ≡ gs = cc in
        let d = length-drop (5 + size_in s) s in
        let f = r.few in
        subst (Read s) z (record { takable = (first_takable s b h, r.takable); few = omega arith })

    go : (t u v w : Bool) → ltb (length s) 5 ≡ u → ltb 4098 (size_in s) ≡ v → ltb (length s) (5 + size_in s) ≡ w → (r : Listed) → listed n (drop (5 + size_in s) s) ≡ r
        → cond t (sections []) (cond u cut (cond v too_long (cond w cut (before (first_in s) r)))) ≡ sections gs
        → ((gs : List Given) → listed n (drop (5 + size_in s) s) ≡ sections gs → Read (drop (5 + size_in s) s) gs) → Read s gs
    go true u v w x y m r q e ih = let z : [] ≡ gs = cc in subst (Read s) z (record { takable = tt; few = omega arith })
    go false true v w x y m r q e ih = let z : ◌≡◌ {A = ℕ} 0 1 = cc in absurd (omega arith)
    go false false true w x y m r q e ih = let z : ◌≡◌ {A = ℕ} 0 1 = cc in absurd (omega arith)
    go false false false true x y m r q e ih = let z : ◌≡◌ {A = ℕ} 0 1 = cc in absurd (omega arith)
    go false false false false x y m r q e ih = more r q (ltb-false 4098 (size_in s) y) (ltb-false (length s) 5 x) e ih

module _ (s : Bytes) (b : OfBytes s) (gs : List Given) (e : sections_in s ≡ sections gs) where
  read : Read s gs
  unfolding sections_in
  read = listed_read (length s) s b gs e

  pub listed_takable : AllTakable gs
  listed_takable = read.takable

  pub listed_few : length gs ≤ length s
  listed_few = read.few
