-- What `gather` does with the bytes of a section that was sent.
-- Assumes nothing.
use mathlib.Core.Path.{◌≡◌, refl, sym, ap, ◌∙◌, subst}
use mathlib.Core.Logic.{◌≢◌}
use mathlib.Core.Bool.{Bool, true, false, cond, true≢false}
use mathlib.Core.List.{List, [], ◌∷◌, ◌++◌, append_assoc, append-nil}
use borrow.Author.Tests.{eqb-true, ne_eqb}
use Prim.Native.Nat.{ℕ, zero, suc, ◌+◌, ◌*◌, ◌%◌, ◌≤◌, ◌<◌}
use native.Mathlib.Omega.{arith}
use lib.Dec.{eqb}
use lib.ListN.{length, take, drop, replicate, length-append}
use lib.Seq.{append_snoc, take-append_seam, drop-append_seam}
use Rattle.transport.specs.Rules.{Bytes, Read, whole, stops, read, found, gather, then, pointed, taken}
use Rattle.transport.specs.Sender.{IsSection, stuffed, Begins, Carries}

nil_or : (r : Bytes) → r ≢ [] → 1 ≤ length r
nil_or [] h = absurd (h refl)
nil_or (b ∷ bs) h = omega arith

-- a part in front of a section is no whole section
pub not_yet : (got r : Bytes) → whole (got ++ r) ≡ true → r ≢ [] → whole got ≡ false
unfolding whole
not_yet [] r h e = refl
not_yet (t ∷ []) r h e = refl
not_yet (t ∷ u ∷ []) r h e = refl
not_yet (t ∷ u ∷ l ∷ more) r h e =
    ne_eqb (length more) (u % 16 * 256 + l) (λ q. omega (arith, eqb-true (length (more ++ r)) (u % 16 * 256 + l) h, length-append more r, nil_or r e))

-- ---- one section

cons_ne : (b : ℕ) (bs : Bytes) → ◌≢◌ {A = Bytes} (b ∷ bs) []
cons_ne b bs e = let z : ◌≡◌ {A = ℕ} 1 0 = ap (λ (x : Bytes). take_one x) e in omega arith
  where
    take_one : Bytes → ℕ
    take_one [] = 0
    take_one (x ∷ xs) = 1

app_ne : (xs ys : Bytes) → ys ≢ [] → xs ++ ys ≢ []
app_ne [] ys h e = h e
app_ne (x ∷ xs) ys h e = cons_ne x (xs ++ ys) e

-- all but the end of a section
pub goes_on_lem : (begin : Bool) (g : ℕ) (gs c r : Bytes) → whole ((g ∷ gs) ++ (c ++ r)) ≡ true → r ≢ [] → gather begin (g ∷ gs) c ≡ read [] ((g ∷ gs) ++ c)
unfolding gather stops
goes_on_lem begin g gs [] r h e = ap (read []) (sym (append-nil (g ∷ gs)))
goes_on_lem begin g gs (b ∷ bs) r h e =
    let h₁ : whole ((g ∷ (gs ++ (b ∷ []))) ++ (bs ++ r)) ≡ true = rw (append_snoc gs b (bs ++ r)) h in
    rw (not_yet (g ∷ (gs ++ (b ∷ []))) (bs ++ r) h₁ (app_ne bs r e))
    (goes_on_lem begin g (gs ++ (b ∷ [])) bs r h₁ e ∙ ap (λ (x : Bytes). read [] (g ∷ x)) (append_snoc gs b bs))

-- up to the end of a section, and on
pub comes_to_end : (begin : Bool) (g : ℕ) (gs : Bytes) (b : ℕ) (bs tail : Bytes) → whole ((g ∷ gs) ++ (b ∷ bs)) ≡ true
    → gather begin (g ∷ gs) (b ∷ (bs ++ tail)) ≡ found ((g ∷ gs) ++ (b ∷ bs)) (gather begin [] tail)
unfolding gather stops
comes_to_end begin g gs b [] tail h = rw h refl
comes_to_end begin g gs b (b' ∷ bs) tail h =
    let h₁ : whole ((g ∷ (gs ++ (b ∷ []))) ++ (b' ∷ bs)) ≡ true = rw (append_snoc gs b (b' ∷ bs)) h in
    rw (not_yet (g ∷ (gs ++ (b ∷ []))) (b' ∷ bs) h₁ (cons_ne b' bs))
    (comes_to_end begin g (gs ++ (b ∷ [])) b' bs tail h₁ ∙ ap (λ (x : Bytes). found (g ∷ x) (gather begin [] tail)) (append_snoc gs b (b' ∷ bs)))

pub one_section : (s tail : Bytes) → IsSection s → gather true [] (s ++ tail) ≡ found s (gather true [] tail)
unfolding gather stops stuffed whole
one_section [] tail h = absurd (true≢false (sym h.complete))
one_section (t ∷ []) tail h = absurd (true≢false (sym h.complete))
one_section (t ∷ u ∷ []) tail h = absurd (true≢false (sym h.complete))
one_section (t ∷ u ∷ l ∷ more) tail h = rw h.table (comes_to_end true t [] u (l ∷ more) tail h.complete)

pub first_part : (c r : Bytes) → IsSection (c ++ r) → c ≢ [] → r ≢ [] → gather true [] c ≡ read [] c
unfolding gather stops stuffed whole
first_part [] r h e e' = absurd (e refl)
first_part (b ∷ bs) r h e e' = rw h.table (goes_on_lem true b [] bs r h.complete e')

pub only_stuffing : (begin : Bool) (k : ℕ) → gather begin [] (replicate k 255) ≡ read [] []
unfolding gather stops
only_stuffing begin zero = refl
only_stuffing true (suc k) = refl
only_stuffing false (suc k) = refl

pub not_under : (bs : Bytes) → gather false [] bs ≡ read [] []
unfolding gather stops
not_under [] = refl
not_under (b ∷ bs) = refl
