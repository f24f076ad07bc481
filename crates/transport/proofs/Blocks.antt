-- Whole parts of a payload at once: what `gather` does with bytes that leave a section lacking, that complete it, or that begin one.
-- With `comes_to_end` and `one_section` (Gather.antt) these are all that code needs which copies blocks and not bytes.
-- Assumes nothing.
use mathlib.Core.Path.{◌≡◌, refl, sym, ap, ◌∙◌}
use mathlib.Core.Bool.{Bool, true, false, cond}
use mathlib.Core.List.{List, [], ◌∷◌, ◌++◌, append-nil}
use Prim.Native.Nat.{ℕ, zero, suc, ◌+◌, ◌*◌, ◌%◌, ◌≤◌, ◌<◌}
use native.Mathlib.Omega.{arith}
use lib.Dec.{eqb, ltb}
use lib.ListN.{length, length-append}
use lib.Seq.{append_snoc}
use borrow.Author.Tests.{ltb-true, lt-ltb, ne_eqb}
use Rattle.transport.specs.Rules.{Bytes, Read, whole, lacking, stops, read, found, gather}

-- the front of what lacks lacks too
pub front_lacks : (x y : Bytes) → lacking (x ++ y) ≡ true → lacking x ≡ true
unfolding lacking
front_lacks [] y h = refl
front_lacks (t ∷ []) y h = refl
front_lacks (t ∷ u ∷ []) y h = refl
front_lacks (t ∷ u ∷ l ∷ more) y h =
    let p : length (more ++ y) < u % 16 * 256 + l = ltb-true _ _ h in
    lt-ltb (length more) (u % 16 * 256 + l) (omega (arith, p, length-append more y))

-- what lacks is not whole
pub lacks_whole : (x : Bytes) → lacking x ≡ true → whole x ≡ false
unfolding lacking whole
lacks_whole [] h = refl
lacks_whole (t ∷ []) h = refl
lacks_whole (t ∷ u ∷ []) h = refl
lacks_whole (t ∷ u ∷ l ∷ more) h =
    let p : length more < u % 16 * 256 + l = ltb-true _ _ h in
    ne_eqb (length more) (u % 16 * 256 + l) (λ e. omega (arith, p, e))

-- the section under way still lacks with all of bs: it is under way with them
pub gather_more : (begin : Bool) (g : ℕ) (gs bs : Bytes) → lacking ((g ∷ gs) ++ bs) ≡ true → gather begin (g ∷ gs) bs ≡ read [] ((g ∷ gs) ++ bs)
unfolding gather stops
gather_more begin g gs [] h = ap (λ (x : Bytes). read [] (g ∷ x)) (sym (append-nil gs))
gather_more begin g gs (b ∷ bs) h =
    let h₁ : lacking ((g ∷ (gs ++ (b ∷ []))) ++ bs) ≡ true = rw (append_snoc gs b bs) h in
    rw (lacks_whole (g ∷ (gs ++ (b ∷ []))) (front_lacks (g ∷ (gs ++ (b ∷ []))) bs h₁))
    (gather_more begin g (gs ++ (b ∷ [])) bs h₁ ∙ ap (λ (x : Bytes). read [] (g ∷ x)) (append_snoc gs b bs))

-- a section begins and is cut off
pub gather_cut : (b : ℕ) (bs : Bytes) → eqb b 255 ≡ false → lacking (b ∷ bs) ≡ true → gather true [] (b ∷ bs) ≡ read [] (b ∷ bs)
unfolding gather stops
gather_cut b bs e h =
    rw (e, lacks_whole (b ∷ []) (front_lacks (b ∷ []) bs h)) (gather_more true b [] bs h)

-- stuffing
pub gather_stuffing : (b : ℕ) (bs : Bytes) → eqb b 255 ≡ true → gather true [] (b ∷ bs) ≡ read [] []
unfolding gather stops
gather_stuffing b bs e = rw e refl
