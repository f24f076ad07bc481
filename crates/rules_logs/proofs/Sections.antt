-- A section list read back: what is laid out whole is read as it was.
-- Assumes nothing.
use mathlib.Core.Path.{◌≡◌, refl, sym, ap, ◌∙◌}
use mathlib.Core.Bool.{cond}
use mathlib.Core.List.{List, [], ◌∷◌, ◌++◌}
use Prim.Native.Nat.{ℕ, zero, suc, ◌+◌, ◌*◌, ◌/◌, ◌%◌, ◌≤◌, ◌<◌}
use native.Mathlib.Omega.{arith}
use lib.Dec.{ltb, eqb}
use lib.ListN.{length, take, drop, get_or, length-append}
use lib.Seq.{take_at, drop_at}
use borrow.Author.Tests.{ne_eqb, le-ltb}
use Rattle.rules_logs.specs.Records.{Bytes, two}
use Rattle.rules_logs.specs.Sections.{Given, Listed, too_long, cut, sections, before, size_in, first_in, listed, sections_in, laid, laid_out, Fits, AllFit}

-- 16 bits are what their two bytes say
two_back : (n : ℕ) → n / 256 * 256 + n % 256 ≡ n
two_back n = omega arith

module _ (g : Given) (rest : Bytes) (f : Fits g) where
  size_back : size_in (laid g ++ rest) ≡ length g.section
  size_back = two_back (length g.section)

  first_back : first_in (laid g ++ rest) ≡ g
  first_back = λ i. record { input = g.input; pid = two_back g.pid i; section = section_back i }
    where
      section_back : take (size_in (laid g ++ rest)) (g.section ++ rest) ≡ g.section
      section_back = take_at g.section rest (size_in (laid g ++ rest)) (sym size_back)

  rest_back : drop (5 + size_in (laid g ++ rest)) (laid g ++ rest) ≡ rest
  rest_back = drop_at (laid g) rest (5 + size_in (laid g ++ rest)) (omega (arith, size_back))

-- sections that were laid out one after another
pub laid_back : (n : ℕ) (gs : List Given) → AllFit gs → length (laid_out gs) ≤ n → listed n (laid_out gs) ≡ sections gs
unfolding listed laid_out
laid_back zero [] fs h = refl
laid_back (suc n) [] fs h = refl
laid_back zero (g ∷ gs) fs h = absurd (omega (arith, h, length-append (laid g) (laid_out gs)))
laid_back (suc n) (g ∷ gs) fs h =
    let e : length (laid g ++ laid_out gs) ≡ 5 + length g.section + length (laid_out gs) = omega (arith, length-append (laid g) (laid_out gs)) in
    let s : size_in (laid g ++ laid_out gs) ≡ length g.section = size_back g (laid_out gs) fs.0 in
    rw (
      ne_eqb (length (laid g ++ laid_out gs)) 0 (λ q. omega (arith, e, q)),
      le-ltb (length (laid g ++ laid_out gs)) 5 (omega (arith, e)),
      le-ltb 4098 (size_in (laid g ++ laid_out gs)) (omega (arith, s, fs.0.short)),
      le-ltb (length (laid g ++ laid_out gs)) (5 + size_in (laid g ++ laid_out gs)) (omega (arith, e, s)),
      first_back g (laid_out gs) fs.0,
      rest_back g (laid_out gs) fs.0,
      laid_back n gs fs.1 (omega (arith, e, h)),
    )
    refl

pub read_back : (gs : List Given) → AllFit gs → sections_in (laid_out gs) ≡ sections gs
unfolding sections_in
read_back gs fs = laid_back (length (laid_out gs)) gs fs (omega arith)
