-- One law for each way out, and an example.
-- Assumes nothing.
use mathlib.Core.Path.{◌≡◌, refl, sym, ◌∙◌}
use mathlib.Core.List.{List, [], ◌∷◌, ◌++◌}
use Prim.Native.Nat.{ℕ, suc, ◌+◌, ◌*◌, ◌≤◌, ◌<◌}
use native.Mathlib.Numerals.{add-one}
use native.Mathlib.Omega.{arith}
use lib.ListN.{length, length-append, get_or, drop, drop_of_length-le}
use lib.Seq.{sets, drop-cons}
use Rattle.laws.proofs.Writes.{sets_append}
use Rattle.text.specs.Text.{decimal, Wrote}
use Rattle.text.proofs.Laws.{wrote_then}
use Rattle.times.specs.Times.{date_of}
use Rattle.times.specs.declared.Calendar.{Calendar}
use Rattle.std.specs.Prelude.{Option, Some, None}
use Rattle.clocks.specs.declared.Stamp.{Stamp}
use Rattle.counts_lines.specs.Lines.{date_text, clock_text, stamp_text, tabbed, rest_of}

-- ---- the time

module _ (l m : List ℕ) (r : ℕ) (s : Stamp) (d : Option Calendar) (e : d ≡ date_of s.day) where
  pub dated : (c : Calendar) → d ≡ Some c → Wrote l 0 (date_text c ++ clock_text s.hours s.minutes s.seconds) m r → Wrote l 0 (stamp_text s) m r
  unfolding stamp_text
  dated c q w = rw (← e, q) w

  pub undated : d ≡ None → Wrote l 0 (clock_text s.hours s.minutes s.seconds) m r → Wrote l 0 (stamp_text s) m r
  unfolding stamp_text
  undated q w = rw (← e, q) w

pub both : (l m n a b : List ℕ) (j k : ℕ) (c : Calendar) (h i s : ℕ) → a ≡ date_text c → b ≡ clock_text h i s → Wrote l 0 a m j → Wrote m j b n k
    → Wrote l 0 (date_text c ++ clock_text h i s) n k × (k ≤ 19)
both l m n a b j k c h i s e f v w =
    let x : Wrote l 0 (date_text c) m j = rw (← e) v in
    let y : Wrote m j (clock_text h i s) n k = rw (← f) w in
    (wrote_then x y, omega (arith, x.next, y.next))

pub clock_alone : (l m b : List ℕ) (k : ℕ) (h i s : ℕ) → b ≡ clock_text h i s → Wrote l 0 b m k → Wrote l 0 (clock_text h i s) m k × (k ≤ 19)
clock_alone l m b k h i s f w =
    let y : Wrote l 0 (clock_text h i s) m k = rw (← f) w in
    (y, omega (arith, y.next))

-- ---- the numbers: what is left to write makes the whole

abbrev pub Left : (l : List ℕ) (at : ℕ) (ns m : List ℕ) (to k : ℕ) → Type 0
Left l at ns m to k = Wrote m to (tabbed (drop k ns)) (sets l at (tabbed ns)) (at + length (tabbed ns))

pub left_first : (l : List ℕ) (at : ℕ) (ns : List ℕ) → Left l at ns l at 0
left_first l at ns = record { next = refl; bytes = refl }

pub left_turn : (l : List ℕ) (at : ℕ) (ns m n : List ℕ) (to j k : ℕ) → k < length ns → Left l at ns m to k → Wrote m to (9 ∷ decimal (get_or ns k 0)) n j → Left l at ns n j (k + 1)
unfolding tabbed
left_turn l at ns m n to j k h w f =
    let e : tabbed (drop k ns) ≡ (9 ∷ decimal (get_or ns k 0)) ++ tabbed (drop (k + 1) ns) = rw (drop-cons ns k 0 h, add-one k) in
    let v : Wrote m to ((9 ∷ decimal (get_or ns k 0)) ++ tabbed (drop (k + 1) ns)) (sets l at (tabbed ns)) (at + length (tabbed ns)) = rw (← e) w in
    record {
      next = omega (arith, v.next, f.next, length-append (9 ∷ decimal (get_or ns k 0)) (tabbed (drop (k + 1) ns)));
      bytes = v.bytes ∙ sets_append (9 ∷ decimal (get_or ns k 0)) (tabbed (drop (k + 1) ns)) m to ∙ rw (f.bytes, f.next);
    }

nothing : (m F t : List ℕ) (to R : ℕ) → t ≡ [] → Wrote m to t F R → (F ≡ m) × (R ≡ to)
nothing m F t to R e w = (w.bytes ∙ rw e, w.next ∙ rw e (omega arith))

pub left_none : (l : List ℕ) (at : ℕ) (ns m : List ℕ) (to k : ℕ) → length ns ≤ k → Left l at ns m to k → Wrote l at (tabbed ns) m to
unfolding tabbed
left_none l at ns m to k h w =
    let e : tabbed (drop k ns) ≡ [] = rw (drop_of_length-le ns h) in
    let v = nothing m (sets l at (tabbed ns)) (tabbed (drop k ns)) to (at + length (tabbed ns)) e w in
    record { next = sym v.1; bytes = sym v.0 }

-- ---- text after text

pub rest : (l m n ns : List ℕ) (from j k : ℕ) → Wrote l from (tabbed ns) m j → Wrote m j (10 ∷ []) n k → Wrote l from (rest_of ns) n k
unfolding rest_of
rest l m n ns from j k v w = wrote_then v w
