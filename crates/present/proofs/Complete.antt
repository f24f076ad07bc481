-- The segment rule: what a complete set has, and that more sections keep it complete.
-- Assumes nothing.
use mathlib.Core.Path.{◌≡◌, refl, sym, ◌∙◌, subst}
use mathlib.Core.Bool.{true}
use mathlib.Core.Option.{Option, none, some, some-injective}
use mathlib.Core.List.{List, [], ◌∷◌}
use Prim.Native.Nat.{ℕ, zero, suc, ◌*◌, ◌≤◌, ◌<◌, suc-le-suc}
use native.Mathlib.Omega.{arith}
use lib.ListN.{length, get_or}
use lib.Seq.{ext_get_or}
use Rattle.laws.proofs.Tests.{none≢some}
use Rattle.rules_shared.specs.Same.{Bytes}
use Rattle.rules_shared.proofs.Slots.{Below, below_get_d, below_length}
use Rattle.rules_eit.specs.Segments.{segment_of, segment_end, SetOf, complete}
use Rattle.rules_eit.proofs.Segments.{SegmentFilled, complete_filled, filled_complete}

pub get_d_inside : {A : Type 0} (xs : List (Option A)) (i : ℕ) (b : A) → get_or xs i none ≡ some b → i < length xs
get_d_inside [] i b h = absurd (none≢some refl h)
get_d_inside (x ∷ xs) zero b h = omega arith
get_d_inside (x ∷ xs) (suc i) b h = suc-le-suc (get_d_inside xs i b h)

module _ (s l : SetOf Bytes) (last : s.last ≡ l.last) (slots : Below s.slots l.slots) (notes : Below s.notes l.notes) where
  -- a complete set stays complete where there is more
  pub complete_more : complete s ≡ true → complete l ≡ true
  complete_more h = filled_complete l (λ g p. more g (complete_filled s h g (rw last p)))
    where
      more : (g : ℕ) → SegmentFilled s.last s.slots s.notes g → SegmentFilled l.last l.slots l.notes g
      more g f = record {
        number = f.number;
        noted = below_get_d notes g f.number f.noted;
        filled = λ i p q. (let a = f.filled i p (rw last q) in (a.0, below_get_d slots i a.0 a.1));
      }

  -- .. and where what there is more lies inside its segment, there is no more
  pub same_slots : length l.notes ≡ 32 → length l.slots ≡ suc l.last
      → ((i : ℕ) (b : Bytes) → get_or l.slots i none ≡ some b → segment_of i < 32 → (m : ℕ) × (get_or l.notes (segment_of i) none ≡ some m) × (i ≤ segment_end (8 * segment_of i) m l.last))
      → complete s ≡ true → s.slots ≡ l.slots
  same_slots z y inside h = ext_get_or none s.slots l.slots (below_length slots) (λ i p. at i p (get_or s.slots i none) (get_or l.slots i none) refl refl)
    where
      few : segment_of s.last < 32
      few =
          let f = complete_filled s h (segment_of s.last) (omega arith) in
          omega (arith, z, get_d_inside l.notes (segment_of s.last) f.number (below_get_d notes (segment_of s.last) f.number f.noted))

      at : (i : ℕ) → i < length s.slots → (o o' : Option Bytes) → get_or s.slots i none ≡ o → get_or l.slots i none ≡ o' → get_or s.slots i none ≡ get_or l.slots i none
      at i p (some b) o' e f = e ∙ sym (below_get_d slots i b e)
      at i p none none e f = e ∙ sym f
      at i p none (some b) e f =
          let r : i < suc s.last = omega (arith, below_length slots, last) in
          let t : segment_of i < 32 = omega (arith, few) in
          let w = inside i b f t in
          let c = complete_filled s h (segment_of i) (omega arith) in
          let v : c.number ≡ w.0 = some-injective c.number w.0 (sym (below_get_d notes (segment_of i) c.number c.noted) ∙ w.1) in
          let d = c.filled i (omega arith)
          (subst (λ (n : ℕ). i ≤ segment_end (8 * segment_of i) n s.last) (sym v) (subst (λ (n : ℕ). i ≤ segment_end (8 * segment_of i) w.0 n) (sym last) w.2)) in
          absurd (none≢some {a = d.0} e d.1)
