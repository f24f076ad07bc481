-- Cells: what lies in the lent bytes, cell by cell.
-- Assumes nothing.
use mathlib.Core.Path.{◌≡◌, refl, sym, ap, ◌∙◌}
use mathlib.Core.Logic.{◌≢◌}
use mathlib.Core.Bool.{Bool, ◌&&◌}
use mathlib.Core.List.{List, [], ◌∷◌, ◌++◌}
use Prim.Native.Nat.{ℕ, zero, suc, ◌+◌, ◌-◌, ◌*◌, ◌≤◌, ◌<◌}
use native.Mathlib.Nat.{mul-le-mul_right, not-suc-le-zero, le_refl, add-zero, add-mul, one-mul}
use native.Mathlib.Omega.{arith}
use lib.ListN.{length, take, drop, get_or, set}
use lib.Seq.{paste, take-take, take-add, drop-drop, drop-paste, length-paste}
use Rattle.laws.specs.Lists.{same_list}
use Rattle.laws.proofs.Lists.{drop_take}
use Rattle.rules_shared.specs.Same.{Bytes, same_bytes}
use Rattle.rules_shared.specs.Cells.{bytes_of, write}
use Rattle.cells.specs.Cells.{kept_length, cell_number, kept}
use Rattle.cells.proofs.Bytes.{other_cell, same_cell}
use Rattle.ticks.specs.Slots.{up_from, cells_seen}
use Rattle.ticks.proofs.Slots.{place}

-- ---- lists by a function

module _ {A : Type 0} where
  pub length_up : (f : ℕ → A) (n at : ℕ) → length (up_from f n at) ≡ n
  unfolding up_from
  length_up f zero at = refl
  length_up f (suc n) at = ap suc (length_up f n (suc at))

  pub up_get : (f : ℕ → A) (n at j : ℕ) (d : A) → j < n → get_or (up_from f n at) j d ≡ f (at + j)
  unfolding up_from
  up_get f zero at j d l = absurd (not-suc-le-zero l)
  up_get f (suc n) at zero d l = ap f (sym (add-zero at))
  up_get f (suc n) at (suc j) d l = let z : suc at + j ≡ at + suc j = omega arith in up_get f n (suc at) j d (omega arith) ∙ ap f z

  pub up_cong : (f h : ℕ → A) (n at : ℕ) → ((k : ℕ) → at ≤ k → k < at + n → f k ≡ h k) → up_from f n at ≡ up_from h n at
  unfolding up_from
  up_cong f h zero at e = refl
  up_cong f h (suc n) at e =
      let p = e at (omega arith) (omega arith) in
      let q = up_cong f h n (suc at) (λ k a b. e k (omega arith) (omega arith)) in
      λ i. p i ∷ q i

  -- f and h alike but at one place
  pub up_set : (f h : ℕ → A) (n at j : ℕ) (v : A) → j < n → h (at + j) ≡ v → ((k : ℕ) → at ≤ k → k < at + n → k ≢ at + j → h k ≡ f k)
      → up_from h n at ≡ set (up_from f n at) j v
  unfolding up_from
  up_set f h zero at j v l e g = absurd (not-suc-le-zero l)
  up_set f h (suc n) at zero v l e g =
      let z : at + 0 ≡ at = add-zero at in
      let p : h at ≡ v = ap h (sym z) ∙ e in
      let q = up_cong h f n (suc at) (λ k a b. g k (omega arith) (omega arith) (λ y. absurd (omega arith))) in
      λ i. p i ∷ q i
  up_set f h (suc n) at (suc j) v l e g =
      let z : at + suc j ≡ suc at + j = omega arith in
      let p = g at (omega arith) (omega arith) (λ y. absurd (omega arith)) in
      let q = up_set f h n (suc at) j v (omega arith) (ap h (sym z) ∙ e) (λ k a b ne. g k (omega arith) (omega arith) (λ y. ne (y ∙ z))) in
      λ i. p i ∷ q i

-- ---- cells

pub cells_length : (bytes : List ℕ) (size count : ℕ) → length (cells_seen bytes size count) ≡ count
unfolding cells_seen
cells_length bytes size count = length_up (λ (c : ℕ). take size (drop (c * size) bytes)) count 0

pub cells_get : (bytes : List ℕ) (size count c : ℕ) → c < count → get_or (cells_seen bytes size count) c [] ≡ take size (drop (c * size) bytes)
unfolding cells_seen
cells_get bytes size count c h =
    let z : 0 + c ≡ c = omega arith in
    up_get (λ (d : ℕ). take size (drop (d * size) bytes)) count 0 c [] h ∙ ap (λ (d : ℕ). take size (drop (d * size) bytes)) z

-- the bytes that a whole slot names are the rules'
pub bytes_kept : (bytes : List ℕ) (size count w : ℕ) → cell_number w < count → kept_length w ≤ size → bytes_of (cells_seen bytes size count) (place w) ≡ kept bytes size w
unfolding bytes_of
bytes_kept bytes size count w h l = rw (cells_get bytes size count (cell_number w) h) (take-take (kept_length w) size (drop (cell_number w * size) bytes) l)

more : (a b : ℕ) → (a + 1) * b ≡ a * b + b
more a b = rw (add-mul, one-mul)

-- a section's bytes in cell c are the rules' write
module _ (bytes : List ℕ) (size count c : ℕ) (b : Bytes) (hc : c < count) (long : count * size ≤ length bytes) (hb : length b ≤ size) where
  abbrev pub written : List ℕ
  written = paste bytes (c * size) b (length b)

  inside : c * size + size ≤ length bytes
  inside = let m : (c + 1) * size ≤ count * size = mul-le-mul_right size (omega arith) in let e = more c size in omega arith

  own_cell : take size (drop (c * size) written) ≡ b ++ drop (length b) (take size (drop (c * size) bytes))
  own_cell =
      let n : size ≡ length b + (size - length b) = omega arith in
      let m : ℕ = size - length b in
      let h = inside in
      ap (λ (k : ℕ). take k (drop (c * size) written)) n
      ∙ take-add (length b) m (drop (c * size) written)
      ∙ ap (λ (l : List ℕ). l ++ take m (drop (length b) (drop (c * size) written))) (same_cell bytes (c * size) b (omega arith))
      ∙ ap (λ (l : List ℕ). b ++ take m l) (drop-drop (length b) (c * size) written ∙ drop-paste bytes (c * size) b (length b) (omega arith) (le_refl (length b)) ∙ sym (drop-drop (length b) (c * size) bytes))
      ∙ ap (λ (l : List ℕ). b ++ l) (sym (drop_take (length b) m (drop (c * size) bytes)) ∙ ap (λ (k : ℕ). drop (length b) (take k (drop (c * size) bytes))) (sym n))

  pub cells_written : cells_seen written size count ≡ write (cells_seen bytes size count) c b
  unfolding cells_seen write
  cells_written =
      let z : 0 + c ≡ c = omega arith in
      up_set (λ (d : ℕ). take size (drop (d * size) bytes)) (λ (d : ℕ). take size (drop (d * size) written)) count 0 c
      (b ++ drop (length b) (get_or (cells_seen bytes size count) c [])) hc
      (rw z (own_cell ∙ ap (λ (l : List ℕ). b ++ drop (length b) l) (sym (cells_get bytes size count c hc))))
      (λ k p q ne. other_cell bytes b size count c k size (omega arith) hc (omega arith) long hb (omega arith))

  pub written_length : length written ≡ length bytes
  written_length = let i = inside in length-paste bytes (c * size) b (length b) (omega arith) (le_refl (length b))

-- one test of equal bytes under two names
pub same_bytes_lem : (a b : List ℕ) → same_bytes a b ≡ same_list a b
unfolding same_bytes same_list
same_bytes_lem [] [] = refl
same_bytes_lem [] (y ∷ ys) = refl
same_bytes_lem (x ∷ xs) [] = refl
same_bytes_lem (x ∷ xs) (y ∷ ys) = ap (λ (t : Bool). lib.Dec.eqb x y && t) (same_bytes_lem xs ys)
