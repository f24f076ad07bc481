-- The cells that are named "after the set eviction or row emptying it would cause" (docs/RULES.md, "Answers", 21): what the code looks at is what the rules look at.
-- Assumes nothing.
use mathlib.Core.Path.{◌≡◌, refl, sym, ◌∙◌}
use mathlib.Core.Bool.{Bool, true, false}
use mathlib.Core.List.{List}
use Prim.Native.Nat.{ℕ, ◌<◌}
use native.Mathlib.Omega.{arith}
use native.Mathlib.Decide.{ℕ_discrete}
use Rattle.rules_shared.specs.Touch.{newest, aside, some_row}
use Rattle.cells.specs.Cells.{some_names}
use Rattle.rows.specs.declared.Key.{Key}
use Rattle.rows.specs.declared.Room.{Room}
use Rattle.rows.specs.Rows.{gone_row, row_slots, taken_in}
use Rattle.rows.proofs.Taken.{taken_row, row_free}
use Rattle.ticks.specs.Order.{order_seen, Stands, Goes, Touched}
use Rattle.ticks.proofs.Touch.{none_after, after_none}

-- two tests that fail together are one
same_fails : (p q : Bool) → (p ≡ false → q ≡ false) → (q ≡ false → p ≡ false) → p ≡ q
same_fails false q f g = sym (f refl)
same_fails true false f g = g refl
same_fails true true f g = refl

module _ {K R : Type 0} (shown : Key → K) (words : K → Key) (same : K → K → Bool) (law : (a b : K) → same a b ≡ true → a ≡ b) (self : (a : K) → same a a ≡ true)
    (heads slots : List ℕ) (limit used clock clock' evictions : ℕ) (key : Key) (w : Stands shown words heads used clock) (rise : clock < clock') (proper : words (shown key) ≡ key) (row : ℕ → R)
    (heads' : List ℕ) (r : Room) (g : Goes heads limit used evictions key r.row r.used r.evictions) (t : Touched heads heads' key r.row clock' r.used)
    (takes : ℕ → R → Bool) (each : (c j : ℕ) → takes c (row j) ≡ some_names c (row_slots heads slots j)) where
  abbrev named : R → ℕ → Bool
  named met c = some_row (takes c) (newest (shown key) met (aside same limit (shown key) (order_seen shown heads used clock evictions row))).rows

  -- the key's row begins anew, with no section yet: its own slots no longer count, nor does an evicted row's
  pub taken_fresh : (met : R) → ((c : ℕ) → takes c met ≡ false) → r.fresh ≡ true → (c : ℕ) → named met c ≡ taken_in heads slots (gone_row r used) used c
  taken_fresh met free f c =
      rw f (same_fails (named met c) (taken_in heads slots r.row used c)
      (λ h. row_free heads slots r.row c used (λ j l ne. sym (each c j) ∙ (after_none shown words same law self heads limit used clock clock' evictions key w rise proper row heads' g t (takes c) met h).1 j l ne))
      (λ h. none_after shown words same law self heads limit used clock clock' evictions key w rise proper row heads' g t (takes c) met (free c) (λ j l ne. each c j ∙ taken_row heads slots r.row c used j h l ne)))

  -- the key's row goes on as it is
  pub taken_known : r.row < used → r.fresh ≡ false → (c : ℕ) → named (row r.row) c ≡ taken_in heads slots (gone_row r used) used c
  taken_known h f c =
      rw f (same_fails (named (row r.row) c) (taken_in heads slots used used c)
      (λ n. row_free heads slots used c used (λ j l ne. sym (each c j) ∙ all n j l (ℕ_discrete j r.row)))
      (λ n. none_after shown words same law self heads limit used clock clock' evictions key w rise proper row heads' g t (takes c) (row r.row) (none n r.row h) (λ j l ne. none n j l)))
    where
      all : named (row r.row) c ≡ false → (j : ℕ) → j < used → Dec (j ≡ r.row) → takes c (row j) ≡ false
      all n j l (yes q) = rw q (after_none shown words same law self heads limit used clock clock' evictions key w rise proper row heads' g t (takes c) (row r.row) n).0
      all n j l (no ne) = (after_none shown words same law self heads limit used clock clock' evictions key w rise proper row heads' g t (takes c) (row r.row) n).1 j l ne

      none : taken_in heads slots used used c ≡ false → (j : ℕ) → j < used → takes c (row j) ≡ false
      none n j l = each c j ∙ taken_row heads slots used c used j n l (λ (e : j ≡ used). absurd (omega arith))
