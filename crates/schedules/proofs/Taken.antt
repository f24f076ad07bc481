-- The map of the cells that rows and units name tells which cells are free: "no slot or schedule copy of a row in use names it".
-- Assumes nothing.
use mathlib.Core.Path.{◌≡◌, refl, ap, ◌∙◌}
use mathlib.Core.List.{List}
use mathlib.Core.Bool.{Bool, true, false, cond, ◌&&◌, ◌||◌}
use Prim.Native.Nat.{ℕ, zero, suc, ◌+◌, ◌*◌}
use lib.ListN.{length, replicate, length-replicate}
use Rattle.laws.specs.Bits.{has_bit}
use Rattle.cells.specs.Cells.{some_names, marked_all, lowest_free, lowest_clear}
use Rattle.cells.proofs.Laws.{length_all, has_all_marked, has_none, lowest_of_lem}
use Rattle.rows.specs.Rows.{taken_in, marked_rows}
use Rattle.rows.proofs.Taken.{length_rows, has_rows}
use Rattle.units.specs.Units.{is_present, unit_slots, taken_in_units, marked_unit, marked_units}
use Rattle.schedules.specs.Schedules.{tables_of, taken_in_schedules, marked_schedules, taken_anywhere}

swap : (a b t : Bool) → (a || (b || t)) ≡ ((b || a) || t)
swap true true t = refl
swap true false t = refl
swap false true t = refl
swap false false t = refl

module _ (units : List ℕ) where
  length_unit : (u : ℕ) (map : List ℕ) → length (marked_unit units u map) ≡ length map
  length_unit u map = go (is_present units u)
    where
      go : (b : Bool) → length (cond b (marked_all (unit_slots units u) map) map) ≡ length map
      go true = length_all (unit_slots units u) map
      go false = refl

  has_unit : (u : ℕ) (map : List ℕ) (c : ℕ) → length map ≡ 1024 → has_bit (marked_unit units u map) c ≡ ((is_present units u && some_names c (unit_slots units u)) || has_bit map c)
  has_unit u map c l = go (is_present units u)
    where
      go : (b : Bool) → has_bit (cond b (marked_all (unit_slots units u) map) map) c ≡ ((b && some_names c (unit_slots units u)) || has_bit map c)
      go true = has_all_marked (unit_slots units u) map c l
      go false = refl

  length_units : (base n : ℕ) (map : List ℕ) → length (marked_units units base n map) ≡ length map
  unfolding marked_units
  length_units base zero map = refl
  length_units base (suc n) map = length_units base n (marked_unit units (base + n) map) ∙ length_unit (base + n) map

  -- a cell is marked exactly when a slot of a present unit names it, or it was marked before
  has_units : (base n : ℕ) (map : List ℕ) (c : ℕ) → length map ≡ 1024 → has_bit (marked_units units base n map) c ≡ (taken_in_units units base n c || has_bit map c)
  unfolding marked_units taken_in_units
  has_units base zero map c l = refl
  has_units base (suc n) map c l =
      has_units base n (marked_unit units (base + n) map) c (length_unit (base + n) map ∙ l)
      ∙ rw (has_unit (base + n) map c l) (swap (taken_in_units units base n c) (is_present units (base + n) && some_names c (unit_slots units (base + n))) (has_bit map c))

  pub has_schedules : (schedule_heads : List ℕ) (n : ℕ) (map : List ℕ) (c : ℕ) → length map ≡ 1024 → has_bit (marked_schedules schedule_heads units n map) c ≡ (taken_in_schedules schedule_heads units n c || has_bit map c)
  unfolding marked_schedules taken_in_schedules
  has_schedules schedule_heads zero map c l = refl
  has_schedules schedule_heads (suc n) map c l =
      has_schedules schedule_heads n (marked_units units (n * 16) (tables_of schedule_heads n) map) c (length_units (n * 16) (tables_of schedule_heads n) map ∙ l)
      ∙ rw (has_units (n * 16) (tables_of schedule_heads n) map c l) (swap (taken_in_schedules schedule_heads units n c) (taken_in_units units (n * 16) (tables_of schedule_heads n) c) (has_bit map c))

-- from a map of no cells, the lowest that is clear is the lowest that neither a row nor a schedule names
pub lowest_anywhere : (heads slots schedule_heads units : List ℕ) (gone used n count r : ℕ) (m₀ m m' : List ℕ) → m₀ ≡ replicate 1024 0 → m ≡ marked_rows heads slots gone used m₀ → m' ≡ marked_schedules schedule_heads units n m → r ≡ lowest_clear m' count
    → r ≡ lowest_free (taken_anywhere heads slots schedule_heads units gone used n) count
unfolding taken_anywhere
lowest_anywhere heads slots schedule_heads units gone used n count r m₀ m m' z e f q = q ∙ lowest_of_lem (taken_anywhere heads slots schedule_heads units gone used n) m' count has
  where
    long : length m₀ ≡ 1024
    long = ap length z ∙ length-replicate {A = ℕ} 1024 0

    rows : (c : ℕ) → has_bit m c ≡ (taken_in heads slots gone used c || false)
    rows c = ap (λ (l : List ℕ). has_bit l c) e ∙ has_rows heads slots gone used m₀ c long ∙ ap (λ (t : Bool). taken_in heads slots gone used c || t) (ap (λ (l : List ℕ). has_bit l c) z ∙ has_none c)

    turn : (a b : Bool) → (a || (b || false)) ≡ (b || a)
    turn true true = refl
    turn true false = refl
    turn false true = refl
    turn false false = refl

    has : (c : ℕ) → has_bit m' c ≡ taken_anywhere heads slots schedule_heads units gone used n c
    has c =
        ap (λ (l : List ℕ). has_bit l c) f ∙ has_schedules units schedule_heads n m c (ap length e ∙ length_rows heads slots gone used m₀ ∙ long)
        ∙ ap (λ (t : Bool). taken_in_schedules schedule_heads units n c || t) (rows c) ∙ turn (taken_in_schedules schedule_heads units n c) (taken_in heads slots gone used c)
