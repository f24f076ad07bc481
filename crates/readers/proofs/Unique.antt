-- The promise of each public call names one result.
-- Assumes nothing.
use Prim.Native.Nat.{ℕ}
use mathlib.Core.Path.{◌≡◌, sym, ◌∙◌}
use mathlib.Core.List.{List}
use Rattle.cells.specs.Cells.{part_of}
use Rattle.readers.specs.declared.SetReader.{SetReader}
use Rattle.readers.specs.declared.Step.{Step}
use Rattle.readers.specs.Reader.{Held, held}

-- two parts that meet the promise hold the same bytes
pub unique_part : (cells : List ℕ) (start size : ℕ) (p q : List ℕ) → p ≡ part_of cells start size → q ≡ part_of cells start size → p ≡ q
unique_part cells start size p q a b = a ∙ sym b

-- two readers that meet the promise hold the same
pub unique_reader : (h : Held) (p q : SetReader) → held p ≡ h → held q ≡ h → held p ≡ held q
unique_reader h p q a b = a ∙ sym b

pub unique_step : (x p q : Step) → p ≡ x → q ≡ x → p ≡ q
unique_step x p q a b = a ∙ sym b
