-- What is read is one record.
-- Assumes nothing.
use mathlib.Core.Path.{◌≡◌, sym, ◌∙◌}
use mathlib.Core.List.{List}
use Prim.Native.Nat.{ℕ}
use Rattle.log_records.specs.Reading.{Read, read_at}

pub unique_read_record : (log : List ℕ) (place : ℕ) {a b : Read} → a ≡ read_at log place → b ≡ read_at log place → a ≡ b
unique_read_record log place p q = p ∙ sym q
