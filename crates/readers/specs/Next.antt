-- The sections of a row, one after another (docs/RULES.md, "Collectors").
-- `cond test a b` is a where the test is true, else b.
use Rattle.std.specs.Prelude.{ℕ, ◌*◌, List, [], ◌∷◌, cond, length, get_or, ltb, Ok, true, false}
use Rattle.answers.specs.Answers.{Reply}
use Rattle.cells.specs.Cells.{cell_number, kept_length, filled}
use Rattle.readers.specs.declared.Next.{Next}

-- the filled slots, in order ("All filled slots are handed out")
unfoldable pub filled_slots : List ℕ → List ℕ
filled_slots [] = []
filled_slots (w ∷ ws) = cond (filled w) (w ∷ filled_slots ws) (filled_slots ws)

-- an answer that tells of no section: 9, or a refusal
abbrev pub no_section : Reply → Next
no_section a = record { answer = a; number = 0; start = 0; length = 0 }

-- slot j of the slots of a row, where there is one (8): the section's number, where its bytes begin in the cells, and how many they are
unfoldable pub slot_told : ℕ → List ℕ → ℕ → Next
slot_told size slots j =
    cond (ltb j (length slots))
    (record { answer = Ok true; number = j; start = cell_number (get_or slots j 0) * size; length = kept_length (get_or slots j 0) })
    (no_section (Ok false))
