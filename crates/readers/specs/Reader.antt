-- A reader over a complete set (docs/RULES.md, "Collectors": it hands out a set's sections one after another, each a part of the lent cells).
-- `cond test a b` is a where the test is true, else b.
use Rattle.std.specs.Prelude.{ℕ, ◌+◌, List, [], cond, leb, eqb}
use Rattle.answers.specs.Answers.{reply_no}
use Rattle.cells.specs.Cells.{next_filled, part_of}
use Rattle.readers.specs.Next.{slot_told}
use Rattle.readers.specs.declared.Next.{Next}
use Rattle.readers.specs.declared.Step.{Step}
use Rattle.readers.specs.declared.SetReader.{SetReader}

-- no section is left: no bytes, and the reader stays at its slot
abbrev pub no_step : ℕ → Step
no_step from = record { start = 0; length = 0; next = from }

-- the section that a question from slot `from` on told of (8), and the slot behind it
abbrev pub step_by : ℕ → Next → Step
step_by from found = cond (eqb (reply_no found.answer) 8) (record { start = found.start; length = found.length; next = found.number + 1 }) (no_step from)

-- from slot `from` of a row's slots on; no cell is larger than 4,096 bytes
unfoldable pub step_of : (size : ℕ) → (slots : List ℕ) → (from : ℕ) → Step
step_of size slots from = cond (leb size 4096) (step_by from (slot_told size slots (next_filled slots from))) (no_step from)

-- what a reader holds: the cells, the slot to look at next, and the bytes of the section that it handed out last
pub record Held : Type 0 where
  pub cells : List ℕ
  pub next : ℕ
  pub part : List ℕ

abbrev pub held : SetReader → Held
held r = record { cells = r.cells.now; next = r.next; part = r.part.now }

-- before the first section
abbrev pub begun : (cells : List ℕ) → Held
begun cells = record { cells = cells; next = 0; part = [] }

-- behind a section, with its bytes
abbrev pub stepped : Held → Step → Held
stepped h x = record { cells = h.cells; next = x.next; part = part_of h.cells x.start x.length }

-- behind the next section of the row that has these slots; where none is left, at the same slot with no bytes
unfoldable pub moved_on : (size : ℕ) → (slots : List ℕ) → Held → Held
moved_on size slots h = stepped h (step_of size slots h.next)
