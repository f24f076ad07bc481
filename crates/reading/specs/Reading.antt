-- Reading a row out: a host asks from slot 0 on, takes the part that it is told of, asks again behind that section's number, and so on until the answer is
-- no longer yes (docs/RULES.md, "Collectors": a reader hands out a set's sections one after another, each a part of the lent cells).
use Rattle.std.specs.Prelude.{ℕ, ◌+◌, ◌≡◌, ◌≢◌, List, [], ◌∷◌, Ok, true}
use Rattle.answers.specs.Answers.{Reply}
use Rattle.cells.specs.Cells.{next_filled, part_of}
use Rattle.readers.specs.Next.{slot_told}
use Rattle.readers.specs.Reader.{Held, moved_on}
use Rattle.readers.specs.declared.Next.{Next}

-- what a question about these slots is answered (`next_slot` of `readers`)
abbrev pub asks : ℕ → List ℕ → ℕ → Next
asks size slots from = slot_told size slots (next_filled slots from)

-- the parts that are read from slot `from` on, one after another, and the answer that ends the reading
pub data Reads (ask : ℕ → Next) (cells : List ℕ) : ℕ → List (List ℕ) → Reply → Type 0 where
  ends : {from : ℕ} → (ask from).answer ≢ (Ok true) → Reads ask cells from [] (ask from).answer
  goes_on : {from : ℕ} {parts : List (List ℕ)} {last : Reply} → (ask from).answer ≡ Ok true → Reads ask cells ((ask from).number + 1) parts last
      → Reads ask cells from (part_of cells (ask from).start (ask from).length ∷ parts) last

-- the parts that a reader hands out one after another, over a row that has these slots, until it hands out an empty one
pub data HandsOut (size : ℕ) (slots : List ℕ) : Held → List (List ℕ) → Type 0 where
  stops : {h : Held} → (moved_on size slots h).part ≡ [] → HandsOut size slots h []
  hands : {h : Held} {parts : List (List ℕ)} → (moved_on size slots h).part ≢ [] → HandsOut size slots (moved_on size slots h) parts
      → HandsOut size slots h ((moved_on size slots h).part ∷ parts)
