-- One law for each way out of the question for a row's next section.
-- Assumes nothing.
use mathlib.Core.Path.{◌≡◌}
use mathlib.Core.List.{List}
use Prim.Native.Nat.{ℕ, ◌-◌, ◌*◌, ◌≤◌, ◌<◌}
use native.Mathlib.Nat.{mul-le-mul_right, mul-le-mul_left, le_trans, lt_of_le_of_lt}
use native.Mathlib.Omega.{arith}
use borrow.Author.Tests.{lt-ltb, le-ltb}
use mir.Val.{Fits}
use mir.Syntax.{w64}
use lib.Dec.{lit<}
use lib.ListN.{length, get_or}
use Rattle.laws.specs.Lists.{first_from}
use Rattle.std.specs.Prelude.{Ok, true, false}
use Rattle.cells.specs.Cells.{kept_length, cell_number, next_filled}
use Rattle.readers.specs.declared.Next.{Next}
use Rattle.readers.specs.Next.{no_section, slot_told}

product : (a b m n : ℕ) → a ≤ m → b ≤ n → a * b ≤ m * n
product a b m n h k = le_trans (mul-le-mul_right b h) (mul-le-mul_left m k)

-- a cell's place
pub product_fits : (a b : ℕ) → a ≤ 65535 → b ≤ 4096 → Fits w64 (a * b)
product_fits a b h k = record { fits = lt_of_le_of_lt (product a b 65535 4096 h k) (lit< tt) }

module _ (slots : List ℕ) (size j : ℕ) where
  pub told_yes : (n c : ℕ) → j < length slots → n ≡ kept_length (get_or slots j 0) → c ≡ cell_number (get_or slots j 0)
      → ◌≡◌ {A = Next} (record { answer = Ok true; number = j; start = c * size; length = n }) (slot_told size slots j)
  unfolding slot_told
  told_yes n c h e f = rw (lt-ltb j (length slots) h, e, f)

  pub told_no_lem : (q : Next) → length slots ≤ j → q ≡ no_section (Ok false) → q ≡ slot_told size slots j
  unfolding slot_told
  told_no_lem q h e = rw (le-ltb j (length slots) h) e

pub slot_next : (slots : List ℕ) (size from j : ℕ) (q : Next) → j ≡ next_filled slots from → q ≡ slot_told size slots j → q ≡ slot_told size slots (next_filled slots from)
slot_next slots size from j q e f = rw (← e) f

-- past the last slot there is none
past : (slots : List ℕ) (from : ℕ) → length slots ≤ from → next_filled slots from ≡ from
unfolding first_from
past slots from h = let z : length slots - from ≡ 0 = omega arith in rw z

pub slot_past : (slots : List ℕ) (size from : ℕ) (q : Next) → length slots ≤ from → q ≡ no_section (Ok false) → q ≡ slot_told size slots (next_filled slots from)
slot_past slots size from q h e = rw (past slots from h) (told_no_lem slots size from q h e)
