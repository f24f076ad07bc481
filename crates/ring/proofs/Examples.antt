-- The examples of docs/RULES.md of the gate: capacity 2, keys A, B, A, C: the gate loses A. Of the rule and of the ring. And a ring that came from no
-- history, in which a key stands twice: the first row that has it counts.
-- Assumes nothing.
use Prim.Native.Nat.{ℕ}
use mathlib.Core.Path.{◌≡◌, refl}
use mathlib.Core.List.{List, [], ◌∷◌}
use mathlib.Core.Bool.{Bool, true, false, cond}
use Rattle.ring.specs.Store.{stamp_of, renewed, arrived, seen_of, keys_after, changes_after}
use Rattle.ring.specs.Rules.{Row, changed, updated, offered_to}
use Rattle.ring.specs.View.{Memory, memory_after, laid_in, in_order}
use Rattle.ring.proofs.Places.{seen_in}
use Rattle.ring.specs.Store.{empty_ring}

-- keys 7, 8 and 9 stand for A, B and C
abbrev row : ℕ → Row
row k = record { key = k; version = 1; change = 5 }

abbrev held : List Row → List Row
held [] = []
held (n ∷ ns) = offered_to 2 n (held ns)

-- the latest offer stands first in the list of offers
pub loses_a : held (row 9 ∷ row 7 ∷ row 8 ∷ row 7 ∷ []) ≡ row 8 ∷ row 9 ∷ []
unfolding offered_to
loses_a = refl

abbrev memory : List Row → Memory
memory [] = record { ring = empty_ring 2; keys = 0 ∷ 0 ∷ []; changes = 0 ∷ 0 ∷ [] }
memory (n ∷ ns) = memory_after (memory ns) n

pub ring_loses_a : in_order (memory (row 9 ∷ row 7 ∷ row 8 ∷ row 7 ∷ [])) ≡ row 8 ∷ row 9 ∷ []
unfolding memory_after seen_of keys_after changes_after renewed arrived
ring_loses_a = refl

-- key 5 stands twice, with change numbers 1 and 2, and is offered with 2: its first row has 1, so it is changed, and that row is updated. The rule
-- on the rows says so, and the ring too.
abbrev twice : Memory
twice = record { ring = record { capacity = 2; used = 2; first = 0 }; keys = 5 ∷ 5 ∷ []; changes = stamp_of 0 1 ∷ stamp_of 0 2 ∷ [] }

abbrev five : ℕ → Row
five c = record { key = 5; version = 0; change = c }

pub first_of_two : (changed (five 2) (laid_in twice).rows ≡ true) × ((seen_in twice (five 2)).changed ≡ true)
unfolding seen_of renewed
first_of_two = (refl, refl)

pub first_is_updated : (updated (five 2) (laid_in twice).rows ≡ five 2 ∷ five 2 ∷ []) × ((laid_in (memory_after twice (five 2))).rows ≡ five 2 ∷ five 2 ∷ [])
unfolding memory_after seen_of keys_after changes_after renewed arrived
first_is_updated = (refl, refl)
