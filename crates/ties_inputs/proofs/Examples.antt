-- The inputs of a card share the gate's capacity: an eviction can come from a neighbour.
-- Assumes nothing.
use Prim.Native.Nat.{ℕ}
use mathlib.Core.Path.{◌≡◌, refl}
use mathlib.Core.List.{List, [], ◌∷◌}
use mathlib.Core.Bool.{Bool, true, false}
use Rattle.laws.specs.Runs.{answers, store_after}
use Rattle.section.specs.Judged.{form_of, change_of, parts_of, judged_by, judged_of}
use Rattle.section.specs.Key.{key_of}
use Rattle.offers.specs.Offers.{read_of}
use Rattle.ring.specs.Rules.{offered_to}
use Rattle.gate_state.specs.State.{plain}
use Rattle.gate.specs.Rules.{Offer, Manner, admitted, carried_in, told, tells, acts}
use Rattle.ties_gate.specs.Watching.{empty_held}

-- room for one key
abbrev smallest : Manner
smallest = record { capacity = 1; repeats = false; follow = true; rule = 2 }

-- the same section on the same PID, on one of two inputs
abbrev clock_on : (input : ℕ) → Offer
clock_on input = record { input = input; pid = 0x14; section = 0x70 ∷ 0x70 ∷ 0x00 ∷ [] }

abbrev in_turn : List Offer
in_turn = clock_on 0 ∷ clock_on 1 ∷ clock_on 0 ∷ []

pub neighbour_evicts : (protected : ℕ → Bool) →
    (answers (tells smallest) (acts smallest) (empty_held protected) in_turn ≡ plain 1 ∷ plain 1 ∷ plain 1 ∷ [])
    × ((store_after (acts smallest) (empty_held protected) in_turn).counters.evictions ≡ 2)
unfolding answers store_after tells acts told read_of carried_in admitted offered_to key_of judged_of judged_by form_of parts_of change_of
neighbour_evicts protected = (refl, refl)
