-- How many calls of a history are counted on an input, and what the gate answered to all sections.
use Rattle.std.specs.Prelude.{Bool, cond, ◌&&◌, ◌||◌, List, [], ◌∷◌, ◌++◌, map, ℕ, ◌+◌, eqb}
use Rattle.streams.specs.declared.Streams.{Streams}
use Rattle.demux_state.specs.State.{Said, number_of, packet_counted, malformed_counted}
use Rattle.demux_places.specs.declared.Outcome.{Outcome}
use Rattle.ties_demux.specs.Card.{Card, Told}
use Rattle.ties_demux.specs.History.{Given, tells, acts}

-- 29, 30 and 43
abbrev pub is_counted : Said → Bool
is_counted a = eqb (number_of a) 29 || eqb (number_of a) 30 || eqb (number_of a) 43

abbrev pub is_malformed : Said → Bool
is_malformed a = eqb (number_of a) 30

-- the calls on input i whose answer passes the test
unfoldable pub calls_on : (i : ℕ) → (Said → Bool) → Card → List Given → ℕ
calls_on i test c [] = 0
calls_on i test c (x ∷ xs) = cond (eqb i x.input && test (tells c x).answer) 1 0 + calls_on i test (acts c x) xs

-- the numbers in word 0 of the places that the calls told, in order
abbrev pub numbers_told : Told → List ℕ
numbers_told t = map (λ (o : Outcome). o.answer) t.outcomes

unfoldable pub all_numbers : Card → List Given → List ℕ
all_numbers c [] = []
all_numbers c (x ∷ xs) = numbers_told (tells c x) ++ all_numbers (acts c x) xs
