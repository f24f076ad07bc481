-- Many packets on a card, one after another: what is told of them, what arrives on a PID, and what is finished on it.
use Rattle.std.specs.Prelude.{Bool, true, false, cond, ◌&&◌, List, [], ◌∷◌, ◌++◌, map, ℕ, eqb, ltb}
use Rattle.section.specs.Facts.{Bytes as AllBytes}
use Rattle.packet.specs.declared.Packet.{Packet}
use Rattle.packet.specs.declared.Packet.TheVariants.{Malformed, Nothing, Payload}
use Rattle.packet.specs.Packets.{packet_of}
use Rattle.transport.specs.Rules.{Bytes}
use Rattle.transport.specs.Receiver.{Arrival}
use Rattle.assemble.specs.Store.{payload_of}
use Rattle.demux_places.specs.Places.{outcome_of}
use Rattle.ties_demux.specs.Rules.{on_card, Held, Fed, fed_by}
use Rattle.ties_demux.specs.Card.{Gates, Card, watched_on, tells_on, acts_on, gate_near, pats_near, Told, card_acts, card_tells}

-- a packet, that is any bytes, on an input
pub record Given : Type 0 where
  pub input : ℕ
  pub packet : Bytes

abbrev pub OfBytes : List Given → Type 0
OfBytes [] = Unit {0}
OfBytes (x ∷ xs) = AllBytes x.packet × OfBytes xs

-- ---- the card, and the rules

abbrev pub tells : Card → Given → Told
tells c x = card_tells c x.input x.packet

abbrev pub acts : Card → Given → Card
acts c x = card_acts c x.input x.packet

abbrev pub ruled : Held Gates → Given → Fed Gates
ruled h x = fed_by watched_on tells_on acts_on gate_near pats_near h x.input x.packet

abbrev pub rules_tell : Held Gates → Given → Told
rules_tell h x = record { answer = (ruled h x).answer; sections = (ruled h x).sections; outcomes = map outcome_of (ruled h x).answers }

abbrev pub rules_act : Held Gates → Given → Held Gates
rules_act h x = (ruled h x).then

-- ---- what arrives, by the numbers of PIDs on the card

abbrev pub arrival_in : (input : ℕ) → Bytes → Packet → List Arrival
arrival_in i packet Malformed = []
arrival_in i packet Nothing = []
arrival_in i packet (Payload l) = record { pid = on_card i l.pid.0; packet = payload_of l packet } ∷ []

-- a payload of an input that there is
abbrev pub arrival_of : Given → List Arrival
arrival_of x = cond (ltb x.input 16) (arrival_in x.input x.packet (packet_of x.packet)) []

unfoldable pub arrivals : List Given → List Arrival
arrivals [] = []
arrivals (x ∷ xs) = arrival_of x ++ arrivals xs

-- ---- what is finished on PID number n: the sections that calls with its payloads told

abbrev pub on_it : ℕ → List Arrival → Bool
on_it n [] = false
on_it n (a ∷ as') = eqb n a.pid

unfoldable pub finished_by : ℕ → Card → List Given → List Bytes
finished_by n c [] = []
finished_by n c (x ∷ xs) = cond (on_it n (arrival_of x)) (tells c x).sections [] ++ finished_by n (acts c x) xs
