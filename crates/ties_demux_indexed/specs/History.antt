-- Many calls on a card, one after another: packets, and sections that are offered between them; with an index and without. And of packets alone, what is finished on
-- a PID.
use Rattle.std.specs.Prelude.{cond, List, [], ◌∷◌, ◌++◌, ℕ}
use Rattle.section.specs.Facts.{Bytes as AllBytes}
use Rattle.transport.specs.Rules.{Bytes}
use Rattle.gate_state.specs.State.{Said}
use Rattle.ties_demux.specs.Card.{Card, Told, card_acts, card_tells}
use Rattle.ties_demux.specs.History.{Given, arrival_of, on_it}
use Rattle.ties_demux_indexed.specs.Card.{CardBy, feed_acts, feed_tells, offer_acts, offer_tells, plain_acts, plain_tells}

-- a call on an input
pub data Call : Type 0 where
  feeds : (input : ℕ) → (packet : Bytes) → Call
  offers : (input pid : ℕ) → (section : Bytes) → Call

-- what it tells
pub data Says : Type 0 where
  told : Told → Says
  said : Said → Says

abbrev pub OfCallBytes : List Call → Type 0
OfCallBytes [] = Unit {0}
OfCallBytes (feeds i packet ∷ xs) = AllBytes packet × OfCallBytes xs
OfCallBytes (offers i pid section ∷ xs) = AllBytes section × OfCallBytes xs

-- ---- without an index

unfoldable pub tells : Card → Call → Says
tells c (feeds i packet) = told (card_tells c i packet)
tells c (offers i pid section) = said (plain_tells c i pid section)

unfoldable pub acts : Card → Call → Card
acts c (feeds i packet) = card_acts c i packet
acts c (offers i pid section) = plain_acts c i pid section

-- ---- with an index

unfoldable pub tells_by : CardBy → Call → Says
tells_by c (feeds i packet) = told (feed_tells c i packet)
tells_by c (offers i pid section) = said (offer_tells c i pid section)

unfoldable pub acts_by : CardBy → Call → CardBy
acts_by c (feeds i packet) = feed_acts c i packet
acts_by c (offers i pid section) = offer_acts c i pid section

-- ---- packets alone

abbrev pub packet_tells : CardBy → Given → Told
packet_tells c x = feed_tells c x.input x.packet

abbrev pub packet_acts : CardBy → Given → CardBy
packet_acts c x = feed_acts c x.input x.packet

-- what is finished on PID number n: the sections that calls with its payloads told
unfoldable pub finished_with : ℕ → CardBy → List Given → List Bytes
finished_with n c [] = []
finished_with n c (x ∷ xs) = cond (on_it n (arrival_of x)) (packet_tells c x).sections [] ++ finished_with n (packet_acts c x) xs
