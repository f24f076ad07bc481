-- The words of a PID and its section buffer: the state of the rules (transport/specs/Rules.antt) that they stand for, whatever they hold, and what a
-- packet leaves in them. `cond test a b` is a where the test is true, else b.
use Rattle.std.specs.Prelude.{◌≡◌, Bool, true, false, cond, not, ◌&&◌, List, [], ◌∷◌, ◌++◌, ℕ, ◌+◌, ◌*◌, ◌%◌, ◌≤◌, ◌<◌, leb, ltb, eqb, length, take, drop, get_or}
use Rattle.std.proofs.Math.Option.{none, some}
use Rattle.transport.specs.Rules.{Bytes, gather, lacking, Packet, State, opened}
use Rattle.packet.specs.declared.Load.{Load}
use Rattle.payload.specs.declared.Span.{Span}
use Rattle.payload.specs.declared.Parts.{Parts}
use Rattle.payload.specs.Payload.{front, bytes_of, ended_of, going_of, parts_of, part_of, placed, told_from}
use Rattle.assemble.specs.declared.Words.{Words}
use Rattle.assemble.specs.declared.Taken.{Taken}
use Rattle.assemble.specs.declared.Stepped.{Stepped}

-- ---- what the words stand for

abbrev pub span : ℕ → ℕ → Span
span first size = record { first = first; size = size }

-- the bytes under way: those that words 2 and 3 name, where they lie in the buffer and are no whole section yet
unfoldable pub span_in : Words → Bytes → Span
span_in w buffer =
    cond (leb w.size 4097 && leb (w.first + w.size) 4288 && lacking (take w.size (drop w.first buffer))) (span w.first w.size) (span 0 0)

abbrev pub under_in : Words → Bytes → Bytes
under_in w buffer = bytes_of buffer (span_in w buffer)

-- fresh: the PID takes its buffer with this packet, and its words say nothing. Word 1 is read modulo 32
unfoldable pub state_in : Bool → Words → Bytes → State
state_in true w buffer = opened
state_in false w buffer = record { last = some (w.counter % 16); again = not (ltb (w.counter % 32) 16); under = under_in w buffer }

abbrev pub is_repeat : Bool → ℕ → ℕ → Bool
is_repeat fresh last c = not fresh && eqb c (last % 16) && ltb (last % 32) 16

abbrev pub follows_on : Bool → ℕ → ℕ → Bool
follows_on fresh last c = not fresh && eqb c ((last % 16 + 1) % 16)

-- the bytes that a packet with counter c goes on with
unfoldable pub span_by : Bool → Words → Bytes → ℕ → Span
span_by fresh w buffer c = cond (follows_on fresh w.counter c) (span_in w buffer) (span 0 0)

-- the packet as the rules have it
abbrev pub payload_of : Load → Bytes → Packet
payload_of l packet = record { counter = l.counter; start = l.start; payload = drop l.from packet }

-- ---- what a payload gives

-- ended: the section that was under way, where it is finished, else []; begun: those that begin in the packet and end in it, one behind another from
-- `at` on; under: the bytes of the section that is under way then
pub record Reading : Type 0 where
  pub ended : Bytes
  pub begun : List Bytes
  pub at : ℕ
  pub under : Bytes

-- without a start none begins, with one the section that was under way goes no further: one of the two that make up `under` is []
abbrev pub reading_in : Bytes → Bool → Bytes → Parts → Reading
reading_in u start packet p =
    record {
      ended = ended_of u (part_of packet p);
      begun = (gather true [] (drop p.begin packet)).sections;
      at = p.begin;
      under = going_of start u (part_of packet p) ++ (gather true [] (drop p.begin packet)).under;
    }

-- the payload of a packet, u being the bytes under way
unfoldable pub reading : Bytes → Load → Bytes → Reading
reading u l packet = reading_in u l.start packet (parts_of packet l.start l.from)

abbrev pub unless_none : Bytes → List Bytes
unless_none [] = []
unless_none (b ∷ bs) = (b ∷ bs) ∷ []

-- the sections that it finishes, in order
abbrev pub sections_of : Reading → List Bytes
sections_of r = unless_none r.ended ++ r.begun

abbrev pub ended_count : ℕ → ℕ
ended_count size = cond (eqb size 0) 0 1

abbrev pub taken_of : Reading → Taken
taken_of r = record { ended = length r.ended; under = length r.under; count = ended_count (length r.ended) + length r.begun }

-- ---- what is left

-- the section that was under way stands at the front of its buffer
abbrev pub ended_told : List ℕ → ℕ → ℕ → List ℕ
ended_told places number size = cond (eqb size 0) places (placed places 0 1 (number * 4288) size)

-- every other lies in the packet
abbrev pub places_of : List ℕ → ℕ → Reading → List ℕ
places_of places number r = told_from (ended_told places number (length r.ended)) (ended_count (length r.ended)) r.at r.begun

abbrev pub words_of : ℕ → ℕ → Taken → Words
words_of number c t = record { number = number + 1; counter = c; first = t.ended; size = t.under }

-- a repeat: the counter and 16, the other three stay
abbrev pub marked : Words → ℕ → Words
marked w c = record { number = w.number; counter = c + 16; first = w.first; size = w.size }

abbrev pub repeated : Words → ℕ → Stepped
repeated w c = record { words = marked w c; count = 0 }

abbrev pub moved : ℕ → ℕ → Taken → Stepped
moved number c t = record { words = words_of number c t; count = t.count }

-- what a packet gives that is no repeat
abbrev pub read_by : Bool → Words → Bytes → Load → Bytes → Reading
read_by fresh w buffer l packet = reading (bytes_of buffer (span_by fresh w buffer l.counter)) l packet

-- the PID's words and how many sections were finished
unfoldable pub stepped_of : Bool → Words → Bytes → ℕ → Load → Bytes → Stepped
stepped_of fresh w buffer number l packet =
    cond (is_repeat fresh w.counter l.counter) (repeated w l.counter) (moved number l.counter (taken_of (read_by fresh w buffer l packet)))

-- the buffer's front is replaced by the section that was under way and is finished, and the bytes under way then
unfoldable pub buffer_after : Bool → Words → Bytes → Load → Bytes → Bytes
buffer_after fresh w buffer l packet =
    let r : Reading = read_by fresh w buffer l packet in
    cond (is_repeat fresh w.counter l.counter) buffer (front (r.ended ++ r.under) buffer)

unfoldable pub places_after : Bool → Words → Bytes → ℕ → Load → Bytes → List ℕ → List ℕ
places_after fresh w buffer number l packet places = cond (is_repeat fresh w.counter l.counter) places (places_of places number (read_by fresh w buffer l packet))

-- the sections that a packet finishes
unfoldable pub sections_in : Bool → Words → Bytes → Load → Bytes → List Bytes
sections_in fresh w buffer l packet = cond (is_repeat fresh w.counter l.counter) [] (sections_of (read_by fresh w buffer l packet))

-- the bytes that place k names, in the packet or in the buffers
abbrev pub told_at : Bytes → Bytes → List ℕ → ℕ → Bytes
told_at packet buffers places k =
    take (get_or places (k * 6 + 5) 0) (drop (get_or places (k * 6 + 4) 0) (cond (eqb (get_or places (k * 6 + 3) 0) 0) packet buffers))

-- ---- what the functions ask

pub record Fits (buffer : Bytes) (number : ℕ) (l : Load) (packet : Bytes) (places : List ℕ) : Type 0 where
  pub room : length buffer ≡ 4288
  pub numbered : number < 8192
  pub counted : l.counter < 16
  pub headed : 4 ≤ l.from
  pub inside : l.from ≤ 188
  pub long : length packet ≡ 188
  pub listed : 384 ≤ length places

-- the same, and the bytes under way lie in the buffer
pub record Reads (buffer : Bytes) (number : ℕ) (under : Span) (l : Load) (packet : Bytes) (places : List ℕ) : Type 0 where
  pub room : length buffer ≡ 4288
  pub numbered : number < 8192
  pub within : under.first + under.size ≤ 4288
  pub small : under.size ≤ 4097
  pub lacks : lacking (bytes_of buffer under) ≡ true
  pub inside : l.from ≤ 188
  pub long : length packet ≡ 188
  pub listed : 384 ≤ length places

pub record HasFirst (places : List ℕ) (number : ℕ) : Type 0 where
  pub listed : 6 ≤ length places
  pub numbered : number < 8192
