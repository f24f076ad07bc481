-- What one payload does to a section buffer and to the places: the rules (transport/specs/Rules.antt) in the terms of lent memory.
-- `cond test a b` is a where the test is true, else b.
use Rattle.std.specs.Prelude.{◌≡◌, Bool, true, false, cond, ◌||◌, List, [], ◌∷◌, ◌++◌, ℕ, ◌+◌, ◌-◌, ◌*◌, ◌%◌, ◌≤◌, leb, ltb, length, take, drop, get_or, set}
use Rattle.transport.specs.Rules.{Bytes, Read, gather, lacking}
use Rattle.payload.specs.declared.Span.{Span}
use Rattle.payload.specs.declared.Parts.{Parts}
use Rattle.payload.specs.declared.Gone.{Gone}
use Rattle.payload.specs.declared.Begun.{Begun}

-- ---- a section's length

-- all bytes of a section whose second and third bytes are these: section_length counts those behind the third
abbrev pub total_of : ℕ → ℕ → ℕ
total_of high low = 3 + high % 16 * 256 + low

-- how long the section is that stands whole at the front of the bytes, 0 where none does
unfoldable pub end_of : Bytes → ℕ
end_of x =
    let total : ℕ = total_of (get_or x 1 0) (get_or x 2 0) in
    cond (ltb (length x) 3 || ltb (length x) total) 0 total

-- ---- the buffer

-- the buffer with its front replaced
unfoldable pub front : Bytes → Bytes → Bytes
front w buffer = w ++ drop (length w) buffer

abbrev pub bytes_of : Bytes → Span → Bytes
bytes_of buffer s = take s.size (drop s.first buffer)

abbrev pub first_of : List Bytes → Bytes
first_of [] = []
first_of (s ∷ ss) = s

-- the section of which u was under way, where the part finishes it, else []
abbrev pub ended_of : Bytes → Bytes → Bytes
ended_of u part = first_of (gather false u part).sections

-- its bytes that are under way then; behind a start there are none: it is dropped
abbrev pub going_of : Bool → Bytes → Bytes → Bytes
going_of start u part = cond start [] (gather false u part).under

abbrev pub gone_of : Bool → Bytes → Bytes → Gone
gone_of start u part = record { ended = length (ended_of u part); under = length (going_of start u part) }

-- bytes under way lie in the buffer, are no whole section yet, and there is room for the part behind them
pub record Lies (buffer : Bytes) (under : Span) (part : Bytes) : Type 0 where
  pub inside : under.first + under.size ≤ length buffer
  pub lacks : lacking (bytes_of buffer under) ≡ true
  pub room : under.size + length part ≤ length buffer

pub record Joins (buffer : Bytes) (first size more : ℕ) : Type 0 where
  pub inside : first + size ≤ length buffer
  pub room : size + more ≤ length buffer

-- ---- the packet

abbrev pub parts : ℕ → ℕ → ℕ → Parts
parts from to begin = record { from = from; to = to; begin = begin }

-- which bytes of a packet belong to the section under way, and where sections begin: behind as many bytes as pointer_field counts. Without a start all
-- belong to the section under way; with a pointer past the end, or none, nothing is read
unfoldable pub parts_of : Bytes → Bool → ℕ → Parts
parts_of packet start from =
    let end : ℕ = length packet in
    let begin : ℕ = from + 1 + get_or packet from 0 in
    cond start (cond (leb begin end) (parts (from + 1) begin begin) (parts end end end)) (parts from end end)

-- the bytes that belong to the section under way
abbrev pub part_of : Bytes → Parts → Bytes
part_of packet p = take (p.to - p.from) (drop p.from packet)

-- ---- the places: 6 words each, of which 3 to 5 tell where a finished section's bytes are (0 in the packet, 1 in the buffers), the first there, how many

abbrev pub placed : List ℕ → ℕ → ℕ → ℕ → ℕ → List ℕ
placed places k whence first size = set (set (set places (k * 6 + 3) whence) (k * 6 + 4) first) (k * 6 + 5) size

-- sections one behind another in the packet, the first of them at `at`, told from place k on
unfoldable pub told_from : List ℕ → ℕ → ℕ → List Bytes → List ℕ
told_from places k at [] = places
told_from places k at (s ∷ ss) = told_from (placed places k 0 at (length s)) (k + 1) (at + length s) ss

abbrev pub begun_of : ℕ → Read → Begun
begun_of count r = record { count = count + length r.sections; under = length r.under }

-- a place for each 3 bytes of the packet from `begin` on: no section is shorter
pub record HasPlaces (packet : Bytes) (begin : ℕ) (places : List ℕ) (count : ℕ) : Type 0 where
  pub inside : begin ≤ length packet
  pub enough : count * 6 + (length packet - begin) * 2 ≤ length places
