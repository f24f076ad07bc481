-- Packets over small buffers, computed.
-- Assumes nothing.
use mathlib.Core.Path.{◌≡◌, refl}
use mathlib.Core.Bool.{Bool, true, false}
use mathlib.Core.List.{List, [], ◌∷◌}
use Prim.Native.Nat.{ℕ}
use Rattle.transport.specs.Rules.{Bytes, gather, whole, lacking, stops}
use Rattle.packet.specs.declared.Load.{Load}
use Rattle.payload.specs.Payload.{front, parts_of, told_from}
use Rattle.assemble.specs.declared.Words.{Words}
use Rattle.assemble.specs.declared.Stepped.{Stepped}
use Rattle.assemble.specs.Store.{span_in, span_by, reading, stepped_of, buffer_after, places_after, sections_in}

-- what a packet leaves: the words of its PID, which holds buffer 1, and how many sections it finished; the buffer; the places; the sections
record Left : Type 0 where
  words : Stepped
  buffer : Bytes
  places : List ℕ
  sections : List Bytes

abbrev words : ℕ → ℕ → ℕ → Words
words counter first size = record { number = 2; counter = counter; first = first; size = size }

abbrev stepped : Words → ℕ → Stepped
stepped w n = record { words = w; count = n }

abbrev load : Bool → ℕ → Load
load start counter = record { pid = record { 0 = 17 }; start = start; counter = counter; from = 0 }

left_by : Words → Bytes → Load → Bytes → List ℕ → Left
unfolding span_in span_by reading stepped_of buffer_after places_after sections_in front parts_of told_from gather whole lacking stops
left_by w buffer l packet places = record {
  words = stepped_of false w buffer 1 l packet;
  buffer = buffer_after false w buffer l packet;
  places = places_after false w buffer 1 l packet places;
  sections = sections_in false w buffer l packet;
}

abbrev empty : List ℕ
empty = 9 ∷ 9 ∷ 9 ∷ 9 ∷ 9 ∷ 9 ∷ 9 ∷ 9 ∷ 9 ∷ 9 ∷ 9 ∷ 9 ∷ []

abbrev buffer : Bytes
buffer = 0 ∷ 0 ∷ 66 ∷ 176 ∷ 0 ∷ 0 ∷ 0 ∷ 0 ∷ []

-- pointer_field 3: the end of the section of which two bytes are under way, a whole section, the beginning of a third
abbrev packet : Bytes
packet = 3 ∷ 2 ∷ 7 ∷ 8 ∷ 78 ∷ 0 ∷ 1 ∷ 5 ∷ 80 ∷ 1 ∷ []

-- it follows: the finished section stands at the buffer's front, the beginning of the third behind it
follows_on_lem : left_by (words 3 2 2) buffer (load true 4) packet empty ≡ record {
  words = stepped (words 4 5 2) 2;
  buffer = 66 ∷ 176 ∷ 2 ∷ 7 ∷ 8 ∷ 80 ∷ 1 ∷ 0 ∷ [];
  places = 9 ∷ 9 ∷ 9 ∷ 1 ∷ 4288 ∷ 5 ∷ 9 ∷ 9 ∷ 9 ∷ 0 ∷ 4 ∷ 4 ∷ [];
  sections = (66 ∷ 176 ∷ 2 ∷ 7 ∷ 8 ∷ []) ∷ (78 ∷ 0 ∷ 1 ∷ 5 ∷ []) ∷ [];
}
unfolding left_by
follows_on_lem = refl

-- it jumps: the section under way is dropped, and nothing of it is written
jumps : left_by (words 3 2 2) buffer (load true 6) packet empty ≡ record {
  words = stepped (words 6 0 2) 1;
  buffer = 80 ∷ 1 ∷ 66 ∷ 176 ∷ 0 ∷ 0 ∷ 0 ∷ 0 ∷ [];
  places = 9 ∷ 9 ∷ 9 ∷ 0 ∷ 4 ∷ 4 ∷ 9 ∷ 9 ∷ 9 ∷ 9 ∷ 9 ∷ 9 ∷ [];
  sections = (78 ∷ 0 ∷ 1 ∷ 5 ∷ []) ∷ [];
}
unfolding left_by
jumps = refl

-- it is repeated: marked, and nothing else
repeats : left_by (words 3 2 2) buffer (load true 3) packet empty ≡ record { words = stepped (words 19 2 2) 0; buffer = buffer; places = empty; sections = [] }
unfolding left_by
repeats = refl

-- a third copy is a jump
third : left_by (words 19 2 2) buffer (load true 3) packet empty ≡ left_by (words 2 0 0) buffer (load true 3) packet empty
unfolding left_by
third = refl

-- without a start the bytes under way go to the front, and those of the packet behind them
goes_on_lem : left_by (words 3 2 2) buffer (load false 4) (5 ∷ 1 ∷ 2 ∷ []) empty ≡ record { words = stepped (words 4 0 5) 0; buffer = 66 ∷ 176 ∷ 5 ∷ 1 ∷ 2 ∷ 0 ∷ 0 ∷ 0 ∷ []; places = empty; sections = [] }
unfolding left_by
goes_on_lem = refl

-- words that name a whole section name nothing: damage costs a section, and no more
damaged : left_by (words 3 2 3) (0 ∷ 0 ∷ 66 ∷ 176 ∷ 0 ∷ 0 ∷ []) (load false 4) (5 ∷ []) empty ≡ record { words = stepped (words 4 0 0) 0; buffer = 0 ∷ 0 ∷ 66 ∷ 176 ∷ 0 ∷ 0 ∷ []; places = empty; sections = [] }
unfolding left_by
damaged = refl
