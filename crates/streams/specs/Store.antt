-- The PID words, four for each of 8,192 PIDs, and which section buffers they name, for every content.
-- `cond test a b` is a where the test is true, else b.
use Rattle.std.specs.Prelude.{Bool, true, false, cond, not, ◌&&◌, ◌||◌, List, ◌++◌, ℕ, zero, suc, ◌+◌, ◌-◌, ◌*◌, ◌≤◌, ◌<◌, leb, ltb, eqb, length, get_or, set, take, drop, replicate}
use Rattle.std.proofs.Math.Seq.{paste}
use Rattle.laws.specs.Bits.{bit, has_bit, add_bit, less}
use Rattle.answers.specs.Answers.{outcome_no}
use Rattle.section.specs.declared.ids.Pid.{Pid}
use Rattle.cells.specs.Cells.{lowest_free}
use Rattle.packet.specs.declared.Load.{Load}
use Rattle.assemble.specs.declared.Words.{Words}
use Rattle.assemble.specs.Store.{stepped_of, buffer_after, places_after, sections_in}
use Rattle.streams.specs.declared.Streams.{Streams}
use Rattle.streams.specs.declared.Opened.{Opened}

-- ---- opening

-- 1 to 8,192 buffers of 4,288 bytes, and the words of all PIDs
unfoldable pub are_enough : ℕ → ℕ → ℕ → Bool
are_enough count words bytes = leb 1 count && leb count 8192 && leb 32768 words && leb (count * 4288) bytes

-- the first n words are 0
unfoldable pub cleared : ℕ → List ℕ → List ℕ
cleared n pids = replicate n 0 ++ drop n pids

-- the number that opening answers, the streams, and the words as it leaves them
pub record Opening : Type 0 where
  pub answer : ℕ
  pub streams : Streams
  pub pids : List ℕ

abbrev pub opening : Opened → List ℕ → Opening
opening r pids = record { answer = outcome_no r.answer; streams = r.streams; pids = pids }

abbrev pub asked : ℕ → Streams
asked count = record { count = count; packets = 0; malformed = 0 }

-- 13 with the words as before, else 7. `bytes` is how many bytes are lent for the buffers: none is written
unfoldable pub opened_of : ℕ → List ℕ → ℕ → Opening
opened_of count pids bytes =
    cond (are_enough count (length pids) bytes)
    (record { answer = 7; streams = asked count; pids = cleared 32768 pids })
    (record { answer = 13; streams = asked count; pids = pids })

-- ---- the words of a PID

pub record InWords (pids : List ℕ) (pid : Pid) : Type 0 where
  pub long : 32768 ≤ length pids
  pub below : pid.0 < 8192

abbrev pub words_at : List ℕ → Pid → Words
words_at pids pid =
    record { number = get_or pids (pid.0 * 4) 0; counter = get_or pids (pid.0 * 4 + 1) 0; first = get_or pids (pid.0 * 4 + 2) 0; size = get_or pids (pid.0 * 4 + 3) 0 }

abbrev pub four : List ℕ → ℕ → ℕ → ℕ → ℕ → ℕ → List ℕ
four pids at a b c d = set (set (set (set pids at a) (at + 1) b) (at + 2) c) (at + 3) d

abbrev pub with_words : List ℕ → Pid → Words → List ℕ
with_words pids pid w = four pids (pid.0 * 4) w.number w.counter w.first w.size

-- a PID holds buffer b where its word 0 is b + 1 and b is below count; count stands for none
abbrev pub buffer_of : ℕ → ℕ → ℕ
buffer_of number count = cond (leb 1 number && leb number count) (number - 1) count

-- ---- the buffers that are free

-- the word 0 of one of the first n PIDs names buffer b
unfoldable pub is_named : List ℕ → ℕ → ℕ → Bool
is_named pids zero b = false
is_named pids (suc n) b = eqb (get_or pids (n * 4) 0) (b + 1) || is_named pids n b

-- the map with the buffer that a word 0 names
abbrev pub marked : ℕ → ℕ → List ℕ → List ℕ
marked number count map = cond (ltb (buffer_of number count) count) (add_bit map (buffer_of number count)) map

-- the map with each buffer that one of the first n PIDs names
unfoldable pub marked_to : List ℕ → ℕ → ℕ → List ℕ → List ℕ
marked_to pids count zero map = map
marked_to pids count (suc n) map = marked_to pids count n (marked (get_or pids (n * 4) 0) count map)

-- ---- PIDs that left

abbrev pub pid_back : List ℕ → ℕ → ℕ → List ℕ
pid_back pids p b = cond (eqb b 1) (four pids (p * 4) 0 0 0 0) pids

-- each of the first n PIDs that is in the set gives its buffer back: its four words are 0
unfoldable pub given_back : List ℕ → ℕ → List ℕ → List ℕ
given_back left zero pids = pids
given_back left (suc n) pids = given_back left n (cond (has_bit left n) (four pids (n * 4) 0 0 0 0) pids)

-- of two sets in the first 128 words each, the PIDs of the first that are not in the second
abbrev pub left_of : List ℕ → List ℕ → List ℕ
left_of before after = less (take 128 before) (take 128 after)

pub record TwoSets (pids before after : List ℕ) : Type 0 where
  pub long : 32768 ≤ length pids
  pub first : 128 ≤ length before
  pub second : 128 ≤ length after

-- the first n PIDs of word k of a set give their buffers back
unfoldable pub word_back : ℕ → ℕ → ℕ → List ℕ → List ℕ
word_back word k zero pids = pids
word_back word k (suc n) pids = word_back word k n (pid_back pids (k * 64 + n) (bit word n))

-- ---- a packet with a payload

-- buffer b of the lent bytes
abbrev pub buffer_at : List ℕ → ℕ → List ℕ
buffer_at buffers b = take 4288 (drop (b * 4288) buffers)

-- the buffer that PID p holds, or count
abbrev pub held_buffer : ℕ → List ℕ → ℕ → ℕ
held_buffer count pids p = buffer_of (get_or pids (p * 4) 0) count

-- whether PID p takes a buffer with its packet, and the buffer that this is read into: its own, else the lowest free, or count where none is
abbrev pub is_fresh : ℕ → List ℕ → ℕ → Bool
is_fresh count pids p = not (ltb (held_buffer count pids p) count)

abbrev pub used_buffer : ℕ → List ℕ → ℕ → ℕ
used_buffer count pids p = cond (is_fresh count pids p) (lowest_free (is_named pids 8192) count) (held_buffer count pids p)

-- the words of the PIDs, the buffers, the places and the sections finished, after a packet that is read into buffer b
abbrev pub pids_read : (b : ℕ) (fresh : Bool) → List ℕ → List ℕ → Load → List ℕ → List ℕ
pids_read b fresh pids buffers l packet = with_words pids l.pid (stepped_of fresh (words_at pids l.pid) (buffer_at buffers b) b l packet).words

abbrev pub buffers_read : (b : ℕ) (fresh : Bool) → List ℕ → List ℕ → Load → List ℕ → List ℕ
buffers_read b fresh pids buffers l packet = paste buffers (b * 4288) (buffer_after fresh (words_at pids l.pid) (buffer_at buffers b) l packet) 4288

abbrev pub places_read : (b : ℕ) (fresh : Bool) → List ℕ → List ℕ → Load → List ℕ → List ℕ → List ℕ
places_read b fresh pids buffers l packet places = places_after fresh (words_at pids l.pid) (buffer_at buffers b) b l packet places

abbrev pub count_read : (b : ℕ) (fresh : Bool) → List ℕ → List ℕ → Load → List ℕ → ℕ
count_read b fresh pids buffers l packet = (stepped_of fresh (words_at pids l.pid) (buffer_at buffers b) b l packet).count

abbrev pub sections_read : (b : ℕ) (fresh : Bool) → List ℕ → List ℕ → Load → List ℕ → List (List ℕ)
sections_read b fresh pids buffers l packet = sections_in fresh (words_at pids l.pid) (buffer_at buffers b) l packet
