-- The streams of the rules that PID words and section buffers stand for, for every content. `cond test a b` is a where the test is true, else b.
use Rattle.std.specs.Prelude.{◌≡◌, Bool, true, false, cond, not, ◌&&◌, ◌||◌, List, ℕ, zero, suc, ◌+◌, ◌*◌, ◌≤◌, ◌<◌, ltb, eqb, length, take, drop, get_or}
use Rattle.std.proofs.Math.Option.{Option, none, some}
use Rattle.std.proofs.Math.Seq.{paste}
use Rattle.cells.specs.Cells.{lowest_free}
use Rattle.packet.specs.declared.Load.{Load}
use Rattle.transport.specs.Receiver.{Stream, Streams, stream}
use Rattle.assemble.specs.declared.Words.{Words}
use Rattle.assemble.specs.Store.{state_in}
use Rattle.streams.specs.Store.{is_named, buffer_at, held_buffer, is_fresh, used_buffer, pids_read, buffers_read, sections_read}

-- the four words of PID p
abbrev pub words_at : List ℕ → ℕ → Words
words_at pids p = record { number = get_or pids (p * 4) 0; counter = get_or pids (p * 4 + 1) 0; first = get_or pids (p * 4 + 2) 0; size = get_or pids (p * 4 + 3) 0 }

abbrev pub held_with : ℕ → ℕ → ℕ → Words → List ℕ → Option Stream
held_with count p b w buffer = cond (ltb p 8192 && ltb b count) (some (stream b (state_in false w buffer))) none

-- what each PID holds: a buffer, and the state that its words and that buffer stand for
unfoldable pub held_by : ℕ → List ℕ → List ℕ → Streams
held_by count pids buffers p = held_with count p (held_buffer count pids p) (words_at pids p) (buffer_at buffers (held_buffer count pids p))

-- ---- the buffers that are free, by the rules

abbrev pub holds_it : Option Stream → ℕ → Bool
holds_it none b = false
holds_it (some s) b = eqb s.buffer b

-- one of the first n PIDs holds buffer b
unfoldable pub is_held : Streams → ℕ → ℕ → Bool
is_held f zero b = false
is_held f (suc n) b = holds_it (f n) b || is_held f n b

abbrev pub below : ℕ → ℕ → Option ℕ
below count b = cond (ltb b count) (some b) none

-- the lowest buffer below count that no PID holds
unfoldable pub lowest_of : ℕ → Streams → Option ℕ
lowest_of count f = below count (lowest_free (is_held f 8192) count)

-- ---- a packet

-- the PID words, the buffers and the sections after a packet with a payload
abbrev pub pids_after : ℕ → List ℕ → List ℕ → Load → List ℕ → List ℕ
pids_after count pids buffers l packet = pids_read (used_buffer count pids l.pid.0) (is_fresh count pids l.pid.0) pids buffers l packet

abbrev pub buffers_after : ℕ → List ℕ → List ℕ → Load → List ℕ → List ℕ
buffers_after count pids buffers l packet = buffers_read (used_buffer count pids l.pid.0) (is_fresh count pids l.pid.0) pids buffers l packet

abbrev pub sections_from : ℕ → List ℕ → List ℕ → Load → List ℕ → List (List ℕ)
sections_from count pids buffers l packet = sections_read (used_buffer count pids l.pid.0) (is_fresh count pids l.pid.0) pids buffers l packet

-- ---- what is lent, and what every history has

pub record Lent (count : ℕ) (pids buffers : List ℕ) : Type 0 where
  pub few : count ≤ 8192
  pub words : 32768 ≤ length pids
  pub bytes : count * 4288 ≤ length buffers

-- no two PIDs hold one buffer
abbrev pub Apart : ℕ → List ℕ → Type 0
Apart count pids = (p q : ℕ) → p < 8192 → q < 8192 → held_buffer count pids p < count → held_buffer count pids q ≡ held_buffer count pids p → q ≡ p
