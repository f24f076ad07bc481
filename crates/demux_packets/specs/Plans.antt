-- What a packet comes to, by the watched PIDs and the words of the PIDs, for every content (docs/RULES.md, "Packets").
-- `cond test a b` is a where the test is true, else b.
use Rattle.std.specs.Prelude.{◌≡◌, Bool, true, false, cond, List, ℕ, ◌+◌, ◌*◌, ◌≤◌, ◌<◌, ltb, length}
use Rattle.laws.specs.Bits.{has_bit}
use Rattle.packet.specs.declared.Load.{Load}
use Rattle.packet.specs.declared.Packet.{Packet}
use Rattle.packet.specs.declared.Packet.TheVariants as read
use Rattle.packet.specs.Packets.{packet_of, IsLoad}
use Rattle.assemble.specs.declared.Words.{Words}
use Rattle.streams.specs.Store.{is_fresh, used_buffer}
use Rattle.demux_packets.specs.declared.Reading.{Reading}
use Rattle.demux_packets.specs.declared.Plan.{Plan}
use Rattle.demux_packets.specs.declared.Plan.TheVariants.{Malformed, Nothing, Unwatched, NoBuffer, Read}

abbrev pub reading : Load → (number : ℕ) → (fresh : Bool) → Reading
reading l number fresh = record { load = l; number = number; fresh = fresh }

-- a payload of a watched PID: its own buffer, else the lowest that no PID holds, else 43
unfoldable pub buffer_plan : (count : ℕ) → (pids : List ℕ) → Load → Plan
buffer_plan count pids l =
    cond (ltb (used_buffer count pids l.pid.0) count) (Read (reading l (used_buffer count pids l.pid.0) (is_fresh count pids l.pid.0))) NoBuffer

-- a payload
unfoldable pub load_plan : (watched : List ℕ) → (count : ℕ) → (pids : List ℕ) → Load → Plan
load_plan watched count pids l = cond (has_bit watched l.pid.0) (buffer_plan count pids l) (Unwatched l.pid)

unfoldable pub packet_plan : (watched : List ℕ) → (count : ℕ) → (pids : List ℕ) → Packet → Plan
packet_plan watched count pids read.Malformed = Malformed
packet_plan watched count pids read.Nothing = Nothing
packet_plan watched count pids (read.Payload l) = load_plan watched count pids l

-- a packet, by its bytes
unfoldable pub plan_of : (watched : List ℕ) → (count : ℕ) → (pids packet : List ℕ) → Plan
plan_of watched count pids packet = packet_plan watched count pids (packet_of packet)

-- the words of a PID that holds nothing
abbrev pub no_words : Words
no_words = record { number = 0; counter = 0; first = 0; size = 0 }

-- ---- what the functions ask

pub record Lent (watched pids : List ℕ) (count : ℕ) : Type 0 where
  pub set : 128 ≤ length watched
  pub words : 32768 ≤ length pids
  pub few : count ≤ 8192

pub record Reads (pids buffers places : List ℕ) (r : Reading) (packet : List ℕ) : Type 0 where
  pub load : IsLoad r.load packet
  pub words : 32768 ≤ length pids
  pub few : r.number < 8192
  pub bytes : r.number * 4288 + 4288 ≤ length buffers
  pub listed : 384 ≤ length places
