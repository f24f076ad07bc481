-- Which packets are passed over, and the words of the PIDs after them (docs/RULES.md, "Packets"). `cond test a b` is a where the test is true, else b.
use Rattle.std.specs.Prelude.{Bool, true, false, cond, not, List, ℕ, zero, suc, ◌+◌, ◌≤◌, length, take, drop}
use Rattle.laws.specs.Bits.{has_bit}
use Rattle.section.specs.declared.ids.Pid.{Pid}
use Rattle.packet.specs.declared.Packet.{Packet}
use Rattle.packet.specs.declared.Packet.TheVariants.{Malformed, Nothing, Payload}
use Rattle.packet.specs.Packets.{packet_of}
use Rattle.streams.specs.Store.{with_words}
use Rattle.demux_packets.specs.Plans.{no_words}

-- a PID that is not watched, and its words
abbrev pub pid_passes : (watched : List ℕ) → Pid → Bool
pid_passes watched pid = not (has_bit watched pid.0)

abbrev pub pids_without : (watched : List ℕ) → Pid → List ℕ → List ℕ
pids_without watched pid pids = cond (has_bit watched pid.0) pids (with_words pids pid no_words)

-- by what a packet says
unfoldable pub passes_as : (watched : List ℕ) → Packet → Bool
passes_as watched Malformed = false
passes_as watched Nothing = true
passes_as watched (Payload l) = pid_passes watched l.pid

unfoldable pub pids_as : (watched : List ℕ) → Packet → List ℕ → List ℕ
pids_as watched Malformed pids = pids
pids_as watched Nothing pids = pids
pids_as watched (Payload l) pids = pids_without watched l.pid pids

-- by its bytes
abbrev pub passes : (watched packet : List ℕ) → Bool
passes watched packet = passes_as watched (packet_of packet)

abbrev pub pids_after : (watched packet pids : List ℕ) → List ℕ
pids_after watched packet pids = pids_as watched (packet_of packet) pids

-- how many packets were passed over, and the words of the PIDs then
pub record Passed : Type 0 where
  pub number : ℕ
  pub pids : List ℕ

abbrev pub passed : ℕ → List ℕ → Passed
passed n pids = record { number = n; pids = pids }

abbrev pub more_by : ℕ → Passed → Passed
more_by n p = passed (n + p.number) p.pids

-- of the first `most` packets those before the first that is not passed over
unfoldable pub passed_from : (most : ℕ) → (watched packets pids : List ℕ) → Passed
passed_from zero watched packets pids = passed 0 pids
passed_from (suc k) watched packets pids =
    cond (passes watched (take 188 packets)) (more_by 1 (passed_from k watched (drop 188 packets) (pids_after watched (take 188 packets) pids))) (passed 0 pids)

-- ---- what the functions ask

pub record Looks (watched pids : List ℕ) : Type 0 where
  pub set : 128 ≤ length watched
  pub words : 32768 ≤ length pids
