-- The packets of a card without memory (docs/RULES.md, "Packets" and "Inputs"; ISO/IEC 13818-1, 2.4.3.2 to 2.4.4): which PIDs of which input hold a buffer and with
-- which state, and what is counted on each input. Open in the gate: what it keeps (W), which PIDs it watches, what it answers to a section of a PID and what it
-- keeps then, and whether one of its counters is near its end. On a card PID p of input i has the number i * 8192 + p.
-- `cond test a b` is a where the test is true, else b.
use Rattle.std.specs.Prelude.{Bool, cond, ◌||◌, List, [], ◌∷◌, ℕ, ◌+◌, ◌*◌, ◌/◌, eqb, ltb, length}
use Rattle.std.proofs.Math.Option.{Option, none, some}
use Rattle.packet.specs.declared.Load.{Load}
use Rattle.packet.specs.declared.Packet.{Packet}
use Rattle.packet.specs.declared.Packet.TheVariants.{Malformed, Nothing, Payload}
use Rattle.packet.specs.Packets.{packet_of}
use Rattle.transport.specs.Rules.{Bytes}
use Rattle.transport.specs.Receiver.{Stream, HeldOf, FedOf, taking, feeds}
use Rattle.transport.specs.Receiver as transport
use Rattle.assemble.specs.Store.{payload_of}
use Rattle.streams.specs.declared.Streams.{Streams}
use Rattle.ties_streams.specs.View.{lowest_of}
use Rattle.gate_state.specs.State.{Said}
use Rattle.demux_state.specs.State.{plain, finished, is_near, packet_counted, malformed_counted}
use Rattle.demux_state.specs.State as feeding

abbrev pub on_card : (input pid : ℕ) → ℕ
on_card i p = i * 8192 + p

-- what is held, and of each input how many buffers it has and what was counted
pub record Held (W : Type 0) : Type 0 where
  pub held : HeldOf W
  pub counts : (input : ℕ) → Streams

-- what a packet is answered, the sections that it finished, the gate's answer to each, and what is held then
pub record Fed (W : Type 0) : Type 0 where
  pub answer : feeding.Said
  pub sections : List Bytes
  pub answers : List Said
  pub then : Held W

-- the lowest number of a buffer of its input that no PID of that input holds
abbrev pub free_in : ((input : ℕ) → Streams) → transport.Streams → ℕ → Option ℕ
free_in counts f n = lowest_of (counts (n / 8192)).count (λ q. f (n / 8192 * 8192 + q))

abbrev pub counts_with : (input : ℕ) → Streams → ((input : ℕ) → Streams) → (input : ℕ) → Streams
counts_with i s counts j = cond (eqb j i) s (counts j)

-- 43 where the PID needs a buffer and none is free
abbrev pub numbered : Option Stream → List Bytes → feeding.Said
numbered none ss = plain 43
numbered (some s) ss = finished (length ss)

module _ {W : Type 0} (watched : W → ℕ → Bool) (tells : W → ℕ → Bytes → Said) (acts : W → ℕ → Bytes → W) (gate_near : W → Bool) (pats_near : W → (input : ℕ) → Bool) where
  -- the gate's answers to the sections of a packet of PID n, one after another
  unfoldable pub answers_in : ℕ → List Bytes → W → List Said
  answers_in n [] w = []
  answers_in n (s ∷ ss) w = tells w n s ∷ answers_in n ss (acts w n s)

  -- a payload: the watch is asked once
  abbrev pub payload_fed : Held W → (input : ℕ) → Load → Bytes → Fed W
  payload_fed h i l packet =
      let n : ℕ = on_card i l.pid.0 in
      let x : FedOf W = feeds watched acts (free_in h.counts) h.held n (payload_of l packet) in
      record {
        answer = cond (watched h.held.world n) (numbered (taking (h.held.streams n) (free_in h.counts h.held.streams n)) x.sections) (finished 0);
        sections = x.sections;
        answers = answers_in n x.sections h.held.world;
        then = record { held = x.held; counts = counts_with i (packet_counted (h.counts i)) h.counts };
      }

  abbrev pub only_counted : Held W → (input : ℕ) → feeding.Said → Streams → Fed W
  only_counted h i answer s = record { answer = answer; sections = []; answers = []; then = record { held = h.held; counts = counts_with i s h.counts } }

  unfoldable pub packet_fed : Held W → (input : ℕ) → Bytes → Packet → Fed W
  packet_fed h i packet Malformed = only_counted h i (plain 30) (malformed_counted (h.counts i))
  packet_fed h i packet Nothing = only_counted h i (finished 0) (packet_counted (h.counts i))
  packet_fed h i packet (Payload l) = payload_fed h i l packet

  abbrev pub refused : Held W → ℕ → Fed W
  refused h number = record { answer = plain number; sections = []; answers = []; then = h }

  -- 11: a counter of the gate, one of the input's two, or the PAT store's of the input is within 64 of its end
  abbrev pub near_in : Held W → (input : ℕ) → Bool
  near_in h i = gate_near h.held.world || is_near (h.counts i).packets || is_near (h.counts i).malformed || pats_near h.held.world i

  -- a packet on an input: 11, 37, then 30, 43 or 29
  unfoldable pub fed_by : Held W → (input : ℕ) → Bytes → Fed W
  fed_by h i packet = cond (near_in h i) (refused h 11) (cond (ltb i 16) (packet_fed h i packet (packet_of packet)) (refused h 37))
