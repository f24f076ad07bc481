-- All PIDs of a stream: which hold a buffer, and with which state. Open in what the gate keeps (W), in what it watches and in what offering a section does to it,
-- and in which buffer is free.
-- Assumes nothing.
use Rattle.std.specs.Prelude.{◌≡◌, Bool, true, false, cond, ◌&&◌, ◌||◌, not, List, [], ◌∷◌, ◌++◌, ℕ, eqb}
use Rattle.std.proofs.Math.Option.{Option, none, some}
use Rattle.transport.specs.Rules.{Bytes, Packet, State, Step, step, opened}

-- a PID that holds a buffer
pub record Stream : Type 0 where
  pub buffer : ℕ
  pub state : State

abbrev pub Streams : Type 0
Streams = ℕ → Option Stream

pub record HeldOf (W : Type 0) : Type 0 where
  pub streams : Streams
  pub world : W

-- what a packet finished, and what is held then
pub record FedOf (W : Type 0) : Type 0 where
  pub sections : List Bytes
  pub held : HeldOf W

-- a packet with a payload, on a PID
pub record Arrival : Type 0 where
  pub pid : ℕ
  pub packet : Packet

abbrev pub held : {W : Type 0} → Streams → W → HeldOf W
held f w = record { streams = f; world = w }

abbrev pub stream : ℕ → State → Stream
stream b s = record { buffer = b; state = s }

abbrev pub with_stream : ℕ → Option Stream → Streams → Streams
with_stream p s f q = cond (eqb q p) s (f q)

-- who was watched and is not any more gives its buffer back, section dropped
abbrev pub leaving : (before after : ℕ → Bool) → Streams → Streams
leaving before after f q = cond (before q && not (after q)) none (f q)

-- the stream that a payload goes to: the PID's own, or a new one where a buffer is free; none: 43
abbrev pub taking : Option Stream → Option ℕ → Option Stream
taking (some s) b = some s
taking none (some b) = some (stream b opened)
taking none none = none

module _ {W : Type 0} (watched : W → ℕ → Bool) (offer : W → ℕ → Bytes → W) (free : Streams → ℕ → Option ℕ) where
  -- the sections that a packet of PID p finished, one after another
  unfoldable pub offers_in : ℕ → List Bytes → HeldOf W → HeldOf W
  offers_in p [] h = h
  offers_in p (s ∷ ss) h = offers_in p ss (held (leaving (watched h.world) (watched (offer h.world p s)) h.streams) (offer h.world p s))

  -- some section of these takes PID q off the watch
  unfoldable pub leaves_in : ℕ → List Bytes → W → ℕ → Bool
  leaves_in p [] w q = false
  leaves_in p (s ∷ ss) w q = (watched w q && not (watched (offer w p s) q)) || leaves_in p ss (offer w p s) q

  unfoldable pub feeds_to : HeldOf W → ℕ → Packet → Option Stream → FedOf W
  feeds_to h p k none = record { sections = []; held = h }
  feeds_to h p k (some s) =
      record {
        sections = (step s.state k).sections;
        held = offers_in p (step s.state k).sections (held (with_stream p (some (stream s.buffer (step s.state k).state)) h.streams) h.world);
      }

  -- the watch is asked once. A PID that is not watched holds nothing: one that left the watch otherwise gives its buffer back with its next packet
  unfoldable pub feeds : HeldOf W → ℕ → Packet → FedOf W
  feeds h p k =
      cond (watched h.world p) (feeds_to h p k (taking (h.streams p) (free h.streams p)))
      (record { sections = []; held = held (with_stream p none h.streams) h.world })

  -- what the packets of PID p finish among all
  unfoldable pub finished_on : ℕ → HeldOf W → List Arrival → List Bytes
  finished_on p h [] = []
  finished_on p h (x ∷ T) = cond (eqb p x.pid) (feeds h x.pid x.packet).sections [] ++ finished_on p (feeds h x.pid x.packet).held T

-- the packets of PID p
unfoldable pub on_pid : ℕ → List Arrival → List Packet
on_pid p [] = []
on_pid p (x ∷ T) = cond (eqb p x.pid) (x.packet ∷ on_pid p T) (on_pid p T)

-- each of the sections is one of these
pub data In (s : Bytes) : List Bytes → Type 0 where
  here : {xs : List Bytes} → In s (s ∷ xs)
  there : {x : Bytes} {xs : List Bytes} → In s xs → In s (x ∷ xs)

pub data AllIn (ys : List Bytes) : List Bytes → Type 0 where
  no_more : AllIn ys []
  and_this : {x : Bytes} {xs : List Bytes} → In x ys → AllIn ys xs → AllIn ys (x ∷ xs)
