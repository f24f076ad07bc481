-- What every history has, and what it never has: 10; and that a call on one input changes nothing of another.
-- Assumes nothing.
use mathlib.Core.Path.{◌≡◌, refl, sym, ap, subst, ◌∙◌}
use mathlib.Core.Logic.{◌≢◌}
use mathlib.Core.Bool.{Bool, true, false, cond, ◌&&◌, true≢false}
use mathlib.Core.Option.{Option, none, some}
use mathlib.Core.List.{List, []}
use Prim.Native.Nat.{ℕ, ◌+◌, ◌*◌, ◌<◌}
use native.Mathlib.Omega.{arith}
use lib.Dec.{eqb, ltb}
use lib.ListN.{length, get_or}
use borrow.Author.Tests.{ne_eqb, ltb-true}
use Rattle.laws.proofs.Tests.{none≢some}
use Rattle.laws.specs.Runs.{store_after}
use Rattle.laws.specs.Bits.{has_bit}
use Rattle.section.specs.Facts.{Bytes as AllBytes}
use Rattle.packet.specs.declared.Packet.{Packet as Read}
use Rattle.packet.specs.declared.Packet.TheVariants.{Malformed, Nothing, Payload}
use Rattle.packet.specs.Packets.{packet_of}
use Rattle.transport.specs.Rules.{Bytes, lacking}
use Rattle.transport.specs.Receiver.{Stream, stream, taking, FedOf, feeds}
use Rattle.assemble.specs.declared.Words.{Words}
use Rattle.assemble.specs.Store.{state_in, payload_of}
use Rattle.assemble.proofs.Laws.{span_in_lem}
use Rattle.gate_state.specs.declared.Settings.{Settings}
use Rattle.streams.specs.Store.{buffer_at, held_buffer}
use Rattle.ties_streams.specs.View.{words_at, held_with, held_by}
use Rattle.demux_state.specs.State.{Said, plain, finished}
use Rattle.ties_demux.specs.Rules.{on_card, Held, Fed, free_in, numbered, packet_fed, refused, near_in, fed_by}
use Rattle.ties_demux.specs.Card.{Gates, Input, Card, watched_on, tells_on, acts_on, gate_near, pats_near, Told, card_acts, shown_of, shown_by, Stands, AllStand}
use Rattle.ties_demux.specs.History.{Given, OfBytes, tells, acts, ruled}
use Rattle.ties_demux.specs.Opened.{OpenedCard}
use Rattle.ties_demux.proofs.Numbers.{its_input, its_pid}
use Rattle.ties_demux.proofs.History.{call_tells_lem, always_stand}
use Rattle.ties_demux.proofs.Opening.{opened_stands}

-- ---- a PID that holds a buffer

record Holds (count : ℕ) (pids buffers : List ℕ) (p : ℕ) (x : Stream) : Type 0 where
  pub below : held_buffer count pids p < count
  pub is : x ≡ stream (held_buffer count pids p) (state_in false (words_at pids p) (buffer_at buffers (held_buffer count pids p)))

holds : (count : ℕ) (pids buffers : List ℕ) (p : ℕ) (x : Stream) → held_by count pids buffers p ≡ some x → Holds count pids buffers p x
unfolding held_by
holds count pids buffers p x = go (ltb p 8192) (ltb (held_buffer count pids p) count) refl
  where
    s : Stream
    s = stream (held_buffer count pids p) (state_in false (words_at pids p) (buffer_at buffers (held_buffer count pids p)))

    go : (a b : Bool) → ltb (held_buffer count pids p) count ≡ b → cond (a && b) (some s) none ≡ some x → Holds count pids buffers p x
    go true true e q = record { below = ltb-true _ _ e; is = cc }
    go true false e q = absurd (none≢some refl q)
    go false b e q = absurd (none≢some refl q)

-- it is watched, its buffer is one that was lent and no other PID of the input holds it, and its bytes under way are no whole section
pub record HoldsWell (c : Card) (i p : ℕ) (x : Stream) : Type 0 where
  pub watched : watched_on c.gates (on_card i p) ≡ true
  pub lent : x.buffer < (c.inputs i).streams.count
  pub alone : (q : ℕ) (y : Stream) → q < 8192 → (shown_by c).held.streams (on_card i q) ≡ some y → y.buffer ≡ x.buffer → q ≡ p
  pub lacks : lacking x.state.under ≡ true

module _ (c : Card) (all : AllStand c) (i : ℕ) where
  abbrev own : Input
  own = c.inputs i

  shown_at : (q : ℕ) → q < 8192 → (shown_by c).held.streams (on_card i q) ≡ shown_of own q
  shown_at q k = λ a. shown_of (c.inputs (its_input i q k a)) (its_pid i q k a)

  pub holds_well : (p : ℕ) (x : Stream) → p < 8192 → (shown_by c).held.streams (on_card i p) ≡ some x → HoldsWell c i p x
  unfolding state_in
  holds_well p x k e =
      let o : Holds own.streams.count own.pids own.buffers p x = holds own.streams.count own.pids own.buffers p x (sym (shown_at p k) ∙ e) in
      let b : x.buffer ≡ held_buffer own.streams.count own.pids p = ap (λ (s : Stream). s.buffer) o.is in
      let w : Words = words_at own.pids p in
      record {
        watched = (λ a. has_bit (c.gates.watches (its_input i p k a)).words (its_pid i p k a)) ∙ (all i).watched p k o.below;
        lent = omega (arith, b, o.below);
        alone = λ q y m f g.
            let o' : Holds own.streams.count own.pids own.buffers q y = holds own.streams.count own.pids own.buffers q y (sym (shown_at q m) ∙ f) in
            (all i).apart p q k m o.below (sym (ap (λ (s : Stream). s.buffer) o'.is) ∙ g ∙ b);
        lacks = ap (λ (s : Stream). lacking s.state.under) o.is ∙ (span_in_lem w (buffer_at own.buffers (held_buffer own.streams.count own.pids p))).lacks;
      }

pub in_every_history : (st : Settings) (c : Card) → OpenedCard st c → (xs : List Given) → OfBytes xs → (i p : ℕ) (x : Stream) → p < 8192
    → (shown_by (store_after acts c xs)).held.streams (on_card i p) ≡ some x → HoldsWell (store_after acts c xs) i p x
in_every_history st c o xs b i p x k e = holds_well (store_after acts c xs) (always_stand c xs (opened_stands st c o) b) i p x k e

-- ---- 10 never occurs

ten : Said → Bool
ten (plain n) = eqb n 10
ten (finished n) = false

no_ten : (h : Held Gates) (x : Given) → ten (ruled h x).answer ≡ false
unfolding fed_by packet_fed ten
no_ten h x = go (near_in watched_on tells_on acts_on gate_near pats_near h x.input) (ltb x.input 16)
  where
    taking_ten : (o : Option Stream) (ss : List Bytes) → ten (numbered o ss) ≡ false
    taking_ten none ss = refl
    taking_ten (some s) ss = refl

    watch_ten : (b : Bool) (o : Option Stream) (ss : List Bytes) → ten (cond b (numbered o ss) (finished 0)) ≡ false
    watch_ten true o ss = taking_ten o ss
    watch_ten false o ss = refl

    by : (p : Read) → ten (packet_fed watched_on tells_on acts_on gate_near pats_near h x.input x.packet p).answer ≡ false
    by Malformed = refl
    by Nothing = refl
    by (Payload l) =
        let n : ℕ = on_card x.input l.pid.0 in
        watch_ten (watched_on h.held.world n) (taking (h.held.streams n) (free_in h.counts h.held.streams n))
        (feeds watched_on acts_on (free_in h.counts) h.held n (payload_of l x.packet)).sections

    go : (a b : Bool)
        → ten (cond a (refused watched_on tells_on acts_on gate_near pats_near h 11)
        (cond b (packet_fed watched_on tells_on acts_on gate_near pats_near h x.input x.packet (packet_of x.packet)) (refused watched_on tells_on acts_on gate_near pats_near h 37))).answer ≡ false
    go true b = refl
    go false true = by (packet_of x.packet)
    go false false = refl

pub never_10 : (c : Card) (x : Given) → AllStand c → AllBytes x.packet → (tells c x).answer ≢ plain 10
unfolding ten
never_10 c x all b e =
    let z : ten (tells c x).answer ≡ false = ap (λ (t : Told). ten t.answer) (call_tells_lem c x all b) ∙ no_ten (shown_by c) x in
    let y : true ≡ false = sym (ap ten e) ∙ z in
    true≢false y

-- ---- another input

pub inputs_apart : (c : Card) (x : Given) (j : ℕ) → j ≢ x.input → ((acts c x).inputs j ≡ c.inputs j) × ((acts c x).gates.watches j ≡ c.gates.watches j)
unfolding card_acts
inputs_apart c x j d = let e : eqb j x.input ≡ false = ne_eqb j x.input d in (rw e refl, rw e refl)
