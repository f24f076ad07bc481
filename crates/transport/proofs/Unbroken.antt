-- A PID that no offer drops from the watch: from the packet with which it takes its buffer on, what it finishes among all is what its own packets finish, one after
-- another. Nothing is asked of the buffers after that.
-- Assumes nothing.
use mathlib.Core.Path.{◌≡◌, refl, sym, ap, ◌∙◌, subst}
use mathlib.Core.Bool.{Bool, true, false, cond, ◌&&◌, not}
use mathlib.Core.Option.{Option, none, some}
use mathlib.Core.List.{List, [], ◌∷◌, ◌++◌}
use borrow.Author.Tests.{eq-eqb, eqb-true}
use Prim.Native.Nat.{ℕ, zero, suc, ◌+◌, ◌<◌}
use lib.Dec.{eqb}
use Rattle.transport.specs.Rules.{Bytes, Packet, State, Step, step, run, opened}
use Rattle.transport.specs.Sender.{Sending, all_of, Sent, Arrives, Among}
use Rattle.transport.specs.Receiver.{Stream, Streams, HeldOf, FedOf, Arrival, held, stream, with_stream, leaving, taking, offers_in, feeds_to, feeds, finished_on, on_pid}
use Rattle.transport.proofs.Promise.{finished_were_sent, all_finished}

module _ {W : Type 0} (watched : W → ℕ → Bool) (offer : W → ℕ → Bytes → W) (free : Streams → ℕ → Option ℕ) (p : ℕ)
    (stays : (w : W) (q : ℕ) (s : Bytes) → watched w p ≡ true → watched (offer w q s) p ≡ true) where
  -- what the PID holds stands
  pub record Same (h : HeldOf W) (o : Option Stream) : Type 0 where
    pub holds : h.streams p ≡ o
    pub watch : watched h.world p ≡ true

  left : (h : HeldOf W) (o : Option Stream) (w : W) → Same h o → watched w p ≡ true → Same (held (leaving (watched h.world) (watched w) h.streams) w) o
  left h o w s t = record { holds = rw (s.watch, t) s.holds; watch = t }

  offered : (q : ℕ) (ss : List Bytes) (h : HeldOf W) (o : Option Stream) → Same h o → Same (offers_in watched offer free q ss h) o
  unfolding offers_in
  offered q [] h o s = s
  offered q (x ∷ ss) h o s = offered q ss _ o (left h o (offer h.world q x) s (stays h.world q x s.watch))

  other : (h : HeldOf W) (o : Option Stream) (q : ℕ) (k : Packet) → eqb p q ≡ false → Same h o → Same (feeds watched offer free h q k).held o
  unfolding feeds feeds_to
  other h o q k d s = go (watched h.world q)
    where
      to : (x : Option Stream) → Same (feeds_to watched offer free h q k x).held o
      to none = s
      to (some x) =
          offered q (step x.state k).sections (held (with_stream q (some (stream x.buffer (step x.state k).state)) h.streams) h.world) o
          (record { holds = rw d s.holds; watch = s.watch })

      go : (b : Bool) → Same (cond b (feeds_to watched offer free h q k (taking (h.streams q) (free h.streams q))) (record { sections = []; held = held (with_stream q none h.streams) h.world })).held o
      go true = to (taking (h.streams q) (free h.streams q))
      go false = record { holds = rw d s.holds; watch = s.watch }

  -- the state that the PID's next packet meets
  abbrev pub state_of : Option Stream → State
  state_of none = opened
  state_of (some x) = x.state

  pub record Own (f : FedOf W) (s : State) (k : Packet) : Type 0 where
    pub told : f.sections ≡ (step s k).sections
    pub kept : Stream
    pub next : kept.state ≡ (step s k).state
    pub same : Same f.held (some kept)

  -- it holds a buffer, or one is free
  pub data Takes (h : HeldOf W) : Option Stream → Type 0 where
    has : (x : Stream) → Takes h (some x)
    finds : (b : ℕ) → free h.streams p ≡ some b → Takes h none

  own : (h : HeldOf W) (o : Option Stream) (k : Packet) → Same h o → Takes h o → Own (feeds watched offer free h p k) (state_of o) k
  unfolding feeds feeds_to
  own h o k s v = rw (s.watch, s.holds) (go o s v)
    where
      to : (x : Stream) → watched h.world p ≡ true → Own (feeds_to watched offer free h p k (some x)) x.state k
      to x w =
          let y : Stream = stream x.buffer (step x.state k).state in
          record {
            told = refl;
            kept = y;
            next = refl;
            same = offered p (step x.state k).sections (held (with_stream p (some y) h.streams) h.world) (some y) (record { holds = rw (eq-eqb p p refl) refl; watch = w });
          }

      go : (o : Option Stream) → Same h o → Takes h o → Own (feeds_to watched offer free h p k (taking o (free h.streams p))) (state_of o) k
      go (some x) s v = to x s.watch
      go none s (finds b e) = rw e (to (stream b opened) s.watch)

  pub unbroken : (T : List Arrival) (h : HeldOf W) (y : Stream) → Same h (some y) → finished_on watched offer free p h T ≡ run y.state (on_pid p T)
  unfolding finished_on on_pid run
  unbroken [] h y s = refl
  unbroken (x ∷ T) h y s = go (eqb p x.pid) refl (λ y' s'. unbroken T (feeds watched offer free h x.pid x.packet).held y' s')
    where
      go : (b : Bool) → eqb p x.pid ≡ b
          → ((y' : Stream) → Same (feeds watched offer free h x.pid x.packet).held (some y')
          → finished_on watched offer free p (feeds watched offer free h x.pid x.packet).held T ≡ run y'.state (on_pid p T))
          → cond b (feeds watched offer free h x.pid x.packet).sections [] ++ finished_on watched offer free p (feeds watched offer free h x.pid x.packet).held T
          ≡ run y.state (cond b (x.packet ∷ on_pid p T) (on_pid p T))
      go true d ih =
          let i : p ≡ x.pid = eqb-true p x.pid d in
          let w : Own (feeds watched offer free h x.pid x.packet) y.state x.packet = subst (λ (m : ℕ). Own (feeds watched offer free h m x.packet) y.state x.packet) i (own h (some y) x.packet s (has y)) in
          ap (λ (l : List Bytes). l ++ finished_on watched offer free p (feeds watched offer free h x.pid x.packet).held T) w.told
          ∙ ap (λ (l : List Bytes). (step y.state x.packet).sections ++ l) (ih w.kept w.same ∙ ap (λ (z : State). run z (on_pid p T)) w.next)
      go false d ih = ih y (other h (some y) x.pid x.packet d s)

  abbrev pub from : Packet → List Arrival → List Arrival
  from k T = record { pid = p; packet = k } ∷ T

  -- from its first payload on, where that finds a buffer
  pub from_first : (k : Packet) (T : List Arrival) (h : HeldOf W) (b : ℕ) → Same h none → free h.streams p ≡ some b → finished_on watched offer free p h (from k T) ≡ run opened (on_pid p (from k T))
  unfolding finished_on on_pid run
  from_first k T h b s e =
      let w = own h none k s (finds b e) in
      rw (eq-eqb p p refl)
      (ap (λ (l : List Bytes). l ++ finished_on watched offer free p (feeds watched offer free h p k).held T) w.told
      ∙ ap (λ (l : List Bytes). (step opened k).sections ++ l) (unbroken T (feeds watched offer free h p k).held w.kept w.same ∙ ap (λ (z : State). run z (on_pid p T)) w.next))

  -- in their order, each at most as often as sent; and without loss all of them
  pub in_order_lem : {n : ℕ} {rest : Bytes} {secs : List Bytes} {ps : List Sending} → n < 16 → Sent n rest secs ps → (k : Packet) (T : List Arrival) → Arrives none ps (on_pid p (from k T))
      → (h : HeldOf W) (b : ℕ) → Same h none → free h.streams p ≡ some b → Among (finished_on watched offer free p h (from k T)) secs
  in_order_lem {secs = secs} small t k T arr h b s e = subst (λ (l : List Bytes). Among l secs) (sym (from_first k T h b s e)) (finished_were_sent small t arr)

  pub all_of_them : {n : ℕ} {rest : Bytes} {secs : List Bytes} {ps : List Sending} (k : Packet) (T : List Arrival) → n < 16 → Sent n rest secs ps → on_pid p (from k T) ≡ all_of ps
      → (h : HeldOf W) (b : ℕ) → Same h none → free h.streams p ≡ some b → finished_on watched offer free p h (from k T) ≡ secs
  all_of_them k T small t q h b s e = from_first k T h b s e ∙ ap (run opened) q ∙ all_finished small t
