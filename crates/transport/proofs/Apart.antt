-- A packet of one PID and what the others hold: it changes what no other PID holds, but for those that its sections take off the watch.
-- Assumes nothing.
use mathlib.Core.Path.{◌≡◌, refl, sym, ap, ◌∙◌}
use mathlib.Core.Bool.{Bool, true, false, cond, ◌&&◌, ◌||◌, not}
use mathlib.Core.Option.{Option, none, some}
use mathlib.Core.List.{List, [], ◌∷◌}
use Prim.Native.Nat.{ℕ}
use lib.Dec.{eqb}
use Rattle.transport.specs.Rules.{Bytes, Packet, State, Step, step}
use Rattle.transport.specs.Receiver.{Stream, Streams, HeldOf, FedOf, held, stream, with_stream, leaving, taking, offers_in, feeds_to, feeds, leaves_in}

module _ {W : Type 0} (watched : W → ℕ → Bool) (offer : W → ℕ → Bytes → W) (free : Streams → ℕ → Option ℕ) (p : ℕ) where
  emptied_twice : (a b : Bool) (o : Option Stream) → cond b none (cond a none o) ≡ cond (a || b) none o
  emptied_twice true true o = refl
  emptied_twice true false o = refl
  emptied_twice false b o = refl

  -- the sections of a packet, offered one after another: who left holds nothing, the others hold what they held
  pub offers_apart : (ss : List Bytes) (h : HeldOf W) (q : ℕ)
      → (offers_in watched offer free p ss h).streams q ≡ cond (leaves_in watched offer free p ss h.world q) none (h.streams q)
  unfolding offers_in leaves_in
  offers_apart [] h q = refl
  offers_apart (s ∷ ss) h q =
      let w : W = offer h.world p s in
      offers_apart ss (held (leaving (watched h.world) (watched w) h.streams) w) q
      ∙ emptied_twice (watched h.world q && not (watched w q)) (leaves_in watched offer free p ss w q) (h.streams q)

  -- a packet of p changes the state of no other PID but those that left, whose it empties
  pub apart : (h : HeldOf W) (k : Packet) (q : ℕ) → eqb q p ≡ false
      → (feeds watched offer free h p k).held.streams q ≡ cond (leaves_in watched offer free p (feeds watched offer free h p k).sections h.world q) none (h.streams q)
  unfolding feeds feeds_to leaves_in
  apart h k q e = go (watched h.world p)
    where
      to : (s : Option Stream)
          → (feeds_to watched offer free h p k s).held.streams q ≡ cond (leaves_in watched offer free p (feeds_to watched offer free h p k s).sections h.world q) none (h.streams q)
      to none = refl
      to (some s) =
          let f : HeldOf W = held (with_stream p (some (stream s.buffer (step s.state k).state)) h.streams) h.world in
          offers_apart (step s.state k).sections f q
          ∙ ap (λ (o : Option Stream). cond (leaves_in watched offer free p (step s.state k).sections h.world q) none o) (rw e refl)

      go : (b : Bool)
          → (cond b (feeds_to watched offer free h p k (taking (h.streams p) (free h.streams p))) (record { sections = []; held = held (with_stream p none h.streams) h.world })).held.streams q
          ≡ cond (leaves_in watched offer free p (cond b (feeds_to watched offer free h p k (taking (h.streams p) (free h.streams p))) (record { sections = []; held = held (with_stream p none h.streams) h.world })).sections h.world q) none (h.streams q)
      go true = to (taking (h.streams p) (free h.streams p))
      go false = rw e refl

  -- who left holds none after the call
  pub given_back_lem : (h : HeldOf W) (k : Packet) (q : ℕ) → eqb q p ≡ false → leaves_in watched offer free p (feeds watched offer free h p k).sections h.world q ≡ true
      → (feeds watched offer free h p k).held.streams q ≡ none
  given_back_lem h k q e l = apart h k q e ∙ ap (λ (b : Bool). cond b none (h.streams q)) l

  -- who did not leave holds what it held
  pub kept : (h : HeldOf W) (k : Packet) (q : ℕ) → eqb q p ≡ false → leaves_in watched offer free p (feeds watched offer free h p k).sections h.world q ≡ false
      → (feeds watched offer free h p k).held.streams q ≡ h.streams q
  kept h k q e l = apart h k q e ∙ ap (λ (b : Bool). cond b none (h.streams q)) l
