-- Whatever the other PIDs carry, whatever becomes of the watch and of the buffers: each section that is finished on a PID was sent on it.
-- Assumes nothing.
use mathlib.Core.Path.{◌≡◌, refl, sym, ap, ◌∙◌, subst}
use mathlib.Core.Bool.{Bool, true, false, cond, ◌&&◌, not, true≢false}
use mathlib.Core.Option.{Option, none, some}
use mathlib.Core.List.{List, [], ◌∷◌, ◌++◌, append_assoc, append-nil}
use borrow.Author.Tests.{eq-eqb, eqb-true}
use Prim.Native.Nat.{ℕ, zero, suc, ◌+◌, ◌<◌}
use native.Mathlib.Omega.{arith}
use lib.Dec.{eqb}
use lib.Seq.{append_snoc}
use Rattle.transport.specs.Rules.{Bytes, Packet, State, Step, step, run, opened}
use Rattle.transport.specs.Sender.{Sending, all_of, Sent, Arrives, Among, nothing, keep, skip}
use Rattle.transport.specs.Receiver.{Stream, Streams, HeldOf, FedOf, Arrival, held, stream, with_stream, leaving, taking, offers_in, feeds_to, feeds, finished_on, on_pid, In, here, there, AllIn, no_more, and_this}
use Rattle.transport.proofs.Promise.{part_exact}

-- ---- lists of sections

all_append : {ys : List Bytes} (xs zs : List Bytes) → AllIn ys xs → AllIn ys zs → AllIn ys (xs ++ zs)
all_append [] zs no_more b = b
all_append (x ∷ xs) zs (and_this i a) b = and_this i (all_append xs zs a b)

all_behind : {ys : List Bytes} (xs zs : List Bytes) → AllIn ys (xs ++ zs) → AllIn ys zs
all_behind [] zs a = a
all_behind (x ∷ xs) zs (and_this i a) = all_behind xs zs a

all_more : {ys xs : List Bytes} (y : Bytes) → AllIn ys xs → AllIn (y ∷ ys) xs
all_more y no_more = no_more
all_more y (and_this i a) = and_this (there i) (all_more y a)

among_all : {xs ys : List Bytes} → Among xs ys → AllIn ys xs
among_all nothing = no_more
among_all (keep {y = y} a) = and_this here (all_more y (among_all a))
among_all (skip {y = y} a) = all_more y (among_all a)

-- ---- the state after packets

abbrev pub state_after : State → List Packet → State
state_after s [] = s
state_after s (k ∷ ks) = state_after (step s k).state ks

run_snoc : (s : State) (b : List Packet) (k : Packet) → run s (b ++ (k ∷ [])) ≡ run s b ++ (step (state_after s b) k).sections
unfolding run
run_snoc s [] k = append-nil (step s k).sections
run_snoc s (x ∷ b) k =
    ap (λ (l : List Bytes). (step s x).sections ++ l) (run_snoc (step s x).state b k)
    ∙ sym (append_assoc (step s x).sections (run (step s x).state b) (step (state_after (step s x).state b) k).sections)

state_snoc : (s : State) (b : List Packet) (k : Packet) → state_after s (b ++ (k ∷ [])) ≡ (step (state_after s b) k).state
state_snoc s [] k = refl
state_snoc s (x ∷ b) k = state_snoc (step s x).state b k

-- ---- one PID among all

module _ {W : Type 0} (watched : W → ℕ → Bool) (offer : W → ℕ → Bytes → W) (free : Streams → ℕ → Option ℕ) (p : ℕ) where
  -- the PID holds nothing, or this, and is watched
  pub data Now (h : HeldOf W) (x : Stream) : Type 0 where
    gone : h.streams p ≡ none → Now h x
    still : h.streams p ≡ some x → watched h.world p ≡ true → Now h x

  now_left : (h : HeldOf W) (w : W) (x : Stream) → Now h x → Now (held (leaving (watched h.world) (watched w) h.streams) w) x
  now_left h w x (gone e) = gone (go (watched h.world p && not (watched w p)))
    where
      go : (b : Bool) → cond b none (h.streams p) ≡ none
      go true = refl
      go false = e
  now_left h w x (still e t) = go (watched w p) refl
    where
      go : (b : Bool) → watched w p ≡ b → Now (held (leaving (watched h.world) (watched w) h.streams) w) x
      go true f = still (rw (t, f) e) f
      go false f = gone (rw (t, f) refl)

  now_offered : (q : ℕ) (ss : List Bytes) (h : HeldOf W) (x : Stream) → Now h x → Now (offers_in watched offer free q ss h) x
  unfolding offers_in
  now_offered q [] h x n = n
  now_offered q (s ∷ ss) h x n = now_offered q ss _ x (now_left h (offer h.world q s) x n)

  -- what has arrived on the PID, and where its state stands: it holds nothing, or its state is that of the last packets b from opening on
  pub data Tracks (h : HeldOf W) (done : List Packet) : Type 0 where
    nothing_held : h.streams p ≡ none → Tracks h done
    holds : (a b : List Packet) (x : Stream) → Now h x → done ≡ a ++ b → x.state ≡ state_after opened b → Tracks h done

  more_done : (done : List Packet) (k : Packet) (a b : List Packet) → done ≡ a ++ b → done ++ (k ∷ []) ≡ a ++ (b ++ (k ∷ []))
  more_done done k a b e = ap (λ (l : List Packet). l ++ (k ∷ [])) e ∙ append_assoc a b (k ∷ [])

  module _ {n : ℕ} {rest : Bytes} {secs : List Bytes} {ps : List Sending} {l : List Packet} (small : n < 16) (t : Sent n rest secs ps) (arr : Arrives none ps l) where
    -- the sections that the next packet of the PID finishes
    next_in : (a b c : List Packet) (k : Packet) (s : State) → s ≡ state_after opened b → l ≡ a ++ ((b ++ (k ∷ [])) ++ c) → AllIn secs (step s k).sections
    next_in a b c k s e q =
        all_behind (run opened b) (step s k).sections
        (subst (AllIn secs) (run_snoc opened b k ∙ ap (λ (x : State). run opened b ++ (step x k).sections) (sym e))
        (among_all (part_exact a (b ++ (k ∷ [])) c q small t arr)))

  none_left : (h : HeldOf W) (w : W) → h.streams p ≡ none → leaving (watched h.world) (watched w) h.streams p ≡ none
  none_left h w e = go (watched h.world p && not (watched w p))
    where
      go : (b : Bool) → cond b none (h.streams p) ≡ none
      go true = refl
      go false = e

  none_offered : (q : ℕ) (ss : List Bytes) (h : HeldOf W) → h.streams p ≡ none → (offers_in watched offer free q ss h).streams p ≡ none
  unfolding offers_in
  none_offered q [] h e = e
  none_offered q (s ∷ ss) h e = none_offered q ss _ (none_left h (offer h.world q s) e)

  -- a packet of another PID
  other : (h : HeldOf W) (done : List Packet) (q : ℕ) (k : Packet) → eqb p q ≡ false → Tracks h done → Tracks (feeds watched offer free h q k).held done
  unfolding feeds feeds_to offers_in
  other h done q k d tr = go (watched h.world q)
    where
      tracked : (f : HeldOf W) → f.streams p ≡ h.streams p → f.world ≡ h.world → (ss : List Bytes) → Tracks h done → Tracks (offers_in watched offer free q ss f) done
      tracked f e w ss (nothing_held z) = nothing_held (none_offered q ss f (e ∙ z))
      tracked f e w ss (holds a b x (gone z) y s) = nothing_held (none_offered q ss f (e ∙ z))
      tracked f e w ss (holds a b x (still z u) y s) = holds a b x (now_offered q ss f x (still (e ∙ z) (ap (λ (v : W). watched v p) w ∙ u))) y s

      to : (s : Option Stream) → Tracks (feeds_to watched offer free h q k s).held done
      to none = tr
      to (some s) = tracked (held (with_stream q (some (stream s.buffer (step s.state k).state)) h.streams) h.world) (rw d refl) refl (step s.state k).sections tr

      go : (b : Bool) → Tracks (cond b (feeds_to watched offer free h q k (taking (h.streams q) (free h.streams q))) (record { sections = []; held = held (with_stream q none h.streams) h.world })).held done
      go true = to (taking (h.streams q) (free h.streams q))
      go false = tracked (held (with_stream q none h.streams) h.world) (rw d refl) refl [] tr

  module _ {n : ℕ} {rest : Bytes} {secs : List Bytes} {ps : List Sending} {l : List Packet} (small : n < 16) (t : Sent n rest secs ps) (arr : Arrives none ps l) where
    -- a packet of the PID
    pub record Own (f : FedOf W) (done : List Packet) : Type 0 where
      pub fine : AllIn secs f.sections
      pub tracks : Tracks f.held done

    module _ (h : HeldOf W) (done c : List Packet) (k : Packet) (q : l ≡ (done ++ (k ∷ [])) ++ c) where
      place : (a b : List Packet) → done ≡ a ++ b → l ≡ a ++ ((b ++ (k ∷ [])) ++ c)
      place a b e = q ∙ ap (λ (x : List Packet). x ++ c) (more_done done k a b e) ∙ append_assoc a (b ++ (k ∷ [])) c

      -- it goes on from the state of the packets b
      on : (a b : List Packet) (x : Stream) → watched h.world p ≡ true → done ≡ a ++ b → x.state ≡ state_after opened b → Own (feeds_to watched offer free h p k (some x)) (done ++ (k ∷ []))
      unfolding feeds_to
      on a b x w d e =
          let y : Stream = stream x.buffer (step x.state k).state in
          let f : HeldOf W = held (with_stream p (some y) h.streams) h.world in
          record {
            fine = next_in small t arr a b c k x.state e (place a b d);
            tracks = holds a (b ++ (k ∷ [])) y (now_offered p (step x.state k).sections f y (still (rw (eq-eqb p p refl) refl) w)) (more_done done k a b d)
                (ap (λ (s : State). (step s k).state) e ∙ sym (state_snoc opened b k));
          }

      fresh : h.streams p ≡ none → watched h.world p ≡ true → Own (feeds_to watched offer free h p k (taking (h.streams p) (free h.streams p))) (done ++ (k ∷ []))
      unfolding feeds_to
      fresh e w = rw e (go (free h.streams p))
        where
          go : (b : Option ℕ) → Own (feeds_to watched offer free h p k (taking none b)) (done ++ (k ∷ []))
          go none = record { fine = no_more; tracks = nothing_held e }
          go (some b) = on done [] (stream b opened) w (sym (append-nil done)) refl

      -- a PID that is not watched holds nothing
      empties : Own (record { sections = []; held = held (with_stream p none h.streams) h.world }) (done ++ (k ∷ []))
      empties = record { fine = no_more; tracks = nothing_held (rw (eq-eqb p p refl) refl) }

      own : Tracks h done → Own (feeds watched offer free h p k) (done ++ (k ∷ []))
      unfolding feeds
      own tr = go (watched h.world p) refl tr
        where
          go : (b : Bool) → watched h.world p ≡ b → Tracks h done
              → Own (cond b (feeds_to watched offer free h p k (taking (h.streams p) (free h.streams p))) (record { sections = []; held = held (with_stream p none h.streams) h.world })) (done ++ (k ∷ []))
          go true w (nothing_held e) = fresh e w
          go true w (holds a b x (gone e) d s) = fresh e w
          go true w (holds a b x (still e u) d s) = rw e (on a b x w d s)
          go false w t = empties

    each : (T : List Arrival) (h : HeldOf W) (done : List Packet) → Tracks h done → l ≡ done ++ on_pid p T → AllIn secs (finished_on watched offer free p h T)
    unfolding finished_on on_pid
    each [] h done tr e = no_more
    each (x ∷ T) h done tr e = go (eqb p x.pid) refl e (λ d' tr' e'. each T (feeds watched offer free h x.pid x.packet).held d' tr' e')
      where
        go : (b : Bool) → eqb p x.pid ≡ b → l ≡ done ++ cond b (x.packet ∷ on_pid p T) (on_pid p T)
            → ((d' : List Packet) → Tracks (feeds watched offer free h x.pid x.packet).held d' → l ≡ d' ++ on_pid p T
            → AllIn secs (finished_on watched offer free p (feeds watched offer free h x.pid x.packet).held T))
            → AllIn secs (cond b (feeds watched offer free h x.pid x.packet).sections [] ++ finished_on watched offer free p (feeds watched offer free h x.pid x.packet).held T)
        go true d q ih =
            let i : p ≡ x.pid = eqb-true p x.pid d in
            let r : l ≡ (done ++ (x.packet ∷ [])) ++ on_pid p T = q ∙ sym (append_assoc done (x.packet ∷ []) (on_pid p T)) in
            let o : Own (feeds watched offer free h x.pid x.packet) (done ++ (x.packet ∷ [])) = subst (λ (m : ℕ). Own (feeds watched offer free h m x.packet) (done ++ (x.packet ∷ []))) i (own h done (on_pid p T) x.packet r tr) in
            all_append _ _ o.fine (ih (done ++ (x.packet ∷ [])) o.tracks r)
        go false d q ih = ih done (other h done x.pid x.packet d tr) q

  -- THE PROMISE, of one PID in any stream: its packets are sent by the standard and arrive in order and unchanged with gaps of at most 14. Then every section that is finished
  -- on it was sent on it, whatever the other PIDs carry, whatever the gate does to the watch, whatever buffers are free
  pub exact : {n : ℕ} {rest : Bytes} {secs : List Bytes} {ps : List Sending} → n < 16 → Sent n rest secs ps → (T : List Arrival) → Arrives none ps (on_pid p T)
      → (h : HeldOf W) → h.streams p ≡ none → AllIn secs (finished_on watched offer free p h T)
  exact small t T arr h e = each small t arr T h [] (nothing_held e) refl
