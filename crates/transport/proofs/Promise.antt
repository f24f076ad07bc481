-- The promise: what arrives is read as what was sent.
-- Assumes nothing.
use mathlib.Core.Path.{◌≡◌, refl, sym, ap, ◌∙◌, subst}
use mathlib.Core.Logic.{◌≢◌}
use mathlib.Core.Bool.{Bool, true, false}
use mathlib.Core.Option.{Option, none, some}
use mathlib.Core.List.{List, [], ◌∷◌, ◌++◌}
use Prim.Native.Nat.{ℕ, zero, suc, ◌+◌, ◌%◌, ◌≤◌, ◌<◌}
use native.Mathlib.Omega.{arith}
use lib.ListN.{length}
use Rattle.transport.specs.Rules.{Bytes, Read, Packet, State, Step, next, settle, ignored, taken, step, run, opened}
use Rattle.transport.specs.Sender.{Begins, part, last, full, Carries, goes_on, ends, idle, starts, packet, Times, once, twice, Sending, sending, Sent, over, sends, all_of, Loses, early, late, Arrives, leaves, comes, both, lost, Among, nothing, keep, skip}
use Rattle.transport.proofs.Payload.{Good, due, Fine, carried}
use Rattle.transport.proofs.Counter.{Lag, fresh, close, far, next_small, arrive, miss, repeat}

-- ---- some of the sections

among_front : (xs : List Bytes) {ys zs : List Bytes} → Among ys zs → Among (xs ++ ys) (xs ++ zs)
among_front [] a = a
among_front (x ∷ xs) a = keep (among_front xs a)

among_due : (u rest : Bytes) (secs : List Bytes) {xs : List Bytes} → Among xs secs → Among xs (due u rest secs)
among_due [] rest secs a = a
among_due (g ∷ gs) rest secs a = skip a

among_begins : {secs secs' xs : List Bytes} {body r : Bytes} → Begins secs body r secs' → Among xs secs' → Among xs secs
among_begins (part c r e e' h) a = skip a
among_begins (last s k h) a = skip a
among_begins (full s h b) a = skip (among_begins b a)

among_carries : {rest : Bytes} {secs secs' xs : List Bytes} {start : Bool} {payload r : Bytes} → Carries rest secs start payload r secs' → Among xs secs' → Among xs secs
among_carries (goes_on c r e e' q) a = a
among_carries (ends k e) a = a
among_carries (idle k e) a = a
among_carries (starts b) a = among_begins b a

-- ---- after a packet that arrived

after : ℕ → Read → State
after n x = record { last = some n; again = false; under = x.under }

after_close : (n : ℕ) (x : Read) → n < 16 → Lag (after n x) (some 0) (next n) x.under
unfolding after
after_close n x h = close n 0 refl h refl (omega arith)

state_again : ℕ → Read → State
state_again n x = record { last = some n; again = true; under = x.under }

again_close : (n : ℕ) (x : Read) → n < 16 → Lag (state_again n x) (some 0) (next n) x.under
unfolding state_again
again_close n x h = close n 0 refl h refl (omega arith)

run_arrive : (s : State) (g : Option ℕ) (n : ℕ) (u : Bytes) (start : Bool) (payload : Bytes) (qs : List Packet) → Lag s g n u
    → run s (packet n start payload ∷ qs) ≡ (taken u start payload).sections ++ run (after n (taken u start payload)) qs
unfolding run settle after
run_arrive s g n u start payload qs l = rw (arrive s g n u start payload l) refl

run_repeat : (n : ℕ) (x : Read) (start : Bool) (payload : Bytes) (qs : List Packet)
    → run (after n x) (packet n start payload ∷ qs) ≡ run (state_again n x) qs
unfolding run ignored after state_again
run_repeat n x start payload qs = rw (repeat (after n x) n start payload refl refl) refl

-- ---- with losses

module _ (s : State) (g : Option ℕ) (n : ℕ) (u rest : Bytes) (secs : List Bytes) (start : Bool) (payload r : Bytes) (secs' : List Bytes) (l : Lag s g n u) (c : Good u rest) (car : Carries rest secs start payload r secs') where
  -- a packet arrives, and what comes after it is fine
  came : (qs : List Packet) → Among (run (after n (taken u start payload)) qs) (due (taken u start payload).under r secs')
      → Among (run s (packet n start payload ∷ qs)) (due u rest secs)
  came qs a =
      rw (run_arrive s g n u start payload qs l, ← (carried u rest secs c car).same) (among_front (taken u start payload).sections a)

  went : (qs : List Packet) → Among (run s qs) secs' → Among (run s qs) (due u rest secs)
  went qs a = among_due u rest secs (among_carries car a)

pub heard : {n : ℕ} {rest : Bytes} {secs : List Bytes} {ps : List Sending} {qs : List Packet} {g : Option ℕ} (s : State) (u : Bytes)
    → n < 16 → Sent n rest secs ps → Arrives g ps qs → Lag s g n u → Good u rest → Among (run s qs) (due u rest secs)
unfolding run
heard s u h over leaves l c = nothing
heard s u h (sends times car z t) leaves l c = nothing
heard {g = g} s u h (sends {n = n} {rest = rest} {r = r} {secs = secs} {secs' = secs'} {start = start} {payload = payload} times car z t) (comes {qs = qs} a) l c =
    let x : Read = taken u start payload in
    came s g n u rest secs start payload r secs' l c car qs (heard (after n x) x.under (next_small n) t a (after_close n x h) (carried u rest secs c car).good)
heard {g = g} s u h (sends {n = n} {rest = rest} {r = r} {secs = secs} {secs' = secs'} {start = start} {payload = payload} times car z t) (both {qs = qs} a) l c =
    let x : Read = taken u start payload in
    came s g n u rest secs start payload r secs' l c car (packet n start payload ∷ qs)
    (rw (run_repeat n x start payload qs)
    (heard (state_again n x) x.under (next_small n) t a (again_close n x h) (carried u rest secs c car).good))
heard {g = g} s u h (sends {n = n} {rest = rest} {r = r} {secs = secs} {secs' = secs'} {start = start} {payload = payload} times car z t) (lost {g' = g'} {qs = qs} f a) l c =
    went s g n u rest secs start payload r secs' l c car qs (heard s [] (next_small n) t a (miss s g g' n u l f) tt)

-- ---- without losses

pub all_heard : {n : ℕ} {rest : Bytes} {secs : List Bytes} {ps : List Sending} (s : State) (g : Option ℕ) (u : Bytes)
    → n < 16 → Sent n rest secs ps → Lag s g n u → Good u rest → run s (all_of ps) ≡ due u rest secs
unfolding run all_of
all_heard s g [] h over l c = refl
all_heard s g (b ∷ bs) h over l c = absurd (c.1 refl)
all_heard s g u h (sends {n = n} {rest = rest} {r = r} {secs = secs} {secs' = secs'} {start = start} {payload = payload} {ps = ps} once car z t) l c =
    let x : Read = taken u start payload in
    let f = carried u rest secs c car in
    run_arrive s g n u start payload (all_of ps) l
    ∙ ap (λ (l : List Bytes). x.sections ++ l) (all_heard (after n x) (some 0) x.under (next_small n) t (after_close n x h) f.good) ∙ f.same
all_heard s g u h (sends {n = n} {rest = rest} {r = r} {secs = secs} {secs' = secs'} {start = start} {payload = payload} {ps = ps} twice car z t) l c =
    let x : Read = taken u start payload in
    let f = carried u rest secs c car in
    run_arrive s g n u start payload (packet n start payload ∷ all_of ps) l
    ∙ ap (λ (l : List Bytes). x.sections ++ l) (run_repeat n x start payload (all_of ps) ∙ all_heard (state_again n x) (some 0) x.under (next_small n) t (again_close n x h) f.good)
    ∙ f.same

-- ---- from opening on

-- Packets sent by the standard arrive in order and unchanged, with gaps of at most 14 payload packets of the PID: the sections finished are
-- some of those sent, byte for byte and in their order. rest: the sending may have begun before
pub finished_were_sent : {n : ℕ} {rest : Bytes} {secs : List Bytes} {ps : List Sending} {qs : List Packet} → n < 16 → Sent n rest secs ps → Arrives none ps qs → Among (run opened qs) secs
unfolding opened
finished_were_sent h t a = heard opened [] h t a (fresh refl) tt

-- Nothing is lost: all of them are finished
pub all_finished : {n : ℕ} {rest : Bytes} {secs : List Bytes} {ps : List Sending} → n < 16 → Sent n rest secs ps → run opened (all_of ps) ≡ secs
unfolding opened
all_finished h t = all_heard opened none [] h t (fresh refl) tt

-- ---- from anywhere to anywhere

pub weaken : {g : Option ℕ} {ps : List Sending} {qs : List Packet} → Arrives g ps qs → Arrives none ps qs
weaken leaves = leaves
weaken (comes a) = comes a
weaken (both a) = both a
weaken (lost f a) = lost early (weaken a)

abbrev behind : List Packet → List Packet
behind [] = []
behind (p ∷ ps) = ps

no_packet : (q : Packet) (qs : List Packet) → ◌≡◌ {A = List Packet} [] (q ∷ qs) → ⊥
no_packet q qs e = let z : 0 ≡ suc (length qs) = ap length e in omega arith

abbrev first : Packet → List Packet → Packet
first d [] = d
first d (x ∷ xs) = x

-- it ends early, also between a packet and its copy
pub cut : {g : Option ℕ} {ps : List Sending} {l : List Packet} (b c : List Packet) → l ≡ b ++ c → Arrives g ps l → Arrives g ps b
cut [] c e a = leaves
cut (q ∷ b) c e leaves = absurd (no_packet q (b ++ c) e)
cut (q ∷ b) c e (comes {g = g} {p = p} {times = times} {ps = ps} {qs = qs} a) =
    let t : qs ≡ b ++ c = ap behind e in
    let f : p ≡ q = ap (first p) e in
    subst (λ (x : Packet). Arrives g (sending p times ∷ ps) (x ∷ b)) f (comes (cut b c t a))
cut (q ∷ []) c e (both {g = g} {p = p} {ps = ps} {qs = qs} a) =
    let f : p ≡ q = ap (first p) e in
    subst (λ (x : Packet). Arrives g (sending p twice ∷ ps) (x ∷ [])) f (comes leaves)
cut (q ∷ q' ∷ b) c e (both {g = g} {p = p} {ps = ps} {qs = qs} a) =
    let t : qs ≡ b ++ c = ap (λ (x : List Packet). behind (behind x)) e in
    let f : p ≡ q = ap (first p) e in
    let f' : p ≡ q' = ap (λ (x : List Packet). first p (behind x)) e in
    subst (λ (x : Packet). Arrives g (sending p twice ∷ ps) (x ∷ q' ∷ b)) f
    (subst (λ (x : Packet). Arrives g (sending p twice ∷ ps) (p ∷ x ∷ b)) f' (both (cut b c t a)))
cut (q ∷ b) c e (lost f a) = lost f (cut (q ∷ b) c e a)

-- what is left of a sending when a has arrived of it
pub record Tail (secs : List Bytes) (q : List Packet) : Type 0 where
  pub n : ℕ
  pub rest : Bytes
  pub secs' : List Bytes
  pub ps : List Sending
  pub small : n < 16
  pub sent : Sent n rest secs' ps
  pub arrives : Arrives none ps q
  pub within : (xs : List Bytes) → Among xs secs' → Among xs secs

more : {secs secs' : List Bytes} {q : List Packet} → ((xs : List Bytes) → Among xs secs' → Among xs secs) → Tail secs' q → Tail secs q
more f t = record { n = t.n; rest = t.rest; secs' = t.secs'; ps = t.ps; small = t.small; sent = t.sent; arrives = t.arrives; within = λ xs a. f xs (t.within xs a) }

-- cut between a packet and its copy, the rest begins with that packet, sent once
pub later : {n : ℕ} {rest : Bytes} {secs : List Bytes} {ps : List Sending} {l : List Packet} {g : Option ℕ} (a q : List Packet) → l ≡ a ++ q → n < 16 → Sent n rest secs ps → Arrives g ps l → Tail secs q
later {n = n} {rest = rest} {secs = secs} {ps = ps} {l = l} {g = g} [] q e h t arr =
    record { n = n; rest = rest; secs' = secs; ps = ps; small = h; sent = t; arrives = weaken (subst (λ (x : List Packet). Arrives g ps x) e arr); within = λ xs a. a }
later (x ∷ a) q e h t leaves = absurd (no_packet x (a ++ q) e)
later (x ∷ a) q e h (sends {n = n} times car z t) (comes {qs = qs} arr) = let t' : qs ≡ a ++ q = ap behind e in more (λ xs. among_carries car) (later {n = next n} a q t' (next_small n) t arr)
later (x ∷ a) q e h (sends {n = n} times car z t) (both {p = p} {qs = qs} arr) = let t' : p ∷ qs ≡ a ++ q = ap behind e in later {n = n} a q t' h (sends once car z t) (comes {g = none} arr)
later (x ∷ a) q e h (sends {n = n} times car z t) (lost f arr) = more (λ xs. among_carries car) (later {n = next n} (x ∷ a) q e (next_small n) t arr)

pub part_exact : {n : ℕ} {rest : Bytes} {secs : List Bytes} {ps : List Sending} {l : List Packet} (a b c : List Packet) → l ≡ a ++ (b ++ c) → n < 16 → Sent n rest secs ps → Arrives none ps l → Among (run opened b) secs
part_exact a b c e h t arr =
    let x = later a (b ++ c) e h t arr in
    x.within (run opened b) (finished_were_sent x.small x.sent (cut b c refl x.arrives))
