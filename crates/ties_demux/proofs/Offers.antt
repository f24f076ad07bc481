-- The sections of a packet, offered one after another on the PID of an input: the memory of that input stands for what the rules hold after each, and what holds
-- of it before holds of it after.
-- Assumes nothing.
use mathlib.Core.Path.{◌≡◌, refl, sym, ap, subst, ◌∙◌}
use mathlib.Core.Bool.{Bool, true, false, cond, not, ◌&&◌, true≢false}
use mathlib.Core.Option.{Option, none}
use mathlib.Core.List.{List, [], ◌∷◌}
use Prim.Native.Nat.{ℕ, zero, suc, ◌+◌, ◌*◌, ◌/◌, ◌%◌, ◌≤◌, ◌<◌}
use native.Mathlib.Omega.{arith}
use lib.Dec.{eqb, ltb}
use lib.ListN.{length, take, get_or}
use lib.Seq.{length-take-le}
use borrow.Author.Tests.{eq-eqb}
use Rattle.laws.specs.Bits.{has_bit}
use Rattle.laws.proofs.Bits.{has_less, has_first}
use Rattle.section.specs.Facts.{Bytes as AllBytes}
use Rattle.transport.specs.Rules.{Bytes}
use Rattle.transport.specs.Receiver.{Stream, Streams, HeldOf, held, leaving, offers_in}
use Rattle.gate_state.specs.State.{Said}
use Rattle.counters.specs.declared.Counters.{Counters}
use Rattle.gate_state.specs.declared.Follow.{Follow}
use Rattle.gate_pats.specs.Store.{Kept}
use Rattle.assemble.specs.declared.Words.{Words}
use Rattle.streams.specs.Store.{buffer_of, held_buffer, left_of, given_back}
use Rattle.streams.proofs.After.{words_of, back_length, back_stays, back_gone}
use Rattle.ties_streams.specs.View.{held_by, Apart}
use Rattle.ties_streams.proofs.Held.{no_buffer}
use Rattle.ties_streams.proofs.Packets.{gives_back, apart_back}
use Rattle.demux_steady.specs.Steady.{words_in, tells, acts, Steady}
use Rattle.demux_steady.proofs.Steady.{words_whole, words_there, steady_next, same_follow, counters_rise}
use Rattle.demux_steady.proofs.Sections.{Rises, rises_on}
use Rattle.demux_turns.specs.Turns.{OffersOf, offers_with, offered_at}
use Rattle.ties_demux.specs.Rules.{on_card, answers_in}
use Rattle.ties_demux.specs.Card.{Gates, kept_on, gates_with, watched_on, tells_on, acts_on, gate_near, pats_near}
use Rattle.ties_demux.proofs.Numbers.{its_input, its_pid, with_input}
use Rattle.ties_demux.proofs.Turns.{offers_of, answers_to}

-- ---- who left

left_bits : (words words' : List ℕ) → 128 ≤ length words → 128 ≤ length words' → (q : ℕ) → q < 8192 → has_bit (left_of words words') q ≡ (has_bit words q && not (has_bit words' q))
left_bits words words' a b q h =
    let x : length (take 128 words) ≡ 128 = length-take-le 128 words a in
    let y : length (take 128 words') ≡ 128 = length-take-le 128 words' b in
    has_less (take 128 words) (take 128 words') q (x ∙ sym y) (omega arith) ∙ (λ i. has_first words 128 q (omega arith) i && not (has_first words' 128 q (omega arith) i))

-- ---- what holds of an input's memory between two sections

pub record Between (f : Follow) (c : Counters) (n count : ℕ) (g : Kept) (pids : List ℕ) : Type 0 where
  pub follow : g.gate.follow ≡ f
  pub rises : Rises c g.counters
  pub steady : Steady n g
  pub long : 32768 ≤ length pids
  pub apart : Apart count pids
  pub watched : (p : ℕ) → p < 8192 → held_buffer count pids p < count → has_bit (words_in g) p ≡ true

-- byte 7 of each section, last_section_number, is a byte
abbrev pub AllOf : List Bytes → Type 0
AllOf [] = Unit {0}
AllOf (s ∷ ss) = (get_or s 7 0 < 256) × AllOf ss

module _ (f : Follow) (c : Counters) (i p : ℕ) where
  offer_on : ℕ → Bytes → OffersOf Kept → OffersOf Kept
  offer_on k s o = offered_at words_in tells acts i p k s o

  between_next : (n count k : ℕ) (s : Bytes) (o : OffersOf Kept) → get_or s 7 0 < 256 → Between f c (suc n) count o.gate o.pids → Between f c n count (offer_on k s o).gate (offer_on k s o).pids
  unfolding offer_on
  between_next n count k s o b t = record {
    follow = same_follow n o.gate t.steady i p s b ∙ t.follow;
    rises = rises_on t.rises (counters_rise n o.gate t.steady i p s b);
    steady = then;
    long = omega (arith, back_length left 8192 o.pids, t.long);
    apart = apart_back count o.pids left t.long t.apart;
    watched = λ q h v. go (has_bit left q) q refl h v;
  }
    where
      then : Steady n (acts o.gate i p s)
      then = steady_next n o.gate t.steady i p s b

      left : List ℕ
      left = left_of (words_in o.gate) (words_in (acts o.gate i p s))

      bits : (q : ℕ) → q < 8192 → has_bit left q ≡ (has_bit (words_in o.gate) q && not (has_bit (words_in (acts o.gate i p s)) q))
      bits q h = left_bits (words_in o.gate) (words_in (acts o.gate i p s)) (omega (arith, words_there n o.gate t.steady)) (omega (arith, words_still)) q h
        where
          words_still : 384 ≤ length (words_in (acts o.gate i p s))
          words_still = words_whole (acts o.gate i p s) then.whole

      stays : (b : Bool) → (true && not b) ≡ false → b ≡ true
      stays true e = refl
      stays false e = absurd (true≢false e)

      go : (x : Bool) (q : ℕ) → has_bit left q ≡ x → q < 8192 → held_buffer count (given_back left 8192 o.pids) q < count → has_bit (words_in (acts o.gate i p s)) q ≡ true
      go true q e h v =
          let z : held_buffer count (given_back left 8192 o.pids) q ≡ count = ap (λ (w : Words). buffer_of w.number count) (back_gone left 8192 o.pids q e h (omega (arith, t.long))) ∙ no_buffer count in
          absurd (omega arith)
      go false q e h v =
          let z : held_buffer count (given_back left 8192 o.pids) q ≡ held_buffer count o.pids q = ap (λ (w : Words). buffer_of w.number count) (back_stays left 8192 o.pids q e) in
          let w : has_bit (words_in o.gate) q ≡ true = t.watched q h (omega arith) in
          stays (has_bit (words_in (acts o.gate i p s)) q) (sym (ap (λ (b : Bool). b && not (has_bit (words_in (acts o.gate i p s)) q)) w) ∙ sym (bits q h) ∙ e)

  pub between_all : (n count k : ℕ) (ss : List Bytes) (o : OffersOf Kept) → AllOf ss → Between f c (length ss + n) count o.gate o.pids
      → Between f c n count (offers_of words_in tells acts i p k ss o).gate (offers_of words_in tells acts i p k ss o).pids
  unfolding offers_of offer_on
  between_all n count k [] o b t = let z : 0 + n ≡ n = omega arith in subst (λ (m : ℕ). Between f c m count o.gate o.pids) z t
  between_all n count k (s ∷ ss) o b t =
      let z : length (s ∷ ss) + n ≡ suc (length ss + n) = omega arith in
      between_all n count (k + 1) ss (offered_at words_in tells acts i p k s o) b.1
      (between_next (length ss + n) count k s o b.0 (subst (λ (m : ℕ). Between f c m count o.gate o.pids) z t))

-- ---- what it stands for

module _ (g : Gates) (i p : ℕ) (h : p < 8192) where
  abbrev n : ℕ
  n = on_card i p

  once_back : (k k' : Kept) → gates_with i k' (gates_with i k g) ≡ gates_with i k' g
  once_back k k' = λ a. record { gate = k'.gate; counters = k'.counters; keys = k'.keys; changes = k'.changes; watches = λ j. twice (eqb j i) j a }
    where
      twice : (b : Bool) (j : ℕ) → cond b k'.watch (cond b k.watch (g.watches j)) ≡ cond b k'.watch (g.watches j)
      twice true j = refl
      twice false j = refl

  lent_back : (k : Kept) → kept_on i (gates_with i k g) ≡ k
  lent_back k = ap (λ (b : Bool). record { gate = k.gate; counters = k.counters; keys = k.keys; changes = k.changes; watch = cond b k.watch (g.watches i) }) (eq-eqb i i refl)

  tells_shown : (k : Kept) (s : Bytes) → tells_on (gates_with i k g) n s ≡ tells k i p s
  tells_shown k s = (λ a. tells (kept_on (its_input i p h a) (gates_with i k g)) (its_input i p h a) (its_pid i p h a) s) ∙ ap (λ (x : Kept). tells x i p s) (lent_back k)

  acts_shown : (k : Kept) (s : Bytes) → acts_on (gates_with i k g) n s ≡ gates_with i (acts k i p s) g
  acts_shown k s =
      (λ a. gates_with (its_input i p h a) (acts (kept_on (its_input i p h a) (gates_with i k g)) (its_input i p h a) (its_pid i p h a) s) (gates_with i k g))
      ∙ ap (λ (x : Kept). gates_with i (acts x i p s) (gates_with i k g)) (lent_back k) ∙ once_back k (acts k i p s)

  pub watched_shown : (k : Kept) → watched_on (gates_with i k g) n ≡ has_bit (words_in k) p
  watched_shown k = (λ a. has_bit ((gates_with i k g).watches (its_input i p h a)).words (its_pid i p h a)) ∙ ap (λ (x : Kept). has_bit x.watch.words p) (lent_back k)

  pub answers_shown : (ss : List Bytes) (k : Kept) → answers_in watched_on tells_on acts_on gate_near pats_near n ss (gates_with i k g) ≡ answers_to words_in tells acts i p ss k
  unfolding answers_in answers_to
  answers_shown [] k = refl
  answers_shown (s ∷ ss) k =
      let rest = ap (answers_in watched_on tells_on acts_on gate_near pats_near n ss) (acts_shown k s) ∙ answers_shown ss (acts k i p s) in
      λ a. tells_shown k s a ∷ rest a

  module _ (y : Follow) (c : Counters) (count : ℕ) (buffers : List ℕ) (f : Streams) (free : Streams → ℕ → Option ℕ) where
    abbrev pub held_at : Kept → List ℕ → HeldOf Gates
    held_at k pids = held (with_input i (held_by count pids buffers) f) (gates_with i k g)

    leaves_shown : (k k' : Kept) (pids : List ℕ) → 128 ≤ length (words_in k) → 128 ≤ length (words_in k') → 32768 ≤ length pids
        → leaving (watched_on (gates_with i k g)) (watched_on (gates_with i k' g)) (with_input i (held_by count pids buffers) f)
        ≡ with_input i (held_by count (given_back (left_of (words_in k) (words_in k')) 8192 pids) buffers) f
    leaves_shown k k' pids a b l = λ e m. each m e
      where
        left : List ℕ
        left = left_of (words_in k) (words_in k')

        back : held_by count (given_back left 8192 pids) buffers ≡ leaving (has_bit (words_in k)) (has_bit (words_in k')) (held_by count pids buffers)
        back = gives_back count pids buffers left (has_bit (words_in k)) (has_bit (words_in k')) l (left_bits (words_in k) (words_in k') a b)

        nobody : (x : Bool) (o : Option Stream) → cond (x && not x) none o ≡ o
        nobody true o = refl
        nobody false o = refl

        go : (x : Bool) (m : ℕ)
            → cond (has_bit (cond x k.watch (g.watches (m / 8192))).words (m % 8192) && not (has_bit (cond x k'.watch (g.watches (m / 8192))).words (m % 8192))) none
            (cond x (held_by count pids buffers (m % 8192)) (f m)) ≡ cond x (held_by count (given_back left 8192 pids) buffers (m % 8192)) (f m)
        go true m = sym (ap (λ (s : Streams). s (m % 8192)) back)
        go false m = nobody (has_bit (g.watches (m / 8192)).words (m % 8192)) (f m)

        each : (m : ℕ)
            → leaving (watched_on (gates_with i k g)) (watched_on (gates_with i k' g)) (with_input i (held_by count pids buffers) f) m
            ≡ with_input i (held_by count (given_back left 8192 pids) buffers) f m
        each m = go (eqb (m / 8192) i) m

    pub offers_shown : (k : ℕ) (ss : List Bytes) (o : OffersOf Kept) → AllOf ss → Between y c (length ss) count o.gate o.pids
        → offers_in watched_on acts_on free n ss (held_at o.gate o.pids)
        ≡ held_at (offers_of words_in tells acts i p k ss o).gate (offers_of words_in tells acts i p k ss o).pids
    unfolding offers_in offers_of offer_on
    offers_shown k [] o b t = refl
    offers_shown k (s ∷ ss) o b t =
        let then : Kept = acts o.gate i p s in
        let next : Between y c (length ss) count then (given_back (left_of (words_in o.gate) (words_in then)) 8192 o.pids) = between_next y c i p (length ss) count k s o b.0 t in
        let x : 128 ≤ length (words_in o.gate) = omega (arith, words_there (length ss) o.gate t.steady) in
        let z : 128 ≤ length (words_in then) = omega (arith, words_whole then next.steady.whole) in
        ap (λ (w : Gates). offers_in watched_on acts_on free n ss (held (leaving (watched_on (gates_with i o.gate g)) (watched_on w) (with_input i (held_by count o.pids buffers) f)) w)) (acts_shown o.gate s)
        ∙ ap (λ (v : Streams). offers_in watched_on acts_on free n ss (held v (gates_with i then g))) (leaves_shown o.gate then o.pids x z t.long)
        ∙ offers_shown (k + 1) ss (offered_at words_in tells acts i p k s o) b.1 next
