-- The payloads that are taken on a PID are the first that arrive on it: once 11 is answered on an input it is answered for ever.
-- Assumes nothing.
use mathlib.Core.Path.{◌≡◌, refl, sym, ap, subst, ◌∙◌}
use mathlib.Core.Logic.{◌≢◌, by_cases}
use mathlib.Core.Bool.{Bool, true, false, cond, ◌||◌, true≢false}
use mathlib.Core.List.{List, [], ◌∷◌, ◌++◌, append_assoc}
use Prim.Native.Nat.{ℕ, ◌+◌, ◌*◌, ◌≤◌, ◌<◌}
use native.Mathlib.Decide.{ℕ_discrete}
use native.Mathlib.Omega.{arith}
use lib.Dec.{eqb, ltb, leb}
use borrow.Author.Tests.{eq-eqb, ne_eqb, le-leb, leb-true}
use Rattle.section.specs.Facts.{Bytes as AllBytes}
use Rattle.packet.specs.declared.Packet.{Packet as Read}
use Rattle.packet.specs.declared.Packet.TheVariants.{Malformed, Nothing, Payload}
use Rattle.packet.specs.Packets.{packet_of}
use Rattle.packet.proofs.Loads.{as_read}
use Rattle.transport.specs.Rules.{Bytes, Packet}
use Rattle.transport.specs.Receiver.{Arrival, on_pid}
use Rattle.counters.specs.declared.Counters.{Counters}
use Rattle.streams.specs.declared.Streams.{Streams as Counted}
use Rattle.gate_state.specs.declared.Follow.{Follow}
use Rattle.pats.specs.Store.{Record}
use Rattle.demux_state.specs.State.{any_near, is_near}
use Rattle.demux_judge.specs.Verdicts.{pat_count}
use Rattle.demux_steady.proofs.Sections.{Rises}
use Rattle.demux_store.specs.Store.{Store}
use Rattle.ties_demux.specs.Rules.{on_card, Held, refused, packet_fed, near_in, fed_by}
use Rattle.ties_demux.specs.Card.{Gates, Card, watched_on, tells_on, acts_on, gate_near, pats_near, input_of, call_on, card_acts, shown_by, AllStand}
use Rattle.ties_demux.specs.History.{Given, OfBytes, acts, rules_act, arrival_in, arrival_of, arrivals}
use Rattle.ties_demux.proofs.Feed.{SameCall}
use Rattle.ties_demux.proofs.History.{call, call_shows, call_stands}
use Rattle.ties_demux.proofs.Finished.{near, taken_by, taken}

-- ---- a counter near its end stays there

or_rises : (a b a' b' : Bool) → (a ≡ true → a' ≡ true) → (b ≡ true → b' ≡ true) → (a || b) ≡ true → (a' || b') ≡ true
or_rises true b a' b' f g e = rw (f refl) refl
or_rises false b true b' f g e = refl
or_rises false b false b' f g e = g e

near_rises : (x y : ℕ) → x ≤ y → is_near x ≡ true → is_near y ≡ true
near_rises x y h e = let k : 18446744073709551551 ≤ x = leb-true _ _ e in le-leb 18446744073709551551 y (omega arith)

any_rises : (c d : Counters) → Rises c d → any_near c ≡ true → any_near d ≡ true
any_rises c d r =
    or_rises _ _ _ _
    (or_rises _ _ _ _
    (or_rises _ _ _ _
    (or_rises _ _ _ _
    (or_rises _ _ _ _
    (or_rises _ _ _ _ (near_rises c.completed d.completed r.completed) (near_rises c.emitted d.emitted r.emitted))
    (near_rises c.suppressed d.suppressed r.suppressed))
    (near_rises c.crc_failures d.crc_failures r.failures))
    (near_rises c.short_sections d.short_sections r.short))
    (near_rises c.crc_mismatches d.crc_mismatches r.mismatches))
    (near_rises c.evictions d.evictions r.evictions)

near_by : Counters → Counted → Follow → Record → Bool
near_by c t f r = any_near c || is_near t.packets || is_near t.malformed || is_near (pat_count f r.words)

near_by_rises : (c d : Counters) (t : Counted) (f : Follow) (r : Record) → Rises c d → near_by c t f r ≡ true → near_by d t f r ≡ true
unfolding near_by
near_by_rises c d t f r x = or_rises _ _ _ _ (or_rises _ _ _ _ (or_rises _ _ _ _ (any_rises c d x) (λ e. e)) (λ e. e)) (λ e. e)

module _ (c : Card) (x : Given) (st : AllStand c) (b : AllBytes x.packet) (i : ℕ) (e : near (shown_by c) i ≡ true) where
  here : x.input ≡ i → near (shown_by (acts c x)) i ≡ true
  unfolding fed_by
  here q = ap (λ (h : Held Gates). near h i) (call_shows c x st b) ∙ stays (near (shown_by c) x.input) (ap (near (shown_by c)) q ∙ e)
    where
      stays : (a : Bool) → a ≡ true
          → near (cond a (refused watched_on tells_on acts_on gate_near pats_near (shown_by c) 11)
          (cond (ltb x.input 16) (packet_fed watched_on tells_on acts_on gate_near pats_near (shown_by c) x.input x.packet (packet_of x.packet)) (refused watched_on tells_on acts_on gate_near pats_near (shown_by c) 37))).then i ≡ true
      stays true t = e
      stays false t = absurd (true≢false (sym t))

  elsewhere : x.input ≢ i → near (shown_by (acts c x)) i ≡ true
  unfolding card_acts near_by
  elsewhere q =
      let o = call c x st b in
      let d : eqb i x.input ≡ false = ne_eqb i x.input (λ (z : i ≡ x.input). q (sym z)) in
      let s : Store = (call_on c x.input x.packet).store in
      (λ a. near_by s.gate.counters (cond (d a) (input_of s) (c.inputs i)).streams (o.follow a) (cond (d a) s.gate.watch (c.gates.watches i)))
      ∙ near_by_rises c.gates.counters s.gate.counters (c.inputs i).streams c.gates.gate.follow (c.gates.watches i) o.rises e

  pub near_stays : near (shown_by (acts c x)) i ≡ true
  near_stays = by_cases (ℕ_discrete x.input i) here elsewhere

-- ---- what is taken on a PID

on_append : (n : ℕ) (T U : List Arrival) → on_pid n (T ++ U) ≡ on_pid n T ++ on_pid n U
unfolding on_pid
on_append n [] U = refl
on_append n (x ∷ T) U = go (eqb n x.pid) (on_append n T U)
  where
    go : (b : Bool) → on_pid n (T ++ U) ≡ on_pid n T ++ on_pid n U → cond b (x.packet ∷ on_pid n (T ++ U)) (on_pid n (T ++ U)) ≡ cond b (x.packet ∷ on_pid n T) (on_pid n T) ++ on_pid n U
    go true e = ap (λ (l : List Packet). x.packet ∷ l) e
    go false e = e

-- the first of these
pub record First (a b : List Packet) : Type 0 where
  pub rest : List Packet
  pub all : b ≡ a ++ rest

module _ (i p : ℕ) (h : p < 8192) where
  abbrev n : ℕ
  n = on_card i p

  -- a packet on another input is none of this PID
  other_input : (x : Given) → AllBytes x.packet → x.input ≢ i → on_pid n (arrival_of x) ≡ []
  unfolding on_pid
  other_input x b d = go (ltb x.input 16)
    where
      by : (r : Read) → packet_of x.packet ≡ r → on_pid n (arrival_in x.input x.packet r) ≡ []
      by Malformed e = refl
      by Nothing e = refl
      by (Payload l) e =
          let k : l.pid.0 < 8192 = (as_read x.packet l b e).pid in
          rw (ne_eqb n (on_card x.input l.pid.0) (λ (z : n ≡ on_card x.input l.pid.0). d (omega arith))) refl

      go : (t : Bool) → on_pid n (cond t (arrival_in x.input x.packet (packet_of x.packet)) []) ≡ []
      go true = by (packet_of x.packet) refl
      go false = refl

  none_taken : (a : Bool) (x : Given) → AllBytes x.packet → (x.input ≡ i → a ≡ true) → on_pid n (cond a [] (arrival_of x)) ≡ []
  unfolding on_pid
  none_taken true x b f = refl
  none_taken false x b f = other_input x b (λ (e : x.input ≡ i). true≢false (sym (f e)))

  after_near : (c : Card) (xs : List Given) → AllStand c → OfBytes xs → near (shown_by c) i ≡ true → on_pid n (taken (shown_by c) xs) ≡ []
  unfolding taken on_pid
  after_near c [] st b e = refl
  after_near c (x ∷ xs) st b e =
      on_append n (taken_by (shown_by c) x) (taken (rules_act (shown_by c) x) xs)
      ∙ ap (λ (l : List Packet). l ++ on_pid n (taken (rules_act (shown_by c) x) xs)) (none_taken (near (shown_by c) x.input) x b.0 (λ q. ap (near (shown_by c)) q ∙ e))
      ∙ ap (λ (y : Held Gates). on_pid n (taken y xs)) (sym (call_shows c x st b.0))
      ∙ after_near (acts c x) xs (call_stands c x st b.0) b.1 (near_stays c x st b.0 i e)

  pub first_taken : (c : Card) (xs : List Given) → AllStand c → OfBytes xs → First (on_pid n (taken (shown_by c) xs)) (on_pid n (arrivals xs))
  unfolding taken arrivals on_pid
  first_taken c [] st b = record { rest = []; all = refl }
  first_taken c (x ∷ xs) st b = go (near (shown_by c) x.input) refl (subst (λ (y : Held Gates). First (on_pid n (taken y xs)) (on_pid n (arrivals xs))) (call_shows c x st b.0) (first_taken (acts c x) xs (call_stands c x st b.0) b.1))
    where
      U : List Arrival
      U = taken (rules_act (shown_by c) x) xs

      go : (a : Bool) → near (shown_by c) x.input ≡ a → First (on_pid n U) (on_pid n (arrivals xs)) → First (on_pid n (cond a [] (arrival_of x) ++ U)) (on_pid n (arrival_of x ++ arrivals xs))
      go false e f = record {
        rest = f.rest;
        all = on_append n (arrival_of x) (arrivals xs) ∙ ap (λ (l : List Packet). on_pid n (arrival_of x) ++ l) f.all ∙ sym (append_assoc (on_pid n (arrival_of x)) (on_pid n U) f.rest)
            ∙ ap (λ (l : List Packet). l ++ f.rest) (sym (on_append n (arrival_of x) U));
      }
      go true e f =
          by_cases (ℕ_discrete x.input i)
          (λ (q : x.input ≡ i).
          let z : on_pid n U ≡ [] =
          ap (λ (y : Held Gates). on_pid n (taken y xs)) (sym (call_shows c x st b.0))
          ∙ after_near (acts c x) xs (call_stands c x st b.0) b.1 (near_stays c x st b.0 i (ap (near (shown_by c)) (sym q) ∙ e)) in
          record { rest = on_pid n (arrival_of x ++ arrivals xs); all = ap (λ (l : List Packet). l ++ on_pid n (arrival_of x ++ arrivals xs)) (sym z) })
          (λ (q : ¬ (x.input ≡ i)). record {
            rest = f.rest;
            all = on_append n (arrival_of x) (arrivals xs) ∙ ap (λ (l : List Packet). l ++ on_pid n (arrivals xs)) (other_input x b.0 q) ∙ f.all;
          })
