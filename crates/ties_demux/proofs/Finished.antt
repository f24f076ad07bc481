-- What the calls of a history tell of a PID is what the rules finish on it, of the payloads of the calls that were not refused; and these are the first ones that
-- arrive on it: once 11 is answered on an input it is answered for ever.
-- Assumes nothing.
use mathlib.Core.Path.{◌≡◌, refl, sym, ap, subst, ◌∙◌}
use mathlib.Core.Logic.{◌≢◌, by_cases}
use mathlib.Core.Bool.{Bool, true, false, cond, ◌||◌}
use mathlib.Core.Option.{Option, none, some}
use mathlib.Core.List.{List, [], ◌∷◌, ◌++◌, append_assoc}
use Prim.Native.Nat.{ℕ, ◌+◌, ◌*◌, ◌/◌, ◌≤◌, ◌<◌}
use native.Mathlib.Decide.{ℕ_discrete}
use native.Mathlib.Omega.{arith}
use lib.Dec.{eqb, ltb, leb}
use borrow.Author.Tests.{eq-eqb, ne_eqb, eqb-true, le-leb, leb-true}
use Rattle.section.specs.Facts.{Bytes as AllBytes}
use Rattle.packet.specs.declared.Packet.{Packet as Read}
use Rattle.packet.specs.declared.Packet.TheVariants.{Malformed, Nothing, Payload}
use Rattle.packet.specs.Packets.{packet_of}
use Rattle.packet.proofs.Loads.{as_read}
use Rattle.transport.specs.Rules.{Bytes, Packet}
use Rattle.transport.specs.Receiver.{HeldOf, Arrival, Streams, feeds, finished_on, on_pid}
use Rattle.counters.specs.declared.Counters.{Counters}
use Rattle.streams.specs.declared.Streams.{Streams as Counted}
use Rattle.ties_streams.specs.View.{lowest_of}
use Rattle.pats.specs.Store.{Record}
use Rattle.demux_state.specs.State.{any_near, is_near, packet_counted, malformed_counted}
use Rattle.demux_judge.specs.Verdicts.{pat_count}
use Rattle.demux_steady.proofs.Sections.{Rises}
use Rattle.ties_demux.specs.Rules.{on_card, Held, Fed, free_in, counts_with, payload_fed, only_counted, packet_fed, refused, near_in, fed_by}
use Rattle.ties_demux.specs.Card.{Gates, Card, watched_on, tells_on, acts_on, gate_near, pats_near, Told, card_acts, shown_by, AllStand}
use Rattle.ties_demux.specs.History.{Given, OfBytes, tells, acts, ruled, rules_tell, rules_act, arrival_in, arrival_of, arrivals, on_it, finished_by}
use Rattle.ties_demux.proofs.Feed.{SameCall}
use Rattle.ties_demux.proofs.History.{call, call_tells_lem, call_shows, call_stands}

abbrev pub near : Held Gates → ℕ → Bool
near h i = near_in watched_on tells_on acts_on gate_near pats_near h i

-- ---- how many buffers an input has stays

module _ (h : Held Gates) (x : Given) where
  with_count : (t : Counted) → t.count ≡ (h.counts x.input).count → (j : ℕ) → (counts_with x.input t h.counts j).count ≡ (h.counts j).count
  with_count t e j = go (eqb j x.input) refl
    where
      go : (b : Bool) → eqb j x.input ≡ b → (cond b t (h.counts j)).count ≡ (h.counts j).count
      go true q = e ∙ ap (λ (m : ℕ). (h.counts m).count) (sym (eqb-true _ _ q))
      go false q = refl

  counts_stay : (j : ℕ) → ((rules_act h x).counts j).count ≡ (h.counts j).count
  unfolding fed_by packet_fed
  counts_stay j = go (near h x.input) (ltb x.input 16)
    where
      by : (p : Read) → ((packet_fed watched_on tells_on acts_on gate_near pats_near h x.input x.packet p).then.counts j).count ≡ (h.counts j).count
      by Malformed = with_count (malformed_counted (h.counts x.input)) refl j
      by Nothing = with_count (packet_counted (h.counts x.input)) refl j
      by (Payload l) = with_count (packet_counted (h.counts x.input)) refl j

      go : (a b : Bool)
          → ((cond a (refused watched_on tells_on acts_on gate_near pats_near h 11)
          (cond b (packet_fed watched_on tells_on acts_on gate_near pats_near h x.input x.packet (packet_of x.packet)) (refused watched_on tells_on acts_on gate_near pats_near h 37))).then.counts j).count
          ≡ (h.counts j).count
      go true b = refl
      go false true = by (packet_of x.packet)
      go false false = refl

  pub free_stays : free_in (rules_act h x).counts ≡ free_in h.counts
  free_stays = λ a f m. lowest_of (counts_stay (m / 8192) a) (λ q. f (m / 8192 * 8192 + q))

-- ---- one call

-- what it gives to the streams: nothing where it is refused
abbrev pub taken_by : Held Gates → Given → List Arrival
taken_by h x = cond (near h x.input) [] (arrival_of x)

unfoldable pub taken : Held Gates → List Given → List Arrival
taken h [] = []
taken h (x ∷ xs) = taken_by h x ++ taken (rules_act h x) xs

no_sections : (b : Bool) → ◌≡◌ {A = List Bytes} (cond b [] []) []
no_sections true = refl
no_sections false = refl

module _ (n : ℕ) where
  abbrev finishes : (Streams → ℕ → Option ℕ) → HeldOf Gates → List Arrival → List Bytes
  finishes free w T = finished_on watched_on acts_on free n w T

  one_call : (h : Held Gates) (x : Given) (U : List Arrival)
      → finishes (free_in h.counts) h.held (taken_by h x ++ U) ≡ cond (on_it n (arrival_of x)) (ruled h x).sections [] ++ finishes (free_in h.counts) (rules_act h x).held U
  unfolding fed_by packet_fed finished_on
  one_call h x U = go (near h x.input) (ltb x.input 16)
    where
      free : Streams → ℕ → Option ℕ
      free = free_in h.counts

      as_packet : Read → Fed Gates
      as_packet p = packet_fed watched_on tells_on acts_on gate_near pats_near h x.input x.packet p

      by : (p : Read) → finishes free h.held (arrival_in x.input x.packet p ++ U) ≡ cond (on_it n (arrival_in x.input x.packet p)) (as_packet p).sections [] ++ finishes free (as_packet p).then.held U
      by Malformed = refl
      by Nothing = refl
      by (Payload l) = refl

      none_told : (b : Bool) → finishes free h.held U ≡ cond b [] [] ++ finishes free h.held U
      none_told b = ap (λ (y : List Bytes). y ++ finishes free h.held U) (sym (no_sections b))

      go : (a b : Bool)
          → finishes free h.held (cond a [] (cond b (arrival_in x.input x.packet (packet_of x.packet)) []) ++ U)
          ≡ cond (on_it n (cond b (arrival_in x.input x.packet (packet_of x.packet)) []))
          (cond a (refused watched_on tells_on acts_on gate_near pats_near h 11) (cond b (as_packet (packet_of x.packet)) (refused watched_on tells_on acts_on gate_near pats_near h 37))).sections []
          ++ finishes free (cond a (refused watched_on tells_on acts_on gate_near pats_near h 11) (cond b (as_packet (packet_of x.packet)) (refused watched_on tells_on acts_on gate_near pats_near h 37))).then.held U
      go true b = none_told (on_it n (cond b (arrival_in x.input x.packet (packet_of x.packet)) []))
      go false true = by (packet_of x.packet)
      go false false = refl

  -- ---- all calls

  pub finished_are : (c : Card) (xs : List Given) → AllStand c → OfBytes xs → finished_by n c xs ≡ finishes (free_in (shown_by c).counts) (shown_by c).held (taken (shown_by c) xs)
  unfolding finished_by taken finished_on
  finished_are c [] st b = refl
  finished_are c (x ∷ xs) st b =
      let h : Held Gates = shown_by c in
      let shows : shown_by (acts c x) ≡ rules_act h x = call_shows c x st b.0 in
      let first : (tells c x).sections ≡ (ruled h x).sections = ap (λ (t : Told). t.sections) (call_tells_lem c x st b.0) in
      let rest : finished_by n (acts c x) xs ≡ finishes (free_in h.counts) (rules_act h x).held (taken (rules_act h x) xs) =
      finished_are (acts c x) xs (call_stands c x st b.0) b.1 ∙ ap (λ (y : Held Gates). finishes (free_in y.counts) y.held (taken y xs)) shows
      ∙ ap (λ (f : Streams → ℕ → Option ℕ). finishes f (rules_act h x).held (taken (rules_act h x) xs)) (free_stays h x) in
      (λ i. cond (on_it n (arrival_of x)) (first i) [] ++ rest i) ∙ sym (one_call h x (taken (rules_act h x) xs))
