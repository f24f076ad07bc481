-- A packet that is counted, open in the gate: one law for each way out, and what each asks of the next.
-- Assumes nothing.
use mathlib.Core.Path.{◌≡◌, refl, subst, ◌∙◌}
use mathlib.Core.Bool.{Bool, true, false, cond}
use mathlib.Core.List.{List}
use Prim.Native.Nat.{ℕ, ◌*◌, ◌≤◌, ◌<◌}
use native.Mathlib.Omega.{arith}
use lib.Dec.{ltb}
use lib.ListN.{length, drop, length-drop}
use lib.Seq.{length-take-le}
use borrow.Author.Tests.{ltb-true}
use Rattle.laws.specs.Bits.{has_bit}
use Rattle.counters.specs.declared.Counters.{Counters}
use Rattle.section.specs.Facts.{Bytes}
use Rattle.section.specs.declared.ids.Pid.{Pid}
use Rattle.packet.specs.declared.Load.{Load}
use Rattle.packet.specs.declared.Packet.{Packet}
use Rattle.packet.specs.declared.Packet.TheVariants as read
use Rattle.packet.specs.Packets.{packet_of, IsLoad}
use Rattle.packet.proofs.Loads.{as_read}
use Rattle.assemble.specs.Store.{Fits}
use Rattle.assemble.proofs.Ties.{same_count, few_sections}
use Rattle.streams.specs.Store.{words_at, buffer_at, is_fresh, used_buffer, with_words, pids_read, buffers_read, places_read, count_read, InWords}
use Rattle.streams.specs.declared.Streams.{Streams}
use Rattle.gate_state.specs.State.{Said}
use Rattle.gate_state.specs.declared.Gate.{Gate}
use Rattle.pats.specs.Store.{Record}
use Rattle.demux_state.specs.State.{plain, finished, packet_counted, malformed_counted}
use Rattle.demux_packets.specs.declared.Reading.{Reading}
use Rattle.demux_packets.specs.declared.Plan.{Plan}
use Rattle.demux_packets.specs.declared.Plan.TheVariants.{Malformed, Nothing, Unwatched, NoBuffer, Read}
use Rattle.demux_packets.specs.Plans.{reading, no_words, buffer_plan, load_plan, packet_plan, plan_of, Reads}
use Rattle.demux_judge.proofs.Laws.{Goings}
use Rattle.demux_turns.specs.Turns.{OffersOf, offers_with, turns_by, TurnsOf}
use Rattle.demux_store.specs.Carried.{StoreOf, store_of, LeftOf, left, with_streams, forgotten, read_by, planned_by, ReadsWith, PlanWith, TakesWith}

-- ---- the payload

module _ (pids buffers places packet : List ℕ) (r : Reading) (x : Reads pids buffers places r packet) where
  pub fits : Fits (buffer_at buffers r.number) r.number r.load packet places
  fits =
      let b = x.bytes in
      record {
        room = length-take-le 4288 (drop (r.number * 4288) buffers) (omega (arith, length-drop (r.number * 4288) buffers));
        numbered = x.few;
        counted = x.load.counted;
        headed = x.load.headed;
        inside = x.load.inside;
        long = x.load.long;
        listed = x.listed;
      }

  pub at_most_61 : count_read r.number r.fresh pids buffers r.load packet ≤ 61
  at_most_61 =
      omega (
        arith,
        same_count r.fresh (words_at pids r.load.pid) (buffer_at buffers r.number) r.number r.load packet places fits,
        few_sections r.fresh (words_at pids r.load.pid) (buffer_at buffers r.number) r.number r.load packet places fits,
      )

module _ {S : Type 0} (steady : ℕ → S → Type 0) (fewer : (m n : ℕ) → n ≤ m → (s : S) → steady m s → steady n s) (s : StoreOf S) (packet : List ℕ) (r : Reading) (o : ReadsWith (steady 64) s packet r) where
  pub turns_ok : (n : ℕ) (pids places : List ℕ) → n ≡ count_read r.number r.fresh s.pids s.buffers r.load packet → length pids ≡ length s.pids
      → length places ≡ length s.places → TurnsOf steady (offers_with s.gate pids places) n
  turns_ok n pids places e p q =
      let m = at_most_61 s.pids s.buffers s.places packet r o.reads in
      let x = o.reads.words in
      let y = o.reads.listed in
      record { steady = fewer 64 n (omega arith) s.gate o.steady; long = omega arith; listed = omega arith }

module _ {S : Type 0} (words_in : S → List ℕ) (tells : S → (input pid : ℕ) → List ℕ → Said) (acts : S → (input pid : ℕ) → List ℕ → S) (s : StoreOf S) (input : ℕ) (packet : List ℕ) where
  pub payload_read : (r : Reading) (n : ℕ) (pids buffers places : List ℕ) (o : OffersOf S) (t : Streams)
      → n ≡ count_read r.number r.fresh s.pids s.buffers r.load packet
      → pids ≡ pids_read r.number r.fresh s.pids s.buffers r.load packet
      → buffers ≡ buffers_read r.number r.fresh s.pids s.buffers r.load packet
      → places ≡ places_read r.number r.fresh s.pids s.buffers r.load packet s.places
      → o ≡ turns_by words_in tells acts packet buffers input r.load.pid.0 n 0 (offers_with s.gate pids places)
      → t ≡ packet_counted s.streams
      → left (finished n) (store_of o.gate t o.pids buffers o.places) ≡ read_by words_in tells acts s input packet r
  unfolding read_by
  payload_read r n pids buffers places o t e p b q h c =
      let x = h ∙ (λ i. turns_by words_in tells acts packet (b i) input r.load.pid.0 (e i) 0 (offers_with s.gate (p i) (q i))) in
      λ i. left (finished (e i)) (store_of (x i).gate (c i) (x i).pids (b i) (x i).places)

  -- ---- a packet that is counted

  module _ (p : Plan) where
    abbrev planned : LeftOf S
    planned = planned_by words_in tells acts s input packet p

    module _ (t : Streams) where
      pub planned_malformed : p ≡ Malformed → t ≡ malformed_counted s.streams → left (plain 30) (with_streams s t) ≡ planned
      unfolding planned_by
      planned_malformed e c = rw (e, c) refl

      pub planned_nothing : p ≡ Nothing → t ≡ packet_counted s.streams → left (finished 0) (with_streams s t) ≡ planned
      unfolding planned_by
      planned_nothing e c = rw (e, c) refl

      pub planned_unwatched : (pid : Pid) (pids : List ℕ) → p ≡ Unwatched pid → pids ≡ with_words s.pids pid no_words → t ≡ packet_counted s.streams
          → left (finished 0) (store_of s.gate t pids s.buffers s.places) ≡ planned
      unfolding planned_by
      planned_unwatched pid pids e w c = rw (e, w, c) refl

      pub planned_none : p ≡ NoBuffer → t ≡ packet_counted s.streams → left (plain 43) (with_streams s t) ≡ planned
      unfolding planned_by
      planned_none e c = rw (e, c) refl

    pub planned_read : (r : Reading) (l : LeftOf S) → p ≡ Read r → l ≡ read_by words_in tells acts s input packet r → l ≡ planned
    unfolding planned_by
    planned_read r l e q = rw e q

module _ {S : Type 0} (ready : S → Type 0) (s : StoreOf S) (packet : List ℕ) (p : Plan) where
  pub plan_forgets : TakesWith ready s packet p → (pid : Pid) → p ≡ Unwatched pid → InWords s.pids pid
  plan_forgets o pid e = subst (PlanWith ready s packet) e o.plan

  pub plan_reads : TakesWith ready s packet p → (r : Reading) → p ≡ Read r → ReadsWith ready s packet r
  plan_reads o r e = subst (PlanWith ready s packet) e o.plan

  -- what 10 and 11 asked is all that a packet needs
  pub goes_takes : (g : Gate) (c : Counters) (keys changes : ℕ) (w : Record) (input : ℕ) → Bytes packet
      → Goings g c s.streams keys changes w s.pids (length s.buffers) input packet (length s.places) p → ready s.gate → TakesWith ready s packet p
  unfolding plan_of packet_plan load_plan buffer_plan
  goes_takes g c keys changes w input b x steady = record { counts = x.spares.streams; plan = subst (PlanWith ready s packet) x.plan by_packet }
    where
      by_buffer : (l : Load) → IsLoad l packet → PlanWith ready s packet (buffer_plan s.streams.count s.pids l)
      by_buffer l k = go (ltb n s.streams.count) refl
        where
          n : ℕ
          n = used_buffer s.streams.count s.pids l.pid.0

          go : (y : Bool) → ltb n s.streams.count ≡ y → PlanWith ready s packet (cond y (Read (reading l n (is_fresh s.streams.count s.pids l.pid.0))) NoBuffer)
          go true q =
              let below : n < s.streams.count = ltb-true _ _ q in
              let f = x.whole.lent.few in
              let m = x.whole.lent.bytes in
              record {
                reads = record { load = k; words = x.whole.lent.words; few = omega arith; bytes = omega arith; listed = x.whole.listed };
                steady = steady;
                counts = x.spares.streams;
              }
          go false q = tt

      by_load : (l : Load) → IsLoad l packet → PlanWith ready s packet (load_plan w.words s.streams.count s.pids l)
      by_load l k = go (has_bit w.words l.pid.0)
        where
          go : (y : Bool) → PlanWith ready s packet (cond y (buffer_plan s.streams.count s.pids l) (Unwatched l.pid))
          go true = by_buffer l k
          go false = record { long = x.whole.lent.words; below = k.pid }

      by_packet : PlanWith ready s packet (plan_of w.words s.streams.count s.pids packet)
      by_packet = go (packet_of packet) refl
        where
          go : (y : Packet) → packet_of packet ≡ y → PlanWith ready s packet (packet_plan w.words s.streams.count s.pids y)
          go read.Malformed q = tt
          go read.Nothing q = tt
          go (read.Payload l) q = by_load l (as_read packet l b q)
