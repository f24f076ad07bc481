-- A packet over the gate with an index and over the gate without, for every content of the lent slices: where the gate is an opened one and the buffers hold bytes, both
-- answer alike and leave alike.
-- Assumes nothing.
use mathlib.Core.Path.{◌≡◌, refl, sym, ap, subst}
use mathlib.Core.Bool.{Bool, true, cond}
use mathlib.Core.List.{List, ◌++◌}
use Prim.Native.Nat.{ℕ, ◌+◌, ◌*◌, ◌≤◌}
use native.Mathlib.Omega.{arith}
use lib.ListN.{length, take, drop}
use Rattle.section.specs.Facts.{Bytes}
use Rattle.answers.specs.declared.Refusal.TheVariants.{NotWhole}
use Rattle.assemble.specs.Store.{buffer_after}
use Rattle.assemble.proofs.Ties.{buffer_bytes, all_take, all_drop, all_append}
use Rattle.streams.specs.Store.{words_at, buffer_at, pids_read, buffers_read, places_read, count_read}
use Rattle.gate_pats.specs.Store.{Kept}
use Rattle.gate_pats_indexed.specs.Store.{KeptBy, sections_by}
use Rattle.ties_gate.proofs.Indexed as low
use Rattle.demux_state.specs.State.{finished, packet_counted}
use Rattle.demux_packets.specs.declared.Reading.{Reading}
use Rattle.demux_packets.specs.declared.Plan.{Plan}
use Rattle.demux_packets.specs.declared.Plan.TheVariants.{Malformed, Nothing, Unwatched, NoBuffer, Read}
use Rattle.demux_packets.specs.Plans.{Reads}
use Rattle.demux_judge.specs.Verdicts.{Verdict}
use Rattle.std.specs.Prelude.{Err, Ok}
use Rattle.demux_steady.specs.Steady.{words_in, tells, acts, Steady}
use Rattle.demux_steady.proofs.Steady.{fewer}
use Rattle.demux_turns.specs.Turns.{OffersOf, offers_with}
use Rattle.demux_store.specs.Carried.{StoreOf, store_of, LeftOf, left, read_by, planned_by, ReadsWith, PlanWith}
use Rattle.demux_store.specs.Store.{judged_in, verdict_in, fed}
use Rattle.demux_store.proofs.Carried.{fits, at_most_61}
use Rattle.demux_store.proofs.Laws.{feed_takes}
use Rattle.demux_indexed_turns.specs.Acts.{words_by, tells_by, acts_by}
use Rattle.demux_indexed_judge.specs.Verdicts.{verdict_by}
use Rattle.demux_indexed_store.specs.Store as indexed
use Rattle.ties_demux_indexed.specs.Card.{bare, bare_left}
use Rattle.ties_demux_indexed.proofs.Turns.{Alike, turns_same}

-- what both left
pub record AlikeLeft (l : LeftOf KeptBy) (k : LeftOf Kept) : Type 0 where
  pub same : bare_left l ≡ k
  pub rows : low.OpenedBy (sections_by l.store.gate)
  pub bytes : Bytes k.store.buffers

-- a payload leaves bytes in the buffers
read_bytes : (pids buffers places packet : List ℕ) (r : Reading) → Reads pids buffers places r packet → Bytes buffers → Bytes packet → Bytes (buffers_read r.number r.fresh pids buffers r.load packet)
read_bytes pids buffers places packet r x b p =
    let at : ℕ = r.number * 4288 in
    let y : List ℕ = buffer_after r.fresh (words_at pids r.load.pid) (buffer_at buffers r.number) r.load packet in
    let z : Bytes y =
    buffer_bytes r.fresh (words_at pids r.load.pid) (buffer_at buffers r.number) r.number r.load packet places (fits pids buffers places packet r x) (all_take 4288 (drop at buffers) (all_drop at buffers b)) p in
    all_append (take at buffers ++ take 4288 y) (drop (at + 4288) buffers) (all_append (take at buffers) (take 4288 y) (all_take at buffers b) (all_take 4288 y z)) (all_drop (at + 4288) buffers b)

module _ (s : StoreOf KeptBy) (input : ℕ) (packet : List ℕ) (p : Bytes packet) (b : Bytes s.buffers) (rows : low.OpenedBy (sections_by s.gate)) where
  read_same : (r : Reading) → ReadsWith (Steady 64) (bare s) packet r → AlikeLeft (read_by words_by tells_by acts_by s input packet r) (read_by words_in tells acts (bare s) input packet r)
  unfolding read_by
  read_same r o =
      let n : ℕ = count_read r.number r.fresh s.pids s.buffers r.load packet in
      let most : n ≤ 61 = at_most_61 s.pids s.buffers s.places packet r o.reads in
      let buffers : List ℕ = buffers_read r.number r.fresh s.pids s.buffers r.load packet in
      let bytes : Bytes buffers = read_bytes s.pids s.buffers s.places packet r o.reads b p in
      let start : OffersOf KeptBy =
      offers_with s.gate (pids_read r.number r.fresh s.pids s.buffers r.load packet) (places_read r.number r.fresh s.pids s.buffers r.load packet s.places) in
      let y = turns_same packet buffers p bytes input r.load.pid.0 n 0 start (record { rows = rows; steady = fewer 64 n (omega arith) s.gate.kept o.steady }) in
      record {
        same = λ i. left (finished n) (store_of (y.same i).gate (packet_counted s.streams) (y.same i).pids buffers (y.same i).places);
        rows = y.rows;
        bytes = bytes;
      }

  planned_same : (x : Plan) → PlanWith (Steady 64) (bare s) packet x → AlikeLeft (planned_by words_by tells_by acts_by s input packet x) (planned_by words_in tells acts (bare s) input packet x)
  unfolding planned_by
  planned_same Malformed o = record { same = refl; rows = rows; bytes = b }
  planned_same Nothing o = record { same = refl; rows = rows; bytes = b }
  planned_same (Unwatched pid) o = record { same = refl; rows = rows; bytes = b }
  planned_same NoBuffer o = record { same = refl; rows = rows; bytes = b }
  planned_same (Read r) o = read_same r o

  -- 10 for want of a bucket or a link does not occur
  same_verdict : indexed.verdict_in s input packet ≡ verdict_in (bare s) input packet
  unfolding verdict_by
  same_verdict = ap (λ (w : Bool). cond w (verdict_in (bare s) input packet) (Err NotWhole)) (low.opened_whole_by (sections_by s.gate) rows)

  judged_same : (v : Verdict) → verdict_in (bare s) input packet ≡ v → AlikeLeft (indexed.judged_in s input packet v) (judged_in (bare s) input packet v)
  unfolding indexed.judged_in judged_in
  judged_same (Err r) e = record { same = refl; rows = rows; bytes = b }
  judged_same (Ok x) e = planned_same x (feed_takes (bare s) input packet (verdict_in (bare s) input packet) refl p x e).plan

  -- every packet
  pub fed_same : AlikeLeft (indexed.fed s input packet) (fed (bare s) input packet)
  unfolding indexed.fed fed
  fed_same =
      subst (λ (v : Verdict). AlikeLeft (indexed.judged_in s input packet v) (judged_in (bare s) input packet (verdict_in (bare s) input packet))) (sym same_verdict)
      (judged_same (verdict_in (bare s) input packet) refl)
