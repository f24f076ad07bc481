-- One law for each way out of a function, and what each asks of the next.
-- Assumes nothing.
use mathlib.Core.Path.{◌≡◌, refl, sym, ◌∙◌}
use mathlib.Core.Bool.{true}
use mathlib.Core.List.{List}
use Prim.Native.Nat.{ℕ}
use lib.ListN.{length}
use Rattle.answers.specs.Answers.{refusal_no}
use Rattle.answers.specs.declared.Refusal.{Refusal}
use Rattle.section.specs.Facts.{Bytes}
use Rattle.gate_indexed.proofs.Laws.{fits_by}
use Rattle.demux_state.specs.State.{plain}
use Rattle.demux_packets.specs.declared.Plan.{Plan}
use Rattle.demux_judge.specs.Verdicts.{Verdict}
use Rattle.std.specs.Prelude.{Err, Ok}
use Rattle.demux_judge.proofs.Laws.{goings}
use Rattle.demux_indexed_judge.proofs.Laws.{goes_by}
use Rattle.demux_store.specs.Carried.{left}
use Rattle.demux_store.proofs.Carried.{goes_takes}
use Rattle.demux_store.proofs.Laws.{goes_steady}
use Rattle.demux_indexed_turns.specs.Offers.{SteadyBy}
use Rattle.demux_indexed_store.specs.Carried.{Store, Left, planned_in, TakesOk}
use Rattle.demux_indexed_store.specs.Store.{judged_in, verdict_in, fed}

-- ---- every packet

module _ (s : Store) (input : ℕ) (packet : List ℕ) (v : Verdict) (e : v ≡ verdict_in s input packet) where
  pub feed_refused : (r : Refusal) → v ≡ Err r → left (plain (refusal_no r)) s ≡ fed s input packet
  unfolding fed judged_in
  feed_refused r h = rw (← e, h) refl

  pub feed_goes : (p : Plan) (l : Left) → v ≡ Ok p → l ≡ planned_in s input packet p → l ≡ fed s input packet
  unfolding fed judged_in
  feed_goes p l h q = rw (← e, h) q

  pub feed_takes : Bytes packet → (p : Plan) → v ≡ Ok p → TakesOk s packet p
  feed_takes b p h =
      let k = s.gate.kept in
      let x = s.gate.index in
      let y =
      goes_by k.gate k.counters s.streams (length k.keys) (length k.changes) (length x.buckets) (length x.links) k.watch s.pids (length s.buffers) input packet (length s.places) p (sym e ∙ h) in
      let z = goings k.gate k.counters s.streams (length k.keys) (length k.changes) k.watch s.pids (length s.buffers) input packet (length s.places) p y.goes in
      let f = fits_by k.gate (length k.keys) (length k.changes) (length x.buckets) (length x.links) (length k.watch.words) true (sym y.whole) refl in
      goes_takes (SteadyBy 64) s packet p k.gate k.counters (length k.keys) (length k.changes) k.watch input b z
      (record { kept = goes_steady k s.streams s.pids (length s.buffers) input packet (length s.places) p z; covers = f.covers })
