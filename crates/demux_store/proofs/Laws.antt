-- One law for each way out of a function, and what each asks of the next.
-- Assumes nothing.
use mathlib.Core.Path.{◌≡◌, refl, sym, subst, ◌∙◌}
use mathlib.Core.Bool.{Bool, true, cond}
use mathlib.Core.List.{List}
use Prim.Native.Nat.{ℕ, ◌+◌, ◌^◌, ◌<◌}
use lib.ListN.{length}
use Rattle.pats.specs.Store.{pat_most}
use Rattle.answers.specs.Answers.{refusal_no}
use Rattle.answers.specs.declared.Refusal.{Refusal}
use Rattle.section.specs.Facts.{Bytes}
use Rattle.gate_state.specs.State.{by_tables}
use Rattle.streams.specs.declared.Streams.{Streams}
use Rattle.gate_pats.specs.Store.{Kept}
use Rattle.demux_state.specs.State.{plain}
use Rattle.demux_packets.specs.declared.Plan.{Plan}
use Rattle.demux_judge.specs.Verdicts.{Verdict}
use Rattle.std.specs.Prelude.{Err, Ok}
use Rattle.demux_judge.proofs.Laws.{Goings, goings}
use Rattle.demux_steady.specs.Steady.{Steady}
use Rattle.demux_store.specs.Carried.{left}
use Rattle.demux_store.specs.Store.{Store, Left, planned_in, judged_in, verdict_in, fed, TakesOk}
use Rattle.demux_store.proofs.Carried.{goes_takes}

-- a gate and a record that 10 and 11 let pass can judge 64 sections
module _ (s : Kept) (t : Streams) (pids : List ℕ) (buffers input : ℕ) (packet : List ℕ) (places : ℕ) (p : Plan) where
  pub goes_steady : Goings s.gate s.counters t (length s.keys) (length s.changes) s.watch pids buffers input packet places p → Steady 64 s
  goes_steady x =
      record {
        whole = x.whole.gate;
        spare = x.spares.gate;
        pats = x.whole.pats;
        evictions = λ h. subst (λ (y : Bool). cond y (pat_most s.watch.words) 0 + 64 < 2 ^ 64) h x.spares.sets;
      }

-- ---- every packet

module _ (s : Store) (input : ℕ) (packet : List ℕ) (v : Verdict) (e : v ≡ verdict_in s input packet) where
  pub feed_refused : (r : Refusal) → v ≡ Err r → left (plain (refusal_no r)) s ≡ fed s input packet
  unfolding fed judged_in
  feed_refused r h = rw (← e, h) refl

  pub feed_goes : (p : Plan) (l : Left) → v ≡ Ok p → l ≡ planned_in s input packet p → l ≡ fed s input packet
  unfolding fed judged_in
  feed_goes p l h q = rw (← e, h) q

  pub feed_takes : Bytes packet → (p : Plan) → v ≡ Ok p → TakesOk s packet p
  feed_takes b p h =
      let x =
      goings s.gate.gate s.gate.counters s.streams (length s.gate.keys) (length s.gate.changes) s.gate.watch s.pids (length s.buffers) input packet (length s.places) p (sym e ∙ h) in
      goes_takes (Steady 64) s packet p s.gate.gate s.gate.counters (length s.gate.keys) (length s.gate.changes) s.gate.watch input b x
      (goes_steady s.gate s.streams s.pids (length s.buffers) input packet (length s.places) p x)
