-- A packet over the gate with an index: the one answer and the one content that are left, whatever is given (docs/RULES.md, "Packets").
use Rattle.std.specs.Prelude.{List, ℕ, length}
use Rattle.answers.specs.Answers.{refusal_no}
use Rattle.demux_state.specs.State.{plain}
use Rattle.demux_judge.specs.Verdicts.{Verdict}
use Rattle.std.specs.Prelude.{Err, Ok}
use Rattle.demux_indexed_judge.specs.Verdicts.{verdict_by}
use Rattle.demux_store.specs.Carried.{left}
use Rattle.demux_indexed_store.specs.Carried.{Store, Left, planned_in}

-- a refusal leaves all as it was
unfoldable pub judged_in : Store → (input : ℕ) → List ℕ → Verdict → Left
judged_in s input packet (Err r) = left (plain (refusal_no r)) s
judged_in s input packet (Ok p) = planned_in s input packet p

abbrev pub verdict_in : Store → (input : ℕ) → List ℕ → Verdict
verdict_in s input packet =
    verdict_by s.gate.kept.gate s.gate.kept.counters s.streams (length s.gate.kept.keys) (length s.gate.kept.changes) (length s.gate.index.buckets) (length s.gate.index.links)
    s.gate.kept.watch s.pids (length s.buffers) input packet (length s.places)

-- every store, input and packet: 10, 11, 37, then 30, 43 or 29
unfoldable pub fed : Store → (input : ℕ) → List ℕ → Left
fed s input packet = judged_in s input packet (verdict_in s input packet)
