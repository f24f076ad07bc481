-- What a packet comes to before anything is written, where the gate's rows have an index (docs/RULES.md, "Packets"). `cond test a b` is a where the test is true,
-- else b.
use Rattle.std.specs.Prelude.{cond, List, ℕ, length}
use Rattle.answers.specs.declared.Refusal.TheVariants.{NotWhole}
use Rattle.counters.specs.declared.Counters.{Counters}
use Rattle.gate_state.specs.declared.Gate.{Gate}
use Rattle.gate_indexed.specs.Store.{whole_by}
use Rattle.pats.specs.Store.{Record}
use Rattle.streams.specs.declared.Streams.{Streams}
use Rattle.demux_judge.specs.Verdicts.{Verdict}
use Rattle.std.specs.Prelude.{Err}
use Rattle.demux_judge.specs.Verdicts.{verdict_of}

-- 10 also where a row has no bucket or no link; else as without an index
unfoldable pub verdict_by : Gate → Counters → Streams → (keys changes buckets links : ℕ) → Record → (pids : List ℕ) → (bytes input : ℕ) → (packet : List ℕ) → (places : ℕ) → Verdict
verdict_by g c s keys changes buckets links r pids bytes input packet places =
    cond (whole_by g keys changes buckets links (length r.words)) (verdict_of g c s keys changes r pids bytes input packet places) (Err NotWhole)
