-- One law for each way out of a function, and what is so of a packet that is counted.
-- Assumes nothing.
use mathlib.Core.Path.{◌≡◌, refl}
use mathlib.Core.Bool.{Bool, true, false, cond}
use mathlib.Core.List.{List}
use Prim.Native.Nat.{ℕ}
use native.Mathlib.Omega.{arith}
use lib.ListN.{length}
use Rattle.answers.specs.declared.Refusal.TheVariants.{NotWhole}
use Rattle.counters.specs.declared.Counters.{Counters}
use Rattle.gate_state.specs.declared.Gate.{Gate}
use Rattle.gate_indexed.specs.Store.{whole_by}
use Rattle.pats.specs.Store.{Record}
use Rattle.streams.specs.declared.Streams.{Streams}
use Rattle.demux_packets.specs.declared.Plan.{Plan}
use Rattle.demux_judge.specs.Verdicts.{Verdict}
use Rattle.std.specs.Prelude.{Err, Ok}
use Rattle.demux_judge.specs.Verdicts.{verdict_of}
use Rattle.demux_indexed_judge.specs.Verdicts.{verdict_by}

module _ (g : Gate) (c : Counters) (s : Streams) (keys changes buckets links : ℕ) (r : Record) (pids : List ℕ) (bytes input : ℕ) (packet : List ℕ) (places : ℕ) (w : Bool)
    (e : w ≡ whole_by g keys changes buckets links (length r.words)) where
  pub judge_whole : (v : Verdict) → w ≡ true → v ≡ verdict_of g c s keys changes r pids bytes input packet places → v ≡ verdict_by g c s keys changes buckets links r pids bytes input packet places
  unfolding verdict_by
  judge_whole v h q = rw (← e, h) q

  pub judge_not : w ≡ false → Err NotWhole ≡ verdict_by g c s keys changes buckets links r pids bytes input packet places
  unfolding verdict_by
  judge_not h = rw (← e, h) refl

-- what goes has its buckets and links, and goes without an index too
pub record GoesBy (g : Gate) (c : Counters) (s : Streams) (keys changes buckets links : ℕ) (r : Record) (pids : List ℕ) (bytes input : ℕ) (packet : List ℕ) (places : ℕ) (p : Plan) : Type 0 where
  pub whole : whole_by g keys changes buckets links (length r.words) ≡ true
  pub goes : verdict_of g c s keys changes r pids bytes input packet places ≡ Ok p

pub goes_by : (g : Gate) (c : Counters) (s : Streams) (keys changes buckets links : ℕ) (r : Record) (pids : List ℕ) (bytes input : ℕ) (packet : List ℕ) (places : ℕ) (p : Plan)
    → verdict_by g c s keys changes buckets links r pids bytes input packet places ≡ Ok p → GoesBy g c s keys changes buckets links r pids bytes input packet places p
unfolding verdict_by
goes_by g c s keys changes buckets links r pids bytes input packet places p = go (whole_by g keys changes buckets links (length r.words)) refl
  where
    go : (b : Bool) → whole_by g keys changes buckets links (length r.words) ≡ b
        → cond b (verdict_of g c s keys changes r pids bytes input packet places) (Err NotWhole) ≡ Ok p → GoesBy g c s keys changes buckets links r pids bytes input packet places p
    go true w e = record { whole = w; goes = e }
    go false w e = let q : ◌≡◌ {A = ℕ} 0 1 = cc in absurd (omega arith)
