-- What stays as it was: an answer other than 29 leaves everything but the counts that it names.
-- Assumes nothing.
use mathlib.Core.Path.{◌≡◌}
use mathlib.Core.List.{List}
use Prim.Native.Nat.{ℕ}
use Rattle.demux_state.specs.State.{number_of}
use Rattle.demux_judge.specs.Verdicts.{Verdict}
use Rattle.std.specs.Prelude.{Err, Ok}
use Rattle.demux_store.proofs.Before.{Before, refused_before, planned_before}
use Rattle.demux_indexed_turns.specs.Acts.{words_by, tells_by, acts_by}
use Rattle.demux_indexed_store.specs.Carried.{Store}
use Rattle.demux_indexed_store.specs.Store.{judged_in, verdict_in, fed}

pub as_before_lem : (s : Store) (input : ℕ) (packet : List ℕ) → (number_of (fed s input packet).answer ≡ 29 → ⊥) → Before s (fed s input packet)
unfolding fed judged_in
as_before_lem s input packet = go (verdict_in s input packet)
  where
    go : (v : Verdict) → (number_of (judged_in s input packet v).answer ≡ 29 → ⊥) → Before s (judged_in s input packet v)
    go (Err r) h = refused_before s r
    go (Ok p) h = planned_before s words_by tells_by acts_by input packet p h
