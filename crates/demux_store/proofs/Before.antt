-- What stays as it was: an answer other than 29 leaves everything but the counts that it names. Open in the gate.
-- Assumes nothing.
use mathlib.Core.Path.{◌≡◌, refl}
use mathlib.Core.List.{List}
use Prim.Native.Nat.{ℕ}
use Rattle.answers.specs.Answers.{refusal_no}
use Rattle.answers.specs.declared.Refusal.{Refusal}
use Rattle.answers.specs.declared.Refusal.TheVariants as refusal
use Rattle.gate_state.specs.State.{Said}
use Rattle.demux_state.specs.State.{plain, number_of}
use Rattle.demux_packets.specs.declared.Plan.{Plan}
use Rattle.demux_packets.specs.declared.Plan.TheVariants.{Malformed, Nothing, Unwatched, NoBuffer, Read}
use Rattle.demux_judge.specs.Verdicts.{Verdict}
use Rattle.std.specs.Prelude.{Err, Ok}
use Rattle.demux_store.specs.Carried.{StoreOf, LeftOf, left, read_by, planned_by, with_streams, counted_by}
use Rattle.demux_store.specs.Store.{Store, judged_in, verdict_in, fed}
use Rattle.demux_steady.specs.Steady.{words_in, tells, acts}

-- the answer has no number of sections, and only counts differ
pub record Before {S : Type 0} (s : StoreOf S) (l : LeftOf S) : Type 0 where
  pub said : l.answer ≡ plain (number_of l.answer)
  pub store : l.store ≡ with_streams s (counted_by (number_of l.answer) s.streams)

module _ {S : Type 0} (s : StoreOf S) where
  -- no refusal counts
  pub refused_before : (r : Refusal) → Before s (left (plain (refusal_no r)) s)
  refused_before refusal.NotWhole = record { said = refl; store = refl }
  refused_before refusal.CounterFull = record { said = refl; store = refl }
  refused_before refusal.BadPid = record { said = refl; store = refl }
  refused_before refusal.TooLittle = record { said = refl; store = refl }
  refused_before refusal.Malformed = record { said = refl; store = refl }
  refused_before refusal.ShortForm = record { said = refl; store = refl }
  refused_before refusal.BadNumber = record { said = refl; store = refl }
  refused_before refusal.BadCrc = record { said = refl; store = refl }
  refused_before refusal.NotEit = record { said = refl; store = refl }
  refused_before refusal.Broken = record { said = refl; store = refl }
  refused_before refusal.TooLong = record { said = refl; store = refl }
  refused_before refusal.NoCell = record { said = refl; store = refl }
  refused_before refusal.Conflict = record { said = refl; store = refl }
  refused_before refusal.Range = record { said = refl; store = refl }
  refused_before refusal.BadInput = record { said = refl; store = refl }
  refused_before refusal.NoPid = record { said = refl; store = refl }

  module _ (words_of : S → List ℕ) (tells_of : S → (input pid : ℕ) → List ℕ → Said) (acts_of : S → (input pid : ℕ) → List ℕ → S) (input : ℕ) (packet : List ℕ) where
    -- 30 adds 1 to packets and malformed, 43 to packets
    pub planned_before : (p : Plan) → (number_of (planned_by words_of tells_of acts_of s input packet p).answer ≡ 29 → ⊥) → Before s (planned_by words_of tells_of acts_of s input packet p)
    unfolding planned_by read_by
    planned_before Malformed h = record { said = refl; store = refl }
    planned_before Nothing h = absurd (h refl)
    planned_before (Unwatched pid) h = absurd (h refl)
    planned_before NoBuffer h = record { said = refl; store = refl }
    planned_before (Read r) h = absurd (h refl)

pub as_before_lem : (s : Store) (input : ℕ) (packet : List ℕ) → (number_of (fed s input packet).answer ≡ 29 → ⊥) → Before s (fed s input packet)
unfolding fed judged_in
as_before_lem s input packet = go (verdict_in s input packet)
  where
    go : (v : Verdict) → (number_of (judged_in s input packet v).answer ≡ 29 → ⊥) → Before s (judged_in s input packet v)
    go (Err r) h = refused_before s r
    go (Ok p) h = planned_before s words_in tells acts input packet p h
