-- What each answer leaves as it was, on every store, damaged ones too: 10, 11 and 37 everything, 30 all but packets and malformed, 43 all but packets; and what each
-- answer adds to the two counts.
-- Assumes nothing.
use mathlib.Core.Path.{◌≡◌, refl, sym, ap, ◌∙◌}
use mathlib.Core.Bool.{Bool, true, false, cond, ◌||◌}
use mathlib.Core.List.{List}
use Prim.Native.Nat.{ℕ, ◌+◌}
use native.Mathlib.Omega.{arith}
use lib.Dec.{eqb, ltb}
use lib.ListN.{length}
use borrow.Author.Tests.{eqb-false}
use Rattle.answers.specs.declared.Refusal.TheVariants.{NotWhole, CounterFull, BadInput}
use Rattle.streams.specs.declared.Streams.{Streams}
use Rattle.demux_state.specs.State.{Said, plain, finished, number_of, packet_counted, malformed_counted, near_end}
use Rattle.demux_packets.specs.declared.Plan.{Plan}
use Rattle.demux_packets.specs.declared.Plan.TheVariants.{Malformed, Nothing, Unwatched, NoBuffer, Read}
use Rattle.demux_packets.specs.Plans.{plan_of}
use Rattle.demux_judge.specs.Verdicts.{Verdict}
use Rattle.std.specs.Prelude.{Err, Ok}
use Rattle.demux_judge.specs.Verdicts.{whole_with, pat_count, verdict_of}
use Rattle.demux_steady.specs.Steady.{words_in, tells, acts}
use Rattle.demux_store.specs.Carried.{left, with_streams, read_by, planned_by}
use Rattle.demux_store.specs.Store.{Store, Left, judged_in, fed}

-- what a packet left, by its answer
abbrev Leaves : Store → Left → Type 0
Leaves s l =
    (l.answer ≡ plain 10 → l.store ≡ s) × (l.answer ≡ plain 11 → l.store ≡ s) × (l.answer ≡ plain 37 → l.store ≡ s) × (l.answer ≡ plain 30 → l.store ≡ with_streams s (malformed_counted s.streams))
    × (l.answer ≡ plain 43 → l.store ≡ with_streams s (packet_counted s.streams))

-- the two counts after an answer
abbrev pub streams_after : Said → Streams → Streams
streams_after a s = cond (eqb (number_of a) 30) (malformed_counted s) (cond (eqb (number_of a) 29 || eqb (number_of a) 43) (packet_counted s) s)

-- an answer is no other
unlike : {A : Type 0} (a b : Said) → a ≡ b → eqb (number_of a) (number_of b) ≡ false → A
unlike a b e f = absurd (eqb-false (number_of a) (number_of b) f (ap number_of e))

took : {A : Type 0} (n m : ℕ) → finished n ≡ plain m → A
took n m e = let z : ◌≡◌ {A = ℕ} 0 1 = cc in absurd (omega arith)

module _ (s : Store) (input : ℕ) (packet : List ℕ) where
  refused_leaves : (n : ℕ) → eqb n 30 ≡ false → eqb n 43 ≡ false → Leaves s (left (plain n) s)
  refused_leaves n a b = (λ e. refl, λ e. refl, λ e. refl, λ e. unlike (plain n) (plain 30) e a, λ e. unlike (plain n) (plain 43) e b)

  taken_leaves : (n : ℕ) (t : Store) → Leaves s (left (finished n) t)
  taken_leaves n t = (λ e. took n 10 e, λ e. took n 11 e, λ e. took n 37 e, λ e. took n 30 e, λ e. took n 43 e)

  plan_leaves : (p : Plan) → Leaves s (planned_by words_in tells acts s input packet p)
  unfolding planned_by read_by
  plan_leaves Malformed =
      (λ e. unlike (plain 30) (plain 10) e refl, λ e. unlike (plain 30) (plain 11) e refl, λ e. unlike (plain 30) (plain 37) e refl, λ e. refl, λ e. unlike (plain 30) (plain 43) e refl)
  plan_leaves Nothing = taken_leaves 0 _
  plan_leaves (Unwatched pid) = taken_leaves 0 _
  plan_leaves NoBuffer =
      (λ e. unlike (plain 43) (plain 10) e refl, λ e. unlike (plain 43) (plain 11) e refl, λ e. unlike (plain 43) (plain 37) e refl, λ e. unlike (plain 43) (plain 30) e refl, λ e. refl)
  plan_leaves (Read r) = taken_leaves _ _

  pub as_before_lem : Leaves s (fed s input packet)
  unfolding fed judged_in verdict_of
  as_before_lem =
      go (whole_with s.gate.gate s.streams (length s.gate.keys) (length s.gate.changes) s.gate.watch (length s.pids) (length s.buffers) (length s.places))
      (near_end s.gate.counters s.streams (pat_count s.gate.gate.follow s.gate.watch.words)) (ltb input 16)
    where
      p : Plan
      p = plan_of s.gate.watch.words s.streams.count s.pids packet

      go : (a b d : Bool) → Leaves s (judged_in s input packet (cond a (cond b (Err CounterFull) (cond d (Ok p) (Err BadInput))) (Err NotWhole)))
      go true true d = refused_leaves 11 refl refl
      go true false true = plan_leaves p
      go true false false = refused_leaves 37 refl refl
      go false b d = refused_leaves 10 refl refl

  -- ---- the counts

  plan_counts : (p : Plan) → (planned_by words_in tells acts s input packet p).store.streams ≡ streams_after (planned_by words_in tells acts s input packet p).answer s.streams
  unfolding planned_by read_by
  plan_counts Malformed = refl
  plan_counts Nothing = refl
  plan_counts (Unwatched pid) = refl
  plan_counts NoBuffer = refl
  plan_counts (Read r) = refl

  pub counts_by_answer : (fed s input packet).store.streams ≡ streams_after (fed s input packet).answer s.streams
  unfolding fed judged_in verdict_of
  counts_by_answer =
      go (whole_with s.gate.gate s.streams (length s.gate.keys) (length s.gate.changes) s.gate.watch (length s.pids) (length s.buffers) (length s.places))
      (near_end s.gate.counters s.streams (pat_count s.gate.gate.follow s.gate.watch.words)) (ltb input 16)
    where
      p : Plan
      p = plan_of s.gate.watch.words s.streams.count s.pids packet

      go : (a b d : Bool)
          → (judged_in s input packet (cond a (cond b (Err CounterFull) (cond d (Ok p) (Err BadInput))) (Err NotWhole))).store.streams
          ≡ streams_after (judged_in s input packet (cond a (cond b (Err CounterFull) (cond d (Ok p) (Err BadInput))) (Err NotWhole))).answer s.streams
      go true true d = refl
      go true false true = plan_counts p
      go true false false = refl
      go false b d = refl
