-- Packets fed one after another while they are passed over (docs/RULES.md, "Packets"), open in the gate. `cond test a b` is a where the test is true, else b.
use Rattle.std.specs.Prelude.{Bool, true, false, cond, List, ℕ, zero, suc, ◌+◌, ◌-◌, ◌/◌, ◌<◌, ltb, length, take, drop}
use Rattle.streams.specs.declared.Streams.{Streams}
use Rattle.passing.specs.Passing as over
use Rattle.passing.specs.Passing.{passed_from, Looks}
use Rattle.demux_packets.specs.declared.Plan.{Plan}
use Rattle.demux_packets.specs.declared.Plan.TheVariants.{Malformed, Nothing, Unwatched, NoBuffer, Read}
use Rattle.demux_judge.specs.Verdicts.{Verdict}
use Rattle.std.specs.Prelude.{Err, Ok}
use Rattle.demux_store.specs.Carried.{StoreOf, LeftOf}
use Rattle.demux_pass.specs.declared.Passed.{Passed}

-- 29 with 0 sections, and nothing is read: no payload that can be read, or a PID that is not watched
unfoldable pub plan_passes : Plan → Bool
plan_passes Malformed = false
plan_passes Nothing = true
plan_passes (Unwatched pid) = true
plan_passes NoBuffer = false
plan_passes (Read r) = false

unfoldable pub is_passed : Verdict → Bool
is_passed (Err r) = false
is_passed (Ok p) = plan_passes p

-- how many packets were passed over, and what is left
pub record PassingOf (S : Type 0) : Type 0 where
  pub number : ℕ
  pub store : StoreOf S

abbrev pub gone : {S : Type 0} → ℕ → StoreOf S → PassingOf S
gone n s = record { number = n; store = s }

abbrev pub one_more : {S : Type 0} → PassingOf S → PassingOf S
one_more p = gone (1 + p.number) p.store

-- of the first `most` packets those before the first that is not passed over, each fed
module _ {S : Type 0} (verdict : StoreOf S → (input : ℕ) → List ℕ → Verdict) (feeds : StoreOf S → (input : ℕ) → List ℕ → LeftOf S) where
  unfoldable pub passing_by : (most : ℕ) → StoreOf S → (input : ℕ) → List ℕ → PassingOf S
  passing_by zero s input packets = gone 0 s
  passing_by (suc k) s input packets =
      cond (is_passed (verdict s input (take 188 packets))) (one_more (passing_by k (feeds s input (take 188 packets)).store input (drop 188 packets))) (gone 0 s)

-- ---- the same in one go

-- none where the counter is near its end
unfoldable pub most_of : (counted there : ℕ) → ℕ
most_of counted there = cond (ltb there (18446744073709551551 - counted)) there (18446744073709551551 - counted)

-- how many, the streams, and the words of the PIDs
pub record Went : Type 0 where
  pub number : ℕ
  pub streams : Streams
  pub pids : List ℕ

abbrev pub counted_on : Streams → ℕ → Streams
counted_on s n = record { count = s.count; packets = s.packets + n; malformed = s.malformed }

abbrev pub went_as : Streams → over.Passed → Went
went_as s p = record { number = p.number; streams = counted_on s p.number; pids = p.pids }

abbrev pub went_by : Passed → List ℕ → Went
went_by r pids = record { number = r.number; streams = r.streams; pids = pids }

abbrev pub over_from : Streams → (words packets pids : List ℕ) → Went
over_from s words packets pids = went_as s (passed_from (most_of s.packets (length packets / 188)) words packets pids)

-- ---- what the functions ask

pub record CanPass (s : Streams) (words pids : List ℕ) : Type 0 where
  pub looks : Looks words pids
  pub counts : s.packets < 18446744073709551551
