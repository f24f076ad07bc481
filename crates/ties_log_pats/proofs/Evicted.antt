-- A call on the set collector, by its rules without cells, counts at most one eviction.
-- Assumes nothing.
use mathlib.Core.Bool.{Bool, true, false}
use mathlib.Core.Option.{Option, none, some}
use Prim.Native.Nat.{ℕ, zero, suc, ◌+◌, ◌≤◌}
use native.Mathlib.Omega.{arith}
use lib.Dec.{leb}
use lib.ListN.{length}
use Rattle.rules_shared.specs.Touch.{count, evicts, aside, newest, emptied}
use Rattle.rules_shared.specs.Row.{put}
use Rattle.rules_shared.specs.Cells.{Settings}
use Rattle.rules_sets.specs.Rules.{Key, same_key, SetRow, Sets, Section, part_of, Call, clear, refuse, offer, met_row, full, judged, judge, finish, push, admit, step, acts}

module _ (s : Sets) where
  at_most_one : (b : Bool) → s.evicted + count b ≤ suc s.evicted
  unfolding count
  at_most_one true = omega arith
  at_most_one false = omega arith

  aside_one : (n : ℕ) (k : Key) → (aside same_key n k s).evicted ≤ suc s.evicted
  unfolding aside
  aside_one n k = at_most_one (evicts same_key n k s.rows)

  finish_one : (n : ℕ) (k : Key) (met : SetRow) (then : Option SetRow) → (finish (aside same_key n k s) k met then).sets.evicted ≤ suc s.evicted
  unfolding finish judge judged newest
  finish_one n k met none = aside_one n k
  finish_one n k met (some r) = go r.mark (full r.slots)
    where
      go : (b c : Bool) → (judged (aside same_key n k s) k r b c).sets.evicted ≤ suc s.evicted
      go true c = aside_one n k
      go false false = aside_one n k
      go false true = aside_one n k

  push_one : (n : ℕ) (x : Section) → (push n s x).sets.evicted ≤ suc s.evicted
  unfolding push
  push_one zero x = omega arith
  push_one (suc n) x = finish_one (suc n) x.key (met_row x s) (put (part_of x) x.bytes (met_row x s))

  admit_one : (n : ℕ) (x : Section) (b : Bool) → (admit n s x b).sets.evicted ≤ suc s.evicted
  unfolding admit
  admit_one n x false = omega arith
  admit_one n x true = push_one n x

  pub acts_one : (o : Settings) (i : Call) → (acts o s i).evicted ≤ suc s.evicted
  unfolding acts step emptied
  acts_one o clear = omega arith
  acts_one o (refuse r) = omega arith
  acts_one o (offer x) = admit_one o.limit x (leb (length x.bytes) o.cell_size)
