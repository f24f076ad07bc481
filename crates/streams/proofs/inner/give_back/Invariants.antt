use mathlib.Core.Path.{◌≡◌, refl}
use Prim.Native.Nat.{◌≤◌, ◌-◌, ◌*◌}
use lib.ListN.{length}
use Rattle.streams.specs.Store.{given_back, left_of}
use Rattle.streams.proofs.inner.give_back.Given as goal

abbrev pub invariant-loop-k : goal.invariant-loop-k
invariant-loop-k l = (l.k ≤ 128) × (length l.pids ≡ length l.initial.pids) × (given_back (left_of l.before l.after) (l.k * 64) l.pids ≡ given_back (left_of l.before l.after) 8192 l.initial.pids)
