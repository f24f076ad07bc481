use mathlib.Core.Path.{◌≡◌, refl}
use Prim.Native.Nat.{◌≤◌, ◌-◌}
use lib.ListN.{length}
use Rattle.streams.specs.Store.{word_back}
use Rattle.streams.proofs.inner.give_word.Given as goal

abbrev pub invariant-loop-n : goal.invariant-loop-n
invariant-loop-n l = (l.n ≤ 64) × (length l.pids ≡ length l.initial.pids) × (word_back l.left l.k l.n l.pids ≡ word_back l.left l.k 64 l.initial.pids)
