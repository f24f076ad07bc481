-- `watched::inner::renew` meets its contract. The loop's invariant: the first i words of the watch are renewed, the others as they were. Assumes nothing.
use mathlib.Core.Path.{◌≡◌}
use Prim.Native.Nat.{◌≤◌}
use lib.ListN.{length}
use lib.Seq.{paste}
use Rattle.watched.specs.Store.{renewed}
use Rattle.watched.proofs.inner.renew.Given as goal

abbrev pub invariant-loop-i : goal.invariant-loop-i
invariant-loop-i l = (l.i ≤ 128) × (length l.words ≡ length l.initial.words) × (l.words ≡ paste l.initial.words 0 (renewed l.initial.words l.n) l.i)
