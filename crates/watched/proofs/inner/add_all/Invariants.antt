-- `watched::inner::add_all` meets its contract. The loop's invariant: adding the rest gives what adding all gives. Assumes nothing.
use mathlib.Core.Path.{◌≡◌}
use Prim.Native.Nat.{◌≤◌}
use lib.ListN.{length, drop}
use Rattle.laws.specs.Bits.{add_bits}
use Rattle.watched.proofs.inner.add_all.Given as goal

abbrev pub invariant-loop-pid : goal.invariant-loop-pid
invariant-loop-pid l = (l.pid-index ≤ length l.pids) × (add_bits l.set (drop l.pid-index l.pids) ≡ add_bits l.initial.set l.pids)
