use mathlib.Core.Path.{◌≡◌}
use Prim.Native.Nat.{◌-◌}
use Rattle.ring_index.specs.Store.{walk_of}
use Rattle.ring_index.proofs.walk.Given as goal

abbrev pub invariant-loop : goal.invariant-loop
invariant-loop l = walk_of l.words l.links l.used l.value l.room l.head ≡ walk_of l.words l.links l.used l.value (l.room - l.counter) l.at
