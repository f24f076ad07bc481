use mathlib.Core.Path.{◌≡◌}
use mathlib.Core.Bool.{◌&&◌}
use Prim.Native.Nat.{◌+◌, ◌/◌, ◌≤◌}
use Rattle.segments.specs.Segments.{segments_complete}
use Rattle.segments.proofs.segments_complete.Given as goal

abbrev pub invariant-loop-s : goal.invariant-loop-s
invariant-loop-s l = (l.s ≤ l.last / 8 + 1) × (segments_complete l.slots l.i l.last (l.last / 8 + 1) ≡ (l.ok && segments_complete l.slots l.i l.last l.s))
