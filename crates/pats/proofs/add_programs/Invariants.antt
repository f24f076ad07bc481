use mathlib.Core.Path.{◌≡◌}
use mathlib.Core.List.{map}
use Prim.Native.Nat.{◌≤◌}
use lib.ListN.{length, drop}
use Rattle.cells.specs.Cells.{kept}
use Rattle.pats.specs.Store.{with_all}
use Rattle.pats.proofs.add_programs.Given as goal

abbrev pub invariant-loop-w : goal.invariant-loop-w
invariant-loop-w l = (l.w-index ≤ length l.row) × (with_all (map (kept l.cells 1024) (drop l.w-index l.row)) l.n ≡ with_all (map (kept l.cells 1024) l.row) l.initial.n)
