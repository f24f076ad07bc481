-- `eit_section::segment_end` meets its contract. Assumes nothing.
use Rattle.eit_section.specs.Segment.{segment_end}
use native.Mathlib.Omega.{arith}
use Rattle.eit_section.proofs.segment_end.Goals as goal

pub returns-then-end-wide : goal.returns-then-end-wide
unfolding segment_end
returns-then-end-wide c = omega arith

pub returns-else-end-wide : goal.returns-else-end-wide
unfolding segment_end
returns-else-end-wide c = omega arith
