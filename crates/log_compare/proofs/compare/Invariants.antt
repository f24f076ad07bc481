use Rattle.log_compare.specs.Compare.{passed, records_in, Laid}
use lib.ListN.{length}
use mathlib.Core.Path.{◌≡◌}
use Rattle.log_compare.proofs.compare.Given as goal

abbrev pub invariant-loop-kind : goal.invariant-loop-kind
invariant-loop-kind l = Laid l.rest × (passed l.log l.place (records_in l.expected) ≡ passed l.log l.at (records_in l.rest))

abbrev pub decreases-loop-kind : goal.decreases-loop-kind
decreases-loop-kind l = length l.rest
