-- The groups that are left give what all give.
use mathlib.Core.Path.{◌≡◌}
use Rattle.std.specs.Slice.Iter.{chunks_exact_rest, chunks_exact_size}
use Rattle.laws.specs.Bits.{add_bits}
use Rattle.pat.specs.Pat.{program_pids}
use Rattle.pat.proofs.add_groups.Given as goal

abbrev pub invariant-loop-group : goal.invariant-loop-group
invariant-loop-group l = (chunks_exact_size l.group-iterator ≡ 4) × (add_bits l.n (program_pids (chunks_exact_rest l.group-iterator)) ≡ add_bits l.initial.n (program_pids l.s))
