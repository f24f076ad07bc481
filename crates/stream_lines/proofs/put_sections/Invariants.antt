use Rattle.std.proofs.Common.{◌≡◌, ◌≤◌, length}
use Rattle.stream_lines.proofs.put_sections.Given as goal

abbrev pub invariant-loop-k : goal.invariant-loop-k
invariant-loop-k g l = (length l.out ≡ 65536) × (l.m ≤ 65536)
