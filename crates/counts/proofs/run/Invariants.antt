use Rattle.stream_cursor.specs.Cursor.{Inside}
use Rattle.counts.proofs.run.Given as goal

abbrev pub invariant-loop : goal.invariant-loop
invariant-loop g l = Inside l.c
