use native.Mathlib.Omega.{arith}
use Rattle.streams.proofs.Laws.{no_buffers, too_many, some_buffers}
use Rattle.streams.proofs.inner.are_enough.Goals as goal

pub returns-then-count-eq0 : goal.returns-then-count-eq0
returns-then-count-eq0 c = search no_buffers

pub returns-then-count-gt-MOST_BUFFERS : goal.returns-then-count-gt-MOST_BUFFERS
returns-then-count-gt-MOST_BUFFERS c = let a = c.args in too_many a.count a.words a.bytes (omega arith)

pub returns : goal.returns
returns c = search some_buffers
