use native.Mathlib.Omega.{arith}
use lib.ListN.{length}
use Rattle.streams.proofs.Laws.{has_words, is_opened, not_opened}
use Rattle.streams.proofs.open.Goals as goal

pub clear-requires : goal.clear-requires
clear-requires c = let a = c.args in omega (arith, has_words a.count a.pids.now (length a.buffers.now) c.are_enough.result c.are_enough.ensures c.if-are_enough.true)

pub returns-then-are_enough : goal.returns-then-are_enough
returns-then-are_enough c = search is_opened

pub returns : goal.returns
returns c = search not_opened
