use native.Mathlib.Omega.{arith}
use Rattle.demux_judge.proofs.Laws.{count_tables, count_else, count_there}
use Rattle.demux_judge.proofs.pat_count.Goals as goal

pub bounds-words-385 : goal.bounds-words-385
bounds-words-385 c = let a = c.args in
    let b = c.by_tables in
    omega (arith, count_there a.follow b.result b.ensures a.words.now c.requires c.if-by_tables.true)

pub clock_of-requires : goal.clock_of-requires
clock_of-requires c = search count_there

pub returns-then-by_tables : goal.returns-then-by_tables
returns-then-by_tables c = search count_tables

pub returns : goal.returns
returns c = search count_else
