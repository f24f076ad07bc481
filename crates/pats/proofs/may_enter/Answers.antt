use native.Mathlib.Omega.{arith}
use Rattle.pats.proofs.Ways.{pat_long, pat_enters, pat_not}
use Rattle.pats.proofs.may_enter.Goals as goal

pub bounds-section-5 : goal.bounds-section-5
bounds-section-5 c = let h = pat_long c.args.section.now c.is_readable.result c.is_readable.ensures c.if-is_readable.true in omega arith

pub returns-then-is_readable : goal.returns-then-is_readable
returns-then-is_readable c = search pat_enters

pub returns : goal.returns
returns c = search pat_not
