use native.Mathlib.Omega.{arith}
use lib.ListN.{length-set}
use Rattle.pats.proofs.Ways.{begun}
use Rattle.pats.proofs.begin.Goals as goal

pub bounds-words-385 : goal.bounds-words-385
bounds-words-385 c = simp length-set (omega (arith, c.requires))

pub returns : goal.returns
returns c = search begun
