use native.Mathlib.Omega.{arith}
use Rattle.rows.proofs.Loops.{oldest_start, oldest_turn, elder_within, oldest_end}
use borrow.Author.Rules.{rules}
use Rattle.rows.proofs.oldest.Goals as goal

pub loop-i-init : goal.loop-i-init
loop-i-init c = (omega arith, omega arith, search oldest_start)

pub loop-i-preserved : goal.loop-i-preserved
loop-i-preserved c = (search rules, search elder_within, search oldest_turn)

pub returns : goal.returns
returns c = search oldest_end
