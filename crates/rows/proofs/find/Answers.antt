use native.Mathlib.Nat.{sub-zero}
use native.Mathlib.Omega.{arith}
use Rattle.laws.proofs.Search.{first_hit, first_miss, first_none}
use borrow.Author.Rules.{rules}
use Rattle.rows.proofs.find.Goals as goal

pub loop-i-init : goal.loop-i-init
loop-i-init c = (omega arith, rw sub-zero)

pub returns-then-key_is : goal.returns-then-key_is
returns-then-key_is c = search first_hit

pub loop-i-preserved : goal.loop-i-preserved
loop-i-preserved c = (search rules, search first_miss)

pub returns : goal.returns
returns c = search first_none
