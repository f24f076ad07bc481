use mathlib.Core.Path.{refl}
use Prim.Native.Nat.{◌+◌}
use native.Mathlib.Omega.{arith}
use borrow.Author.Rules.{rules}
use Rattle.laws.proofs.Search.{first_hit, first_miss, first_none}
use Rattle.columns.proofs.Ways.{tells_fewer}
use Rattle.columns.proofs.find_among.Goals as goal

pub loop-i-init : goal.loop-i-init
loop-i-init c = (omega arith, refl)

pub row_is-requires : goal.row_is-requires
row_is-requires c = record { i_in_bounds = search rules; tells = tells_fewer c.args.tags.now c.args.heads.now c.args.e (c.loop-i.i + 1) (omega arith) c.requires.tells }

pub returns-then-row_is : goal.returns-then-row_is
returns-then-row_is c = search first_hit

pub loop-i-preserved : goal.loop-i-preserved
loop-i-preserved c = (search rules, search first_miss)

pub returns : goal.returns
returns c = search first_none
