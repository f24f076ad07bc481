use Prim.Native.Nat.{◌<◌}
use native.Mathlib.Omega.{arith}
use mathlib.Core.Path.{refl}
use lib.ListN.{length}
use borrow.Author.Rules.{rules}
use Rattle.columns.proofs.Ways.{tells_none, tells_more, tells_fewer}
use Rattle.columns.proofs.fill.Goals as goal

pub loop-i-init : goal.loop-i-init
loop-i-init c = (omega arith, refl, tells_none _ _)

pub loop-i-preserved : goal.loop-i-preserved
loop-i-preserved c = (search rules, search rules, let a = c.args in let l : c.loop-i.i < length c.loop-i.tags = omega arith in tells_more c.loop-i.tags a.heads.now c.loop-i.i c.tag.result c.key_at.result l c.key_at.ensures c.tag.ensures c.loop-i.invariant.2)

pub returns : goal.returns
returns c = search (tells_fewer, rules)
