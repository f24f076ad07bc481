use Prim.Native.Nat.{◌+◌, ◌*◌}
use mathlib.Core.Path.{◌≡◌, ap, subst}
use mathlib.Core.Bool.{not}
use native.Mathlib.Omega.{arith}
use borrow.Author.Rules.{rules}
use Rattle.differences.specs.Walk.{SameTo}
use Rattle.differences.proofs.Places.{same_starts, same_block}
use Rattle.differences.proofs.same_blocks.Goals as goal

pub loop-block-init : goal.loop-block-init
loop-block-init c = (search rules, search rules, search same_starts)

pub loop-block-preserved : goal.loop-block-preserved
loop-block-preserved c = let a = c.args in
    let l = c.loop-block in
    let e : l.block * 256 + 256 ≡ (l.block + 1) * 256 = omega arith in (
      search rules,
      search rules,
      subst (SameTo a.x.now a.y.now) e
          (same_block a.x.now a.y.now (l.block * 256) l.invariant.2 256 c.same_bytes.result (search rules) (search rules) c.same_bytes.ensures (ap not c.if-not-same_bytes.false)),
    )
