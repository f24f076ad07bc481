use mathlib.Core.Path.{refl}
use native.Mathlib.Omega.{arith}
use lib.ListN.{length-set}
use lib.Seq.{paste-zero}
use Rattle.laws.proofs.Lists.{paste_turn, paste_end}
use Rattle.listing.proofs.write.Goals as goal

pub loop-i-init : goal.loop-i-init
loop-i-init c = (omega arith, refl, paste-zero c.args.list.now c.args.at c.args.words.now)

pub loop-i-preserved : goal.loop-i-preserved
loop-i-preserved c = let l = c.loop-i in
    (omega arith, simp length-set l.invariant.1, paste_turn c.args.list.now l.list c.args.at c.args.words.now l.i 0 l.invariant.2 (omega arith) (omega arith))

pub returns : goal.returns
returns c = let l = c.loop-i in paste_end c.args.list.now l.list c.args.at c.args.words.now l.i 12 l.invariant.2 (omega arith)
