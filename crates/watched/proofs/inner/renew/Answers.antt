use mathlib.Core.Path.{refl}
use native.Mathlib.Omega.{arith}
use lib.ListN.{length-set}
use lib.Seq.{paste-zero}
use Rattle.laws.proofs.Lists.{paste_end}
use Rattle.watched.specs.Store.{renewed}
use Rattle.watched.proofs.Laws.{renew_turn}
use Rattle.watched.proofs.inner.renew.Goals as goal

pub loop-i-init : goal.loop-i-init
loop-i-init c = (omega arith, refl, paste-zero c.args.words.now 0 (renewed c.args.words.now c.args.n.now))

pub loop-i-preserved : goal.loop-i-preserved
loop-i-preserved c = let l = c.loop-i in
    (omega arith, simp length-set l.invariant.1, rw c.renewed_word.ensures (renew_turn c.args.words.now c.args.n.now c.requires.in_bounds c.requires.n_len l.words l.i l.invariant.2 c.loop-i-test.true))

pub returns : goal.returns
returns c = let l = c.loop-i in
    let w = c.args.words.now in
    paste_end w l.words 0 (renewed w c.args.n.now) l.i 128 l.invariant.2 (omega arith)
