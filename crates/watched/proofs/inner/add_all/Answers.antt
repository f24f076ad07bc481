use mathlib.Core.Path.{refl, sym, ◌∙◌}
use native.Mathlib.Omega.{arith}
use Rattle.watched.proofs.Laws.{add_turn, add_end, pid_at}
use Rattle.watched.proofs.inner.add_all.Goals as goal

pub loop-pid-init : goal.loop-pid-init
loop-pid-init c = (omega arith, refl)

pub add-requires : goal.add-requires
add-requires c = pid_at c.args.pids.now c.loop-pid.pid-index c.requires c.loop-pid-test.true

pub loop-pid-preserved : goal.loop-pid-preserved
loop-pid-preserved c = let l = c.loop-pid in
    let xs = c.args.pids.now in
    (omega arith, rw c.add.ensures (sym (add_turn xs l.pid-index l.set c.loop-pid-test.true) ∙ l.invariant.1))

pub returns : goal.returns
returns c = let l = c.loop-pid in
    sym (add_end c.args.pids.now l.pid-index l.set (omega arith)) ∙ l.invariant.1
