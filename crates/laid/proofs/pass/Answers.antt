use native.Mathlib.Omega.{arith}
use Rattle.laid.proofs.Walks.{passes_starts, passes_found, passes_turn, passes_ends, end_past}
use Rattle.laid.proofs.pass.Goals as goal

pub loop-at-init : goal.loop-at-init
loop-at-init c = search passes_starts

pub returns-then-bound-wide : goal.returns-then-bound-wide
returns-then-bound-wide c = passes_found c.args.s.now c.args.from c.args.bound c.loop-at.at c.loop-at.invariant c.wide.result c.loop-at-test.true c.wide.ensures.0 c.if-bound-wide.true

pub loop-at-smaller : goal.loop-at-smaller
loop-at-smaller c = let h = end_past c.args.s.now c.loop-at.at c.loop-at.invariant.laid c.loop-at-test.true c.end_at-at.result c.end_at-at.ensures in
    let t = c.loop-at-test.true in omega (arith, h, t)

pub loop-at-preserved : goal.loop-at-preserved
loop-at-preserved c = passes_turn c.args.s.now c.args.from c.args.bound c.loop-at.at c.loop-at.invariant c.wide.result c.end_at-at.result c.loop-at-test.true c.wide.ensures.0 c.if-bound-wide.false c.end_at-at.ensures

pub returns : goal.returns
returns c = search passes_ends
