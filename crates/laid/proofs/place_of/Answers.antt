use Rattle.laid.proofs.Walks.{room_here}
use native.Mathlib.Omega.{arith}
use Rattle.laid.proofs.Walks.{seeks_starts, seeks_found, seeks_turn, seeks_ends, end_past}
use Rattle.laid.proofs.place_of.Goals as goal

pub loop-at-init : goal.loop-at-init
loop-at-init c = search seeks_starts

pub bounds-s-at : goal.bounds-s-at
bounds-s-at c = let h = room_here c.args.s.now c.loop-at.at c.loop-at.invariant.laid c.loop-at-test.true in omega (arith, h)

pub returns-then-wide-number : goal.returns-then-wide-number
returns-then-wide-number c = seeks_found c.args.s.now c.args.number c.loop-at.at c.loop-at.invariant c.wide.result c.loop-at-test.true c.wide.ensures.0 c.if-wide-number.true

pub loop-at-smaller : goal.loop-at-smaller
loop-at-smaller c = let h = end_past c.args.s.now c.loop-at.at c.loop-at.invariant.laid c.loop-at-test.true c.end_at-at.result c.end_at-at.ensures in
    let t = c.loop-at-test.true in omega (arith, h, t)

pub loop-at-preserved : goal.loop-at-preserved
loop-at-preserved c = seeks_turn c.args.s.now c.args.number c.loop-at.at c.loop-at.invariant c.wide.result c.end_at-at.result c.loop-at-test.true c.wide.ensures.0 c.if-wide-number.false c.end_at-at.ensures

pub returns : goal.returns
returns c = search seeks_ends
