use mathlib.Core.Bool.{true}
use Rattle.laid.proofs.Ways.{size_twelve, run_parts}
use native.Mathlib.Omega.{arith}
use borrow.Author.Rules.{rules}
use Rattle.laid.proofs.Ways.{run_none, run_starts, run_broken, run_apart, run_turn, run_fits, run_least, run_ends}
use mathlib.Core.Path.{ap}
use mathlib.Core.Bool.{not}
use Rattle.laid.proofs.joined.Goals as goal

pub returns-then-at-eq0 : goal.returns-then-at-eq0
returns-then-at-eq0 c = search run_none

pub loop-at-init : goal.loop-at-init
loop-at-init c = (search rules, size_twelve true c.args.s.now c.long_size-at.result c.long_size-at.ensures.exact c.if-at-eq0.false, search run_starts)

pub returns-then-n-eq0 : goal.returns-then-n-eq0
returns-then-n-eq0 c = search run_broken

pub joins-requires : goal.joins-requires
joins-requires c = run_parts c.args.schedule c.args.s.now c.loop-at.prev c.loop-at.at c.long_size-n.result c.loop-at.invariant.0 c.loop-at.invariant.2 c.long_size-n.ensures.exact c.loop-at.invariant.1 c.if-n-eq0.false

pub returns-then-not-joins : goal.returns-then-not-joins
returns-then-not-joins c = search run_apart

pub loop-at-smaller : goal.loop-at-smaller
loop-at-smaller c = let h = run_least c.args.schedule c.args.s.now c.loop-at.prev c.loop-at.at c.long_size-n.result c.loop-at.invariant.0 c.loop-at.invariant.2 c.long_size-n.ensures.exact c.if-n-eq0.false in
    let t = c.loop-at-test.true in omega (arith, h, t)

pub loop-at-preserved : goal.loop-at-preserved
loop-at-preserved c = (
  run_fits c.args.schedule c.args.s.now c.loop-at.prev c.loop-at.at c.long_size-n.result c.loop-at.invariant.0 c.loop-at.invariant.2 c.long_size-n.ensures.exact c.if-n-eq0.false,
  run_least c.args.schedule c.args.s.now c.loop-at.prev c.loop-at.at c.long_size-n.result c.loop-at.invariant.0 c.loop-at.invariant.2 c.long_size-n.ensures.exact c.if-n-eq0.false,
  run_turn c.args.schedule c.args.s.now c.loop-at.prev c.loop-at.at c.long_size-n.result c.loop-at.invariant.0 c.loop-at.invariant.2 c.long_size-n.ensures.exact c.if-n-eq0.false c.joins.result c.joins.ensures (ap not c.if-not-joins.false),
)

pub returns : goal.returns
returns c = search run_ends
