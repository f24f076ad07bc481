use native.Mathlib.Omega.{arith}
use Rattle.clocks.proofs.Ways.{is_clock_lem, no_clock}
use Rattle.clocks.proofs.read.Goals as goal

pub bounds-section-3 : goal.bounds-section-3
bounds-section-3 c = let h = c.is_clock.ensures.in_bounds c.if-is_clock.true in omega (arith, h)

pub bounds-section-4 : goal.bounds-section-4
bounds-section-4 c = let h = c.is_clock.ensures.in_bounds c.if-is_clock.true in omega (arith, h)

pub bounds-section-5 : goal.bounds-section-5
bounds-section-5 c = let h = c.is_clock.ensures.in_bounds c.if-is_clock.true in omega (arith, h)

pub bounds-section-6 : goal.bounds-section-6
bounds-section-6 c = let h = c.is_clock.ensures.in_bounds c.if-is_clock.true in omega (arith, h)

pub bounds-section-7 : goal.bounds-section-7
bounds-section-7 c = let h = c.is_clock.ensures.in_bounds c.if-is_clock.true in omega (arith, h)

pub returns-then-is_clock : goal.returns-then-is_clock
returns-then-is_clock c = is_clock_lem c.args.section.now c.is_clock.result c.is_clock.ensures.value c.day_of-day.result c.stamped.result c.if-is_clock.true c.day_of-day.ensures c.stamped.ensures

pub returns : goal.returns
returns c = no_clock c.args.section.now c.is_clock.result c.is_clock.ensures.value c.if-is_clock.false
