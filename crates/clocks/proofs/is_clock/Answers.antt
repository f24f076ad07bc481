use Rattle.clocks.proofs.Ways.{too_short, by_table, never}
use Rattle.clocks.proofs.is_clock.Goals as goal

pub returns-then-section-lt-BEHIND : goal.returns-then-section-lt-BEHIND
returns-then-section-lt-BEHIND c = (record { value = too_short c.args.section.now c.if-section-lt-BEHIND.true; in_bounds = λ e. never _ e })

pub returns : goal.returns
returns c = (record { value = by_table c.args.section.now c.if-section-lt-BEHIND.false; in_bounds = λ e. c.if-section-lt-BEHIND.false })
