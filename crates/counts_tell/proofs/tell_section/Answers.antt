-- A section that tells a time, or none. Assumes nothing.
use Rattle.counts_tell.proofs.Ways.{no_clock, told_clock}
use Rattle.counts_tell.proofs.tell_section.Goals as goal

pub returns-in-None : goal.returns-in-None
returns-in-None g c = search no_clock

pub returns-in-Some : goal.returns-in-Some
returns-in-Some g c = told_clock c.args.last c.args.interval c.args.section.now c.read.result c.read.ensures c.in-Some.stamp c.tell_time.result c.in-Some.is c.tell_time.ensures
