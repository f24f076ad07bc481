use Rattle.eit_settle.proofs.Ways.{as_stays, as_out, as_range, as_entered}
use Rattle.eit_settle.proofs.settle_as.Goals as goal

pub returns-in-Stays : goal.returns-in-Stays
returns-in-Stays c = search as_stays

pub returns-in-GoesOut : goal.returns-in-GoesOut
returns-in-GoesOut c = search as_out

pub returns-in-OutOfRange : goal.returns-in-OutOfRange
returns-in-OutOfRange c = search as_range

pub returns-in-Enters : goal.returns-in-Enters
returns-in-Enters c = search as_entered
