use Rattle.times.proofs.Laws.{date_before, date_on}
use Rattle.times.proofs.date_of.Goals as goal

pub returns-then-mjd-lt15079 : goal.returns-then-mjd-lt15079
returns-then-mjd-lt15079 c = date_before _ c.if-mjd-lt15079.true

pub returns : goal.returns
returns c = date_on _ _ c.if-mjd-lt15079.false c.carry-k.ensures.0
