use Rattle.times.proofs.Laws.{carry_one, carry_none}
use Rattle.times.proofs.carry.Goals as goal

pub returns-then-months-ge14 : goal.returns-then-months-ge14
returns-then-months-ge14 c = carry_one _ c.if-months-ge14.true

pub returns-else-months-ge14 : goal.returns-else-months-ge14
returns-else-months-ge14 c = carry_none _ c.if-months-ge14.false
