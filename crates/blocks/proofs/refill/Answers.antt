-- What was kept stands at the front, whether the read was one or an error. Assumes nothing.
use Rattle.blocks.proofs.Laws.{kept_there}
use Rattle.blocks.proofs.refill.Goals as goal

pub returns-in_err-got-clause-block_after : goal.returns-in_err-got-clause-block_after
returns-in_err-got-clause-block_after g c = kept_there _ _ _ _ _ c.requires c.to_front.ensures

pub returns-clause-block_after : goal.returns-clause-block_after
returns-clause-block_after g c = kept_there _ _ _ _ _ c.requires c.to_front.ensures
