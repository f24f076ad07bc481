use Rattle.guides.proofs.Ways.{sides_laid, held_told, held_refused}
use Rattle.guides.proofs.held.Goals as goal

pub held_by-requires : goal.held_by-requires
held_by-requires c = sides_laid c.args.first.now c.args.second.now c.set_or_empty.result c.set_or_empty-2.result c.set_or_empty.ensures c.set_or_empty-2.ensures c.if-set_or_empty.true

pub returns-then-set_or_empty : goal.returns-then-set_or_empty
returns-then-set_or_empty c = search held_told

pub returns-else-set_or_empty : goal.returns-else-set_or_empty
returns-else-set_or_empty c = search held_refused
