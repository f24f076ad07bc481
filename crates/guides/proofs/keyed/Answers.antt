use Rattle.guides.proofs.Ways.{alike_keys, other_keys}
use Rattle.guides.proofs.keyed.Goals as goal

pub returns-then-same_key : goal.returns-then-same_key
returns-then-same_key c = search alike_keys

pub returns-else-same_key : goal.returns-else-same_key
returns-else-same_key c = search other_keys
