use Rattle.laid.proofs.Ways.{key_kind}
use Rattle.laid.proofs.schedule_key_in.Goals as goal

pub returns : goal.returns
returns c = search key_kind
