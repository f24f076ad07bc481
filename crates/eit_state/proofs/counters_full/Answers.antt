use Rattle.eit_state.proofs.Whole.{full}
use Rattle.eit_state.proofs.counters_full.Goals as goal

pub returns : goal.returns
returns c = search full
