use Rattle.gate_pats.proofs.Laws.{ready_after, taken_told}
use Rattle.gate_pats.proofs.inner.take.Goals as goal

pub enter-requires : goal.enter-requires
enter-requires c = search ready_after

pub returns : goal.returns
returns c = search taken_told
