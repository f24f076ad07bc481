-- `counters::any_full` meets its contract. Assumes nothing.
use mathlib.Core.Path.{refl}
use Rattle.counters.proofs.Laws.{can_count}
use Rattle.counters.proofs.any_full.Goals as goal

pub returns : goal.returns
returns c = (record { value = refl; can_count = λ h. search (can_count, h) })
