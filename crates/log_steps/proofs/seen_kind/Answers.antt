use Rattle.log_steps.proofs.Laws.{kind_emitted, kind_suppressed}
use Rattle.log_steps.proofs.seen_kind.Goals as goal

pub returns-then-changed-repeats : goal.returns-then-changed-repeats
returns-then-changed-repeats c = search kind_emitted

pub returns-else-changed-repeats : goal.returns-else-changed-repeats
returns-else-changed-repeats c = search kind_suppressed
