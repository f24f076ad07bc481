use Rattle.gate_pats.proofs.Laws.{refused_little, refused_pid}
use Rattle.gate_pats.proofs.inner.refusal.Goals as goal

pub returns-then-pids_good : goal.returns-then-pids_good
returns-then-pids_good c = search refused_little

pub returns : goal.returns
returns c = search refused_pid
