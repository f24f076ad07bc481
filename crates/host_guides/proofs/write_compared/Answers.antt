use Rattle.host_guides.proofs.Calls.{compared_written, compared_kept}
use Rattle.host_guides.proofs.write_compared.Goals as goal

pub returns-then-number : goal.returns-then-number
returns-then-number c = search compared_written

pub returns-else-number : goal.returns-else-number
returns-else-number c = search compared_kept
