use Rattle.log_sections.proofs.Laws.{is_taken}
use Rattle.log_sections.proofs.take_one.Goals as goal

pub returns : goal.returns
returns c = search is_taken
