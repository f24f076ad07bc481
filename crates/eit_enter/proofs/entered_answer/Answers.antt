use Rattle.eit_enter.proofs.Ways.{answer_out}
use Rattle.eit_enter.proofs.entered_answer.Goals as goal

pub returns-then-all : goal.returns-then-all
returns-then-all c = search answer_out
