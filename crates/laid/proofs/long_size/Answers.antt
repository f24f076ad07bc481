use Rattle.laid.proofs.Ways.{size_short, size_there, size_none}
use Rattle.laid.proofs.long_size.Goals as goal

pub returns-then-s-lt12 : goal.returns-then-s-lt12
returns-then-s-lt12 c = search size_short

pub returns-then-long_form-n : goal.returns-then-long_form-n
returns-then-long_form-n c = search size_there

pub returns : goal.returns
returns c = search size_none
