use Rattle.alignment.proofs.Laws.{is_over, is_cut}
use Rattle.alignment.proofs.at_end.Goals as goal

pub returns-then-window-eq0 : goal.returns-then-window-eq0
returns-then-window-eq0 c = search is_over

pub returns : goal.returns
returns c = search is_cut
