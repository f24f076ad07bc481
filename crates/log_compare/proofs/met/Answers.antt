use Rattle.log_compare.proofs.Laws.{met_unknown, met_cut, met_whole}
use Rattle.log_compare.proofs.met.Goals as goal

pub returns-then-size-eq0 : goal.returns-then-size-eq0
returns-then-size-eq0 c = search met_unknown

pub returns-then-log-place : goal.returns-then-log-place
returns-then-log-place c = search met_cut

pub returns : goal.returns
returns c = search met_whole
