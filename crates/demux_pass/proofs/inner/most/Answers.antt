use Rattle.demux_pass.proofs.Passing.{all_there, till_end}
use Rattle.demux_pass.proofs.inner.most.Goals as goal

pub returns-then-there-room : goal.returns-then-there-room
returns-then-there-room c = search all_there

pub returns : goal.returns
returns c = search till_end
