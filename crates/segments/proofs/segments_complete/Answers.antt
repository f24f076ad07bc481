use Rattle.segments.proofs.Laws.{segments_turn, segments_holds, segments_end}
use borrow.Author.Rules.{rules}
use Rattle.segments.proofs.segments_complete.Goals as goal

pub loop-s-init : goal.loop-s-init
loop-s-init c = (search rules, search segments_holds)

pub loop-s-preserved : goal.loop-s-preserved
loop-s-preserved c = (search rules, search segments_turn)

pub returns : goal.returns
returns c = search segments_end
