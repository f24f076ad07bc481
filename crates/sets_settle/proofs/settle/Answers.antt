use Rattle.sets_settle.proofs.Doing.{settle_out, settle_not}
use Rattle.sets_settle.proofs.settle.Goals as goal

pub returns-then-goes_out : goal.returns-then-goes_out
returns-then-goes_out c = let r = let a = c.args in settle_out a.clock a.heads.now a.slots.now a.i c.touch.new.heads c.goes_out.result c.touch.ensures c.goes_out.ensures c.set_mark.new.heads c.if-goes_out.true c.set_mark.ensures in record { value = r.0; heads_after = r.1 }

pub returns : goal.returns
returns c = let r = let a = c.args in settle_not a.clock a.heads.now a.slots.now a.i c.touch.new.heads c.goes_out.result c.touch.ensures c.goes_out.ensures c.if-goes_out.false in record { value = r.0; heads_after = r.1 }
