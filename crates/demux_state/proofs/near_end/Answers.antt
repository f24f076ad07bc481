use Rattle.demux_state.proofs.Laws.{ends}
use Rattle.demux_state.proofs.near_end.Goals as goal

pub returns : goal.returns
returns c = let r = let a = c.args in ends a.c a.s a.pats c.any_near.result c.any_near.ensures in record { value = r.0; spares = r.1 }
