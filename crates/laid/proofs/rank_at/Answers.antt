use native.Mathlib.Omega.{arith}
use Rattle.laid.proofs.Walks.{room_here}
use Rattle.laid.proofs.Walks.{rank_here, rank_none}
use Rattle.laid.proofs.rank_at.Goals as goal

pub bounds-s-at-then-at-s : goal.bounds-s-at-then-at-s
bounds-s-at-then-at-s c = let h = room_here c.args.s.now c.args.at c.requires c.if-at-s.true in omega (arith, h)

pub returns-then-at-s : goal.returns-then-at-s
returns-then-at-s c = search rank_here

pub returns-else-at-s : goal.returns-else-at-s
returns-else-at-s c = search rank_none
