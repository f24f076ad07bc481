use Rattle.ring_index.proofs.Laws.{unlink_head, unlink_next, unlink_none}
use Rattle.ring_index.proofs.unlink.Goals as goal

pub returns-then-head-name : goal.returns-then-head-name
returns-then-head-name c = search unlink_head

pub returns-then-prior-used : goal.returns-then-prior-used
returns-then-prior-used c = search unlink_next

pub returns-else-prior-used : goal.returns-else-prior-used
returns-else-prior-used c = unlink_none c.args.buckets.now c.args.links.now c.args.used c.args.room c.args.home c.args.row c.if-head-name.false _ c.walk-prior.ensures c.if-prior-used.false
