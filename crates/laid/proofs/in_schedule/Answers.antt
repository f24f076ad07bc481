use Rattle.laid.proofs.Ways.{schedule_after}
use Rattle.laid.proofs.in_schedule.Goals as goal

pub returns : goal.returns
returns c = schedule_after c.args.x.now c.args.y.now c.schedule_key_in.result c.schedule_key_in-2.result c.same_key-one.result c.in_table.result c.schedule_key_in.ensures c.schedule_key_in-2.ensures c.same_key-one.ensures c.in_table.ensures
