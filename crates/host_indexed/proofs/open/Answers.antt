use Rattle.host_indexed.proofs.Calls.{gate_opened_lem}
use Rattle.host_indexed.proofs.open.Goals as goal

pub returns : goal.returns
returns c = let a = c.args in
    gate_opened_lem a.gate.now a.capacity a.settings a.change_rule a.extra.now a.keys.now a.changes.now a.buckets.now a.links.now a.pat_slots.now a.pat_cells.now a.watch.now _ c.open-opened.result _ _ _ _ c.settings-asked.ensures c.open-opened.ensures c.write_opened.ensures
