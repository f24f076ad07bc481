use Rattle.pats.specs.Store.{record_of}
use Rattle.host_indexed.proofs.Calls.{gate_offered_lem}
use Rattle.host_indexed.proofs.offer.Goals as goal

pub returns : goal.returns
returns c = let a = c.args in
    let o = c.offer-offered in
    gate_offered_lem a.gate.now a.keys.now a.changes.now a.buckets.now a.links.now (record_of a.watch.now a.pat_slots.now a.pat_cells.now) a.input a.pid a.section.now a.failure.now _ _ _ o.result _ _ _ _ (record_of o.new.words o.new.pat_slots o.new.pat_cells) _ _ _ c.read-held.ensures c.number-from.ensures c.number-number.ensures o.ensures c.write_offered.ensures
