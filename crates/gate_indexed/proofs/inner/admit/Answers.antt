-- `gate_indexed::inner::admit` meets its contract. Assumes nothing.
use Rattle.ring_index.specs.Store.{index_of}
use Rattle.gate_indexed.proofs.Laws.{admitted_told}
use Rattle.gate_indexed.proofs.inner.admit.Goals as goal

pub follow-requires : goal.follow-requires
follow-requires c = record { in_bounds = c.requires.fits_by.rows.watch; table_id_value = c.requires.table_id_value }

pub tell-requires : goal.tell-requires
tell-requires c = c.requires.can_count

pub returns : goal.returns
returns c = let a = c.args in
    let d = c.admit-seen in
    let w = c.follow in
    admitted_told a.gate a.counters a.keys.now a.changes.now (index_of a.buckets.now a.links.now) a.words.now a.section.now a.arrival
    d.result d.new.keys d.new.changes (index_of d.new.buckets d.new.links) w.new.words c.tell.result
    d.ensures.value d.ensures.keys_after d.ensures.changes_after d.ensures.links_after w.ensures c.tell.ensures
