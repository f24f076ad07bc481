use Rattle.counts_places.proofs.Ways.{sound, not_sound}
use borrow.Author.Rules.{rules}
use Rattle.counts_places.proofs.collect_at.Goals as goal

pub overflow_mul-k : goal.overflow_mul-k
overflow_mul-k c = let z = c.well_formed.1.1.1.1.1.1.1.1.1.1.0 in search (rules, z)

pub offset_bounds-places-k : goal.offset_bounds-places-k
offset_bounds-places-k c = let z = c.well_formed.1.1.1.1.1.1.1.1.1.1.0 in search (rules, z)

pub returns-then-is_sound : goal.returns-then-is_sound
returns-then-is_sound c = let a = c.args in
    sound a.places.now a.packet.now a.buffers.now a.pid a.k _ _ c.is_sound.result c.is_sound.ensures c.place_at-place.result _ c.if-is_sound.true c.place_at-place.ensures c.section_at.ensures c.collect.ensures

pub returns : goal.returns
returns c = search not_sound
