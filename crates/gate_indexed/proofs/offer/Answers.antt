use lib.ListN.{length}
use Rattle.ring_index.specs.Store.{index_of}
use Rattle.gate_indexed.specs.Store.{indexed_of, left_by}
use Rattle.gate_indexed.proofs.Laws.{fits_by, offered_refused, offered_failed, offered_arrived}
use Rattle.offers.proofs.Facts.{counts, admits}
use Rattle.gate_indexed.proofs.offer.Goals as goal

pub fail-requires : goal.fail-requires
fail-requires c = let a = c.args in
    let j = c.judge in
    counts c.is_whole-whole.result a.counters a.section.now j.result j.ensures.verdict_ok c.in-Failed.failure c.in-Failed.is

pub admit-requires : goal.admit-requires
admit-requires c = let a = c.args in
    let w = c.is_whole-whole in
    let j = c.judge in
    let k = admits w.result a.counters a.section.now j.result j.ensures.verdict_ok c.in-Arrived.arrival c.in-Arrived.is in
    record { can_count = k.counts; fits_by = fits_by a.gate (length a.keys.now) (length a.changes.now) (length a.buckets.now) (length a.links.now) (length a.words.now) w.result w.ensures k.whole; table_id_value = k.table }

pub returns-in-Refused : goal.returns-in-Refused
returns-in-Refused c = let a = c.args in
    let w = c.is_whole-whole in
    let j = c.judge in
    offered_refused (indexed_of a.gate a.counters a.keys.now a.changes.now (index_of a.buckets.now a.links.now) a.words.now) a.input a.pid a.section.now w.result w.ensures j.result j.ensures.value c.in-Refused.refusal c.refuse.result c.in-Refused.is c.refuse.ensures

pub returns-in-Failed : goal.returns-in-Failed
returns-in-Failed c = let a = c.args in
    let w = c.is_whole-whole in
    let j = c.judge in
    offered_failed (indexed_of a.gate a.counters a.keys.now a.changes.now (index_of a.buckets.now a.links.now) a.words.now) a.input a.pid a.section.now w.result w.ensures j.result j.ensures.value c.in-Failed.failure c.fail.result c.in-Failed.is c.fail.ensures

pub returns-in-Arrived : goal.returns-in-Arrived
returns-in-Arrived c = let a = c.args in
    let w = c.is_whole-whole in
    let j = c.judge in
    let d = c.admit in
    offered_arrived (indexed_of a.gate a.counters a.keys.now a.changes.now (index_of a.buckets.now a.links.now) a.words.now) a.input a.pid a.section.now w.result w.ensures j.result j.ensures.value c.in-Arrived.arrival
    (left_by d.result d.new.keys d.new.changes (index_of d.new.buckets d.new.links) d.new.words) c.in-Arrived.is d.ensures
