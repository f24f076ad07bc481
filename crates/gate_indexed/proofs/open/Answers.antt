use lib.ListN.{length}
use Rattle.gate_indexed.proofs.Laws.{opened_pid, opened_little, opened_yes, pids_good, buckets_room, words_room}
use mathlib.Core.Path.{ap}
use mathlib.Core.Bool.{not}
use Rattle.gate_indexed.proofs.open.Goals as goal

pub returns-then-not-pids_good : goal.returns-then-not-pids_good
returns-then-not-pids_good c = search opened_pid

pub returns-then-not-can_open : goal.returns-then-not-can_open
returns-then-not-can_open c = let a = c.args in
    opened_little a.settings a.extra.now a.buckets.now a.words.now (length a.keys.now) (length a.changes.now) (length a.links.now) _ c.pids_good.ensures (ap not c.if-not-pids_good.false) _ c.can_open.ensures _ (ap not c.if-not-can_open.true) c.begin-then-not-can_open.ensures

pub clear-requires : goal.clear-requires
clear-requires c = let a = c.args in
    buckets_room a.settings a.extra.now a.buckets.now a.words.now (length a.keys.now) (length a.changes.now) (length a.links.now) _ c.pids_good.ensures (ap not c.if-not-pids_good.false) _ c.can_open.ensures (ap not c.if-not-can_open.false) _ c.room.ensures

pub fill-requires : goal.fill-requires
fill-requires c = let a = c.args in record { in_bounds = words_room a.settings a.extra.now a.buckets.now a.words.now (length a.keys.now) (length a.changes.now) (length a.links.now) _ c.pids_good.ensures (ap not c.if-not-pids_good.false) _ c.can_open.ensures (ap not c.if-not-can_open.false); extra_value = pids_good a.settings a.extra.now a.buckets.now a.words.now (length a.keys.now) (length a.changes.now) (length a.links.now) _ c.pids_good.ensures (ap not c.if-not-pids_good.false) }

pub returns : goal.returns
returns c = let a = c.args in
    opened_yes a.settings a.extra.now a.buckets.now a.words.now (length a.keys.now) (length a.changes.now) (length a.links.now) _ c.pids_good.ensures (ap not c.if-not-pids_good.false) _ c.can_open.ensures _ _ _ _ (ap not c.if-not-can_open.false) c.room.ensures c.clear.ensures c.fill.ensures c.begin-2.ensures
