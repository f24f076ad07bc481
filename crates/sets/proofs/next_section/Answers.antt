use Rattle.sets.proofs.Questions.{next_broken, next_without, next_none, next_in, row_there_lem, size_small}
use Rattle.sets.proofs.next_section.Goals as goal

pub returns-then-seen-2 : goal.returns-then-seen-2
returns-then-seen-2 c = search next_without

pub row_slots-requires : goal.row_slots-requires
row_slots-requires c = let a = c.args in let seen = c.look-seen in row_there_lem a.sets a.heads.now a.slots.now a.cells.now seen.result.whole a.row seen.ensures.whole_value c.if-seen.true c.if-row-sets.true

pub next_slot-requires : goal.next_slot-requires
next_slot-requires c = search size_small

pub returns-then-row-sets : goal.returns-then-row-sets
returns-then-row-sets c = search next_in

pub returns-then-seen : goal.returns-then-seen
returns-then-seen c = search next_none

pub returns : goal.returns
returns c = search next_broken
