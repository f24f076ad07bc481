use Rattle.laid.proofs.Walks.{rest_room, end_here, end_none}
use Rattle.laid.proofs.end_at.Goals as goal

pub section_length-requires : goal.section_length-requires
section_length-requires c = search rest_room

pub returns-then-at-s : goal.returns-then-at-s
returns-then-at-s c = search end_here

pub returns-else-at-s : goal.returns-else-at-s
returns-else-at-s c = search end_none
