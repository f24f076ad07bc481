use Rattle.demux_places.proofs.Laws.{part_past, part_short, part_there}
use Rattle.demux_places.proofs.part.Goals as goal

pub returns-then-end-first : goal.returns-then-end-first
returns-then-end-first c = search part_past

pub returns-then-end-first-2 : goal.returns-then-end-first-2
returns-then-end-first-2 c = search part_short

pub returns : goal.returns
returns c = search part_there
