use Rattle.listing.proofs.Ways.{put_before, put_none, put_room}
use mathlib.Core.Path.{◌∙◌}
use Rattle.listing.proofs.put.Goals as goal

pub returns-then-k-skip : goal.returns-then-k-skip
returns-then-k-skip c = search put_before

pub returns-then-row-list : goal.returns-then-row-list
returns-then-row-list c = search (put_room, ◌∙◌)

pub returns-else-row-list : goal.returns-else-row-list
returns-else-row-list c = search put_none
