use Rattle.tallies.proofs.Ways.{more_room, more_none}
use Rattle.tallies.proofs.more.Goals as goal

pub returns-then-n-lt18446744073709551615 : goal.returns-then-n-lt18446744073709551615
returns-then-n-lt18446744073709551615 c = search more_room

pub returns-else-n-lt18446744073709551615 : goal.returns-else-n-lt18446744073709551615
returns-else-n-lt18446744073709551615 c = search more_none
