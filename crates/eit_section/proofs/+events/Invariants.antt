-- `eit_section::events` ends since each event takes at least 12 bytes off the rest.
use lib.ListN.{length}
use Rattle.eit_section.proofs.+events.Given as goal

abbrev pub decreases-events : goal.decreases-events
decreases-events l = length l.s.now
