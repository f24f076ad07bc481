-- `listing`'s two walks end: each goes on in the loop, an entry takes at least its header, and the readers of one place are tried in turn.
use Prim.Native.Nat.{◌+◌, ◌-◌, ◌*◌}
use lib.ListN.{length}
use Rattle.listing.proofs.+descriptors_entries.Given as goal

abbrev pub decreases-descriptors : goal.decreases-descriptors
decreases-descriptors l = 2 * (length l.s.now - l.at) + 1

abbrev pub decreases-entries : goal.decreases-entries
decreases-entries l = 2 * (length l.s.now - l.at)
