use native.Mathlib.Omega.{arith}
use Rattle.arrivals.proofs.Facts.{eit_read_arrived}
use Rattle.arrivals.proofs.eit_arrival.Goals as goal

pub returns-clause-eit_taken : goal.returns-clause-eit_taken
returns-clause-eit_taken c = eit_read_arrived c.args.bytes.now (omega (arith, c.shared_slice_known-1.given 7)) c.in_ok-from.from c.eit_read.result c.eit_read.ensures
