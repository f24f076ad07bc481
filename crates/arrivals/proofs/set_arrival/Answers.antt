use native.Mathlib.Omega.{arith}
use Rattle.arrivals.proofs.Facts.{set_read_arrived}
use Rattle.arrivals.proofs.set_arrival.Goals as goal

pub returns-clause-set_taken : goal.returns-clause-set_taken
returns-clause-set_taken c = set_read_arrived c.args.bytes.now (omega (arith, c.shared_slice_known-1.given 7)) c.in_ok-from.from c.set_read.result c.set_read.ensures
