-- `section::pids::add` meets its contract: the shift is the power. Assumes nothing.
use Rattle.laws.specs.Bits.{add_bit}
use Rattle.laws.proofs.Bits.{one_shl}
use native.Mathlib.Omega.{arith}
use Prim.Native.Nat.{◌%◌}
use Rattle.section.proofs.pids.add.Goals as goal

pub returns : goal.returns
unfolding add_bit
returns c = rw (one_shl (c.args.pid.0 % 64) (omega arith))
