use Prim.Native.Nat.{◌-◌, ◌*◌, ◌/◌}
use mathlib.Core.Path.{◌≡◌}
use native.Mathlib.Omega.{arith}
use lib.ListN.{length}
use Rattle.crc.proofs.Messages.{in_parts}
use Rattle.crc.proofs.crc.Goals as goal

pub returns : goal.returns
returns c = let s = c.args.s.now in
    let n = length s / 16 * 16 in
    let z : n - 0 ≡ n = omega arith in
    in_parts s n (length s / 8 * 8) c.sixteens-r.result c.eights-x.result c.rest.result (omega arith) (omega arith) (rw z at c.sixteens-r.ensures) c.eights-x.ensures c.rest.ensures
