use mathlib.Core.Path.{refl, ap, ◌∙◌}
use Prim.Native.Nat.{ℕ}
use native.Mathlib.Omega.{arith}
use lib.ListN.{get_or}
use Rattle.crc.specs.Crc.{byte_in, crc_from, start}
use Rattle.crc.proofs.Messages.{turn, all}
use Rattle.crc.proofs.crc_bitwise.Goals as goal

pub loop-v-init : goal.loop-v-init
unfolding crc_from
loop-v-init c = (omega arith, refl)

pub loop-v-preserved : goal.loop-v-preserved
loop-v-preserved c = let s = c.args.s.now in
    let i = c.loop-v.v-index in (
      omega arith,
      c.byte_in_bits-r.ensures ∙ ap (λ (r : ℕ). byte_in r (get_or s i 0)) c.loop-v.invariant.1 ∙ turn start s i (omega arith),
    )

pub returns : goal.returns
returns c = c.loop-v.invariant.1 ∙ all c.args.s.now c.loop-v.v-index (omega arith)
