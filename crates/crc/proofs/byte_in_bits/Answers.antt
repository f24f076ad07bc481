use mathlib.Core.Path.{◌≡◌, refl, sym, ap, ◌∙◌}
use Prim.Native.Nat.{ℕ, suc, ◌+◌, ◌-◌, ◌/◌, ◌%◌, ◌^◌}
use native.Mathlib.Nat.{mod-lt, zero-lt-suc, div-one}
use native.Mathlib.Omega.{arith}
use lib.Pow.{shr-shr}
use Rattle.crc.specs.Crc.{bit_in, bits_in}
use Rattle.crc.proofs.byte_in_bits.Goals as goal

-- one bit more
more : (n j r w : ℕ) → bits_in (suc n) r (w / 2 ^ j) ≡ bit_in (bits_in n r (w / 2 ^ (j + 1))) (w / 2 ^ j % 2)
unfolding bits_in
more n j r w = ap (λ (x : ℕ). bit_in (bits_in n r x) (w / 2 ^ j % 2)) (shr-shr w j 1)

pub loop-k-init : goal.loop-k-init
unfolding bits_in
loop-k-init c = (omega arith, refl)

pub overflow_shr-w : goal.overflow_shr-w
overflow_shr-w c = omega arith

pub bit_in-x-requires : goal.bit_in-x-requires
bit_in-x-requires c = mod-lt _ (zero-lt-suc 1)

pub loop-k-preserved : goal.loop-k-preserved
loop-k-preserved c = let k = c.loop-k.k in
    let r = c.args.r in
    let w = c.wide-w.result in
    let e : k - 1 + 1 ≡ k = omega arith in
    let f : suc (8 - k) ≡ 8 - (k - 1) = omega arith in (
      omega arith,
      c.bit_in-x.ensures
          ∙ ap (λ (x : ℕ). bit_in x (w / 2 ^ (k - 1) % 2)) (c.loop-k.invariant.1 ∙ ap (λ (x : ℕ). bits_in (8 - k) r (w / 2 ^ x)) (sym e))
          ∙ sym (more (8 - k) (k - 1) r w) ∙ ap (λ (x : ℕ). bits_in x r (w / 2 ^ (k - 1))) f,
    )

pub returns : goal.returns
returns c = let r = c.args.r in
    let w = c.wide-w.result in
    let z : c.loop-k.k ≡ 0 = omega arith in
    c.loop-k.invariant.1 ∙ ap (λ (x : ℕ). bits_in (8 - x) r (w / 2 ^ x)) z ∙ ap (bits_in 8 r) (div-one w ∙ c.wide-w.ensures.0)
