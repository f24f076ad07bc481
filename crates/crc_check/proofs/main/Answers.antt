-- The published CRC: antt works the definition out at these bytes. Assumes nothing.
use Rattle.crc.specs.Crc.{bit_in, bits_in, crc_from}
use Rattle.crc_check.proofs.main.Goals as goal

pub prove_eq-unreachable-requires : goal.prove_eq-unreachable-requires
unfolding crc_from bits_in bit_in
prove_eq-unreachable-requires c = c.if-prove_eq.true c.crc_bitwise-bitwise.ensures

pub prove_eq-unreachable-requires-3 : goal.prove_eq-unreachable-requires-3
unfolding crc_from bits_in bit_in
prove_eq-unreachable-requires-3 c = c.if-prove_eq-3.true c.crc-whole.ensures
