-- `crc::bit_in` meets its contract, by the two outcomes of its test. Assumes nothing.
use borrow.Author.Tests.{eq-eqb, ne_eqb}
use Rattle.crc.specs.Crc.{bit_in}
use Rattle.crc.proofs.bit_in.Goals as goal

pub returns-then-r-b : goal.returns-then-r-b
unfolding bit_in
returns-then-r-b c = simp (eq-eqb _ _ c.if-r-b.true)

pub returns-else-r-b : goal.returns-else-r-b
unfolding bit_in
returns-else-r-b c = simp (ne_eqb _ _ c.if-r-b.false)
