use mathlib.Core.Path.{refl}
use Rattle.counts_lines.specs.Lines.{numbers_of}
use Rattle.counts_lines.proofs.numbers.Goals as goal

pub returns : goal.returns
unfolding numbers_of
returns c = refl
