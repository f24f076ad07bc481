-- `readers::next_part`: the step's place and the part there. Assumes nothing.
use mathlib.Core.Path.{refl}
use Rattle.readers.specs.Reader.{held, moved_on}
use Rattle.readers.proofs.next_part.Goals as goal

pub returns : goal.returns
unfolding moved_on held
returns c = rw (c.section_part.ensures, c.step_from-step.ensures) refl
