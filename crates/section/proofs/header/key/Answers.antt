-- `section::header::key` meets its contract. Assumes nothing.
use mathlib.Core.Path.{refl}
use Rattle.section.specs.Key.{key_of}
use Rattle.section.proofs.header.key.Goals as goal

pub returns : goal.returns
unfolding key_of
returns c = refl
