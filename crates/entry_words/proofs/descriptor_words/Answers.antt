use mathlib.Core.Path.{refl}
use Rattle.entry_words.specs.Words.{descriptor_words}
use Rattle.entry_words.proofs.descriptor_words.Goals as goal

pub returns : goal.returns
unfolding descriptor_words
returns c = refl
