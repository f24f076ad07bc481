use Rattle.host_words.proofs.Laws.{input_small, input_large}
use Rattle.host_words.proofs.inputs.number.Goals as goal

pub returns-then-input-lt255 : goal.returns-then-input-lt255
returns-then-input-lt255 c = search input_small

pub returns-else-input-lt255 : goal.returns-else-input-lt255
returns-else-input-lt255 c = search input_large
