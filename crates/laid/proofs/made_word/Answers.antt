use Rattle.laid.proofs.Ways.{word_one, word_none}
use Rattle.laid.proofs.made_word.Goals as goal

pub returns-in-Ok : goal.returns-in-Ok
returns-in-Ok c = search word_one

pub returns-in-Err : goal.returns-in-Err
returns-in-Err c = search word_none
