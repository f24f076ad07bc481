use Rattle.host_words.proofs.Laws.{pushes_are}
use Rattle.host_sets_words.proofs.write_pushed.Goals as goal

pub returns : goal.returns
returns c = search pushes_are
