use Rattle.host_eit_words.proofs.Laws.{filter_read}
use Rattle.host_eit_words.proofs.filter.Goals as goal

pub returns : goal.returns
returns c = search filter_read
