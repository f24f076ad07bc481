use Rattle.host_log_words.proofs.Laws.{settings_read}
use Rattle.host_log_words.proofs.settings_of.Goals as goal

pub returns : goal.returns
returns c = search settings_read
