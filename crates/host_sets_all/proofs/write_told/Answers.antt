use Rattle.host_sets_all.proofs.Calls.{told_pushed, told_long}
use Rattle.host_sets_all.proofs.write_told.Goals as goal

pub returns-in-Pushed : goal.returns-in-Pushed
returns-in-Pushed c = search told_pushed

pub returns-in-TooLong : goal.returns-in-TooLong
returns-in-TooLong c = search told_long
