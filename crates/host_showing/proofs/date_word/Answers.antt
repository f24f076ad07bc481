use Rattle.host_showing.proofs.Calls.{date_spelt}
use Rattle.host_showing.proofs.date_word.Goals as goal

pub returns-in-Some : goal.returns-in-Some
returns-in-Some c = search date_spelt
