use Rattle.sets.proofs.Questions.{opened_yes, opened_no}
use Rattle.sets.proofs.open.Goals as goal

pub returns-then-settings_fit : goal.returns-then-settings_fit
returns-then-settings_fit c = search opened_yes

pub returns-else-settings_fit : goal.returns-else-settings_fit
returns-else-settings_fit c = search opened_no
