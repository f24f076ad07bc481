use Rattle.eit_state.proofs.Ways.{opened_yes, opened_no}
use Rattle.eit_state.proofs.opened.Goals as goal

pub returns-then-settings_fit : goal.returns-then-settings_fit
returns-then-settings_fit c = search opened_yes

pub returns : goal.returns
returns c = search opened_no
