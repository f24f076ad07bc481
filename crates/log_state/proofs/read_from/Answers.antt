use Rattle.log_state.proofs.Laws.{read_short, read_mismatch, read_sound}
use Rattle.log_state.proofs.read_from.Goals as goal

pub returns-in-Short : goal.returns-in-Short
returns-in-Short c = search read_short

pub returns-in-Mismatch : goal.returns-in-Mismatch
returns-in-Mismatch c = search read_mismatch

pub returns-in-Sound : goal.returns-in-Sound
returns-in-Sound c = search read_sound
