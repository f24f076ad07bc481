use Rattle.demux_packets.proofs.Laws.{is_watched, not_watched}
use Rattle.demux_packets.proofs.judge_load.Goals as goal

pub returns-then-has : goal.returns-then-has
returns-then-has c = search is_watched

pub returns : goal.returns
returns c = search not_watched
