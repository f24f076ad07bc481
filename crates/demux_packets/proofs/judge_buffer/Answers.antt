use Rattle.demux_packets.proofs.Laws.{its_own, a_free_one, none_free}
use Rattle.demux_packets.proofs.judge_buffer.Goals as goal

pub returns-then-number-count : goal.returns-then-number-count
returns-then-number-count c = search its_own

pub returns-then-free-count : goal.returns-then-free-count
returns-then-free-count c = search a_free_one

pub returns : goal.returns
returns c = search none_free
