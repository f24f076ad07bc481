use Rattle.demux_pass.proofs.Laws.{in_packets, can_count, went}
use borrow.Author.Rules.{rules}
use Rattle.demux_pass.proofs.inner.pass.Goals as goal

pub pass_over-number-requires : goal.pass_over-number-requires
pass_over-number-requires c = record { looks = search rules; most_in_bounds = search in_packets }

pub overflow_add-result : goal.overflow_add-result
overflow_add-result c = search can_count

pub returns : goal.returns
returns c = search went
