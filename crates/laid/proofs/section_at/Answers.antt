use Rattle.laid.proofs.Walks.{part_here, part_other, part_sized, part_empty}
use Rattle.laid.proofs.section_at.Goals as goal

pub returns-then-rank_at-rank : goal.returns-then-rank_at-rank
returns-then-rank_at-rank c = record { result_value = search part_here; sectioned = search part_sized }

pub returns-else-rank_at-rank : goal.returns-else-rank_at-rank
returns-else-rank_at-rank c = record { result_value = search part_other; sectioned = search part_empty }
