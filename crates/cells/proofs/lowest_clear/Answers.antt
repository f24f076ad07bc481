use Rattle.cells.proofs.Laws.{full_fits}
use Rattle.cells.proofs.Laws.{full_within, lowest_from}
use Rattle.std.proofs.Common.{rules}
use Rattle.cells.proofs.lowest_clear.Goals as goal

pub overflow_mul-full : goal.overflow_mul-full
overflow_mul-full c = search full_fits

pub clear_from-requires : goal.clear_from-requires
clear_from-requires c = (search full_within, search rules)

pub returns : goal.returns
returns c = search lowest_from
