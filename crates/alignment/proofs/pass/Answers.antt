use Rattle.alignment.proofs.Laws.{end_inside, is_found_lem, not_found}
use Rattle.alignment.proofs.pass.Goals as goal

pub seek-at-requires : goal.seek-at-requires
seek-at-requires c = search end_inside

pub returns-then-last-at : goal.returns-then-last-at
returns-then-last-at c = search is_found_lem

pub returns : goal.returns
returns c = search not_found
