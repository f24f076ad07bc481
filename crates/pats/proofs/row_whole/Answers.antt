-- `pats::row_whole` meets its contract. Assumes nothing.
use Rattle.pats.proofs.Ways.{no_row, one_row_lem, more_rows}
use Rattle.pats.proofs.row_whole.Goals as goal

pub returns-then-used-eq0 : goal.returns-then-used-eq0
returns-then-used-eq0 c = search no_row

pub returns-then-used-eq1 : goal.returns-then-used-eq1
returns-then-used-eq1 c = search one_row_lem

pub returns : goal.returns
returns c = search (more_rows, c.if-used-eq0.false, c.if-used-eq1.false)
