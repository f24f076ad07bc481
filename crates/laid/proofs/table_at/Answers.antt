use Rattle.laid.proofs.Walks.{lead_none, lead_other, lead_here, part_sized, part_empty}
use Rattle.laid.proofs.table_at.Goals as goal

pub returns-then-s-at : goal.returns-then-s-at
returns-then-s-at c = record { result_value = search lead_none; sectioned = search part_empty }

pub returns-then-wide-table : goal.returns-then-wide-table
returns-then-wide-table c = record { result_value = lead_other c.args.s.now c.args.at c.requires c.args.table c.wide.result c.if-s-at.false c.wide.ensures.0 c.if-wide-table.true; sectioned = search part_empty }

pub returns : goal.returns
returns c = record { result_value = lead_here c.args.s.now c.args.at c.requires c.args.table c.wide.result c.end_at-end.result c.if-s-at.false c.wide.ensures.0 c.if-wide-table.false c.end_at-end.ensures; sectioned = search part_sized }
