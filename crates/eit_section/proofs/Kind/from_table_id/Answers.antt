-- `eit_section::Kind::from_table_id` meets its contract: a law for each range. Assumes nothing.
use mathlib.Core.Path.{sym}
use Rattle.eit_section.proofs.Laws.{following_actual, following_other, schedule_actual, schedule_other, none_below, none_above}
use native.Mathlib.Omega.{arith}
use Rattle.eit_section.proofs.Kind.from_table_id.Goals as goal

pub returns-in-78 : goal.returns-in-78
returns-in-78 c = sym (following_actual c.args.table_id (omega arith))

pub returns-in-79 : goal.returns-in-79
returns-in-79 c = sym (following_other c.args.table_id (omega arith))

pub returns-in-80-to-95 : goal.returns-in-80-to-95
returns-in-80-to-95 c = sym (schedule_actual c.args.table_id (omega arith) (omega arith))

pub returns-in-96-to-111 : goal.returns-in-96-to-111
returns-in-96-to-111 c = sym (schedule_other c.args.table_id (omega arith) (omega arith))

pub returns-in_default : goal.returns-in_default
returns-in_default c = sym (none_below c.args.table_id (omega arith))

pub returns-in_default-2 : goal.returns-in_default-2
returns-in_default-2 c = sym (none_above c.args.table_id (omega arith))
