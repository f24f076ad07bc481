-- `eit_section::table_id` meets its contract: past the end of a list its elements are 0. Assumes nothing.
use native.Mathlib.Omega.{arith}
use mathlib.Core.Path.{sym}
use lib.ListN.{get_or-eq_default}
use Rattle.eit_section.proofs.table_id.Goals as goal

pub returns-else-s-gt0 : goal.returns-else-s-gt0
returns-else-s-gt0 c = sym (get_or-eq_default c.args.s.now 0 (omega arith))
