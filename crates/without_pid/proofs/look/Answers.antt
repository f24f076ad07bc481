use mathlib.Core.Path.{refl}
use native.Mathlib.Omega.{arith}
use borrow.Author.Rules.{rules}
use Rattle.rows.proofs.Loops.{rows_turn, rows_end}
use Rattle.without_pid.proofs.Rows.{down_start, down_row, down_end, plain_whole, plain_pid, first, second}
use Rattle.without_pid.proofs.look.Goals as goal

pub loop-i-init : goal.loop-i-init
loop-i-init c = (omega arith, refl, down_start _ _)

pub loop-i-preserved-then-is_plain : goal.loop-i-preserved-then-is_plain
loop-i-preserved-then-is_plain c = (search rules, search (plain_whole, first c.is_plain.ensures), search (plain_pid, second c.is_plain.ensures))

pub loop-i-preserved : goal.loop-i-preserved
loop-i-preserved c = (search rules, search rows_turn, search down_row)

pub returns : goal.returns
returns c = (search rows_end, search down_end)
