use mathlib.Core.Path.{refl}
use native.Mathlib.Omega.{arith}
use Rattle.filter.proofs.Laws.{rows_turn, rows_end, fewer_fit}
use borrow.Author.Rules.{rules}
use Rattle.filter.proofs.drop_rows.Goals as goal

pub loop-i-init : goal.loop-i-init
loop-i-init c = (omega arith, omega arith, refl, refl, refl)

pub drop_row-left-requires : goal.drop_row-left-requires
drop_row-left-requires c = (omega arith, search fewer_fit)

pub loop-i-preserved : goal.loop-i-preserved
loop-i-preserved c = (search rules, search rules, search rules, search rules, search rows_turn)

pub returns : goal.returns
returns c = search rows_end
