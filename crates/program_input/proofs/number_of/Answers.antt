use borrow.Author.Rules.{rules}
use Rattle.program_input.proofs.Numbers.{number_none, number_some, number_stop, number_turn, number_end}
use Rattle.program_input.proofs.number_of.Goals as goal

pub loop-c-init : goal.loop-c-init
loop-c-init c = (search rules, search number_some)

pub returns-then-not-is_digit : goal.returns-then-not-is_digit
returns-then-not-is_digit c = search number_stop

pub loop-c-preserved : goal.loop-c-preserved
loop-c-preserved c = (search rules, search number_turn)

pub returns : goal.returns
returns c = search number_end
