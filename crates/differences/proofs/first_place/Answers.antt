use borrow.Author.Rules.{rules}
use Rattle.differences.proofs.Places.{same_byte, place_found, place_ends}
use Rattle.differences.proofs.first_place.Goals as goal

pub loop-i-init : goal.loop-i-init
loop-i-init c = (search rules, search rules)

pub returns-then-x-i : goal.returns-then-x-i
returns-then-x-i c = (search place_found, search rules)

pub loop-i-preserved : goal.loop-i-preserved
loop-i-preserved c = (search rules, search same_byte)

pub returns : goal.returns
returns c = (search place_ends, search rules)
