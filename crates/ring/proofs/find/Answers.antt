use Prim.Native.Nat.{◌+◌, ◌≤◌, ◌-◌}
use mathlib.Core.Path.{◌≡◌}
use borrow.Author.Rules.{rules}
use Rattle.ring.proofs.Search.{first_found, second_found, third_found, fourth_found, four_more, left_over}
use Rattle.ring.proofs.find.Goals as goal

pub returns-then-keys-i : goal.returns-then-keys-i
returns-then-keys-i c = search first_found

pub returns-then-keys-i-2 : goal.returns-then-keys-i-2
returns-then-keys-i-2 c = search second_found

pub returns-then-keys-i-3 : goal.returns-then-keys-i-3
returns-then-keys-i-3 c = search third_found

pub returns-then-keys-i-4 : goal.returns-then-keys-i-4
returns-then-keys-i-4 c = search fourth_found

pub loop-i-preserved : goal.loop-i-preserved
loop-i-preserved c = (search rules, search four_more)

pub returns : goal.returns
returns c = search left_over
