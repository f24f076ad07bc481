use Prim.Native.Nat.{◌+◌, ◌≤◌, ◌-◌}
use mathlib.Core.Path.{◌≡◌}
use borrow.Author.Rules.{rules}
use Rattle.ring.proofs.Search.{row_found, row_more, row_none}
use Rattle.ring.proofs.find_from.Goals as goal

pub returns-then-keys-i : goal.returns-then-keys-i
returns-then-keys-i c = search row_found

pub loop-i-preserved : goal.loop-i-preserved
loop-i-preserved c = (search rules, search row_more)

pub returns : goal.returns
returns c = search row_none
