use Rattle.alignment.proofs.Laws.{seek_first}
use mathlib.Core.Path.{◌≡◌}
use Prim.Native.Nat.{◌≤◌, ◌-◌}
use native.Mathlib.Omega.{arith}
use borrow.Author.Rules.{rules}
use Rattle.laws.proofs.Search.{first_hit, first_miss, first_none}
use Rattle.alignment.proofs.seek.Goals as goal

pub loop-j-init : goal.loop-j-init
loop-j-init c = (omega arith, search seek_first)

pub returns-then-sync_at : goal.returns-then-sync_at
returns-then-sync_at c = search first_hit

pub loop-j-preserved : goal.loop-j-preserved
loop-j-preserved c = (search rules, search first_miss)

pub returns : goal.returns
returns c = search first_none
