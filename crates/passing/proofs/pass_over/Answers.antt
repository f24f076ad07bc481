use mathlib.Core.Path.{◌≡◌, refl}
use Prim.Native.Nat.{◌≤◌, ◌-◌, ◌*◌}
use native.Mathlib.Omega.{arith}
use borrow.Author.Rules.{rules}
use Rattle.passing.proofs.Laws.{none_yet, at_the_most, stops, goes_on_lem}
use Rattle.passing.proofs.pass_over.Goals as goal

pub loop-n-init : goal.loop-n-init
loop-n-init c = (omega arith, refl, none_yet _ _ _ _)

pub returns-then-not-pass : goal.returns-then-not-pass
returns-then-not-pass c = search stops

pub loop-n-preserved : goal.loop-n-preserved
loop-n-preserved c = (search rules, search rules, search goes_on_lem)

pub returns : goal.returns
returns c = search at_the_most
