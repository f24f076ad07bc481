use Rattle.streams.proofs.Laws.{word_none, word_turn, word_end}
use mathlib.Core.Path.{◌≡◌, refl}
use Prim.Native.Nat.{◌≤◌, ◌-◌}
use native.Mathlib.Omega.{arith}
use borrow.Author.Rules.{rules}
use Rattle.streams.proofs.inner.give_word.Goals as goal

pub returns-then-left-eq0 : goal.returns-then-left-eq0
returns-then-left-eq0 c = search word_none

pub loop-n-init : goal.loop-n-init
loop-n-init c = (omega arith, refl, refl)

pub loop-n-preserved : goal.loop-n-preserved
loop-n-preserved c = (search rules, search rules, search word_turn)

pub returns : goal.returns
returns c = search word_end
