use mathlib.Core.Path.{◌∙◌}
use Prim.Native.Nat.{ℕ}
use lib.Dec.{ltb}
use borrow.Author.Rules.{rules}
use borrow.Author.Tests.{tests}
use Rattle.std.proofs.lemmas.Iterator.{YieldsList-from_slice}
use Rattle.std.proofs.lemmas.Iterator.Search.{all_from_yields_List}
use Rattle.watched.proofs.Laws.{all_below}
use Rattle.watched.proofs.inner.pids_good.Goals as goal

pub returns : goal.returns
returns c = all_from_yields_List (λ (p : ℕ). ltb p 8192) _ _ _ c.all.ensures.ran (YieldsList-from_slice c.args.extra.now c.iter.ensures.rest) (λ x b q k. search (rules, tests)) ∙ all_below c.args.extra.now
