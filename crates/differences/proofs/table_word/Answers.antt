use native.Mathlib.Omega.{arith}
use Rattle.differences.proofs.Tabling.{word_neither, word_second, word_first, word_both}
use Rattle.differences.proofs.table_word.Goals as goal

pub returns-then-y-eq0 : goal.returns-then-y-eq0
returns-then-y-eq0 c = search word_neither

pub returns-then-x-eq0 : goal.returns-then-x-eq0
returns-then-x-eq0 c = search word_second

pub returns-then-y-eq0-2 : goal.returns-then-y-eq0-2
returns-then-y-eq0-2 c = search word_first

pub bounds-x-5 : goal.bounds-x-5
bounds-x-5 c = let h = c.requires.sectioned.least c.if-x-eq0.false in omega (arith, h)

pub bounds-y-5 : goal.bounds-y-5
bounds-y-5 c = let h = c.requires.sectioned_2.least c.if-y-eq0-2.false in omega (arith, h)

pub bounds-x-7 : goal.bounds-x-7
bounds-x-7 c = let h = c.requires.sectioned.least c.if-x-eq0.false in omega (arith, h)

pub bounds-y-7 : goal.bounds-y-7
bounds-y-7 c = let h = c.requires.sectioned_2.least c.if-y-eq0-2.false in omega (arith, h)

pub returns : goal.returns
returns c = word_both c.args.x.now c.args.y.now c.unless-versions.result c.unless-lasts.result c.if-x-eq0.false c.if-y-eq0-2.false c.unless-versions.ensures.0 c.unless-lasts.ensures.0
