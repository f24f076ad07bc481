use mathlib.Core.Path.{◌≡◌, refl}
use Prim.Native.Nat.{◌-◌}
use native.Mathlib.Omega.{arith}
use borrow.Author.Rules.{rules}
use Rattle.ring_index.proofs.Laws.{names, walk_end, walk_found, walk_more, walk_none}
use Rattle.ring_index.proofs.walk.Goals as goal

pub loop-init : goal.loop-init
loop-init c = let z : c.args.room - 0 ≡ c.args.room = omega arith in rw z refl

pub returns-then-at-used : goal.returns-then-at-used
returns-then-at-used c = search walk_end

pub overflow_sub-row : goal.overflow_sub-row
overflow_sub-row c = let h = names c.args.used c.loop.at c.if-at-used.false in search rules

pub offset_bounds-words-row : goal.offset_bounds-words-row
offset_bounds-words-row c = let h = names c.args.used c.loop.at c.if-at-used.false in search rules

pub bounds-words-row : goal.bounds-words-row
bounds-words-row c = let h = names c.args.used c.loop.at c.if-at-used.false in search rules

pub returns-then-words-row : goal.returns-then-words-row
returns-then-words-row c = search walk_found

pub offset_bounds-links-row : goal.offset_bounds-links-row
offset_bounds-links-row c = let h = names c.args.used c.loop.at c.if-at-used.false in search rules

pub bounds-links-row : goal.bounds-links-row
bounds-links-row c = let h = names c.args.used c.loop.at c.if-at-used.false in search rules

pub loop-preserved : goal.loop-preserved
loop-preserved c = search walk_more

pub returns : goal.returns
returns c = search walk_none
