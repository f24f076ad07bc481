use Rattle.sets_repeats.proofs.Ways.{searchable}
use borrow.Author.Rules.{rules}
use Rattle.sets_repeats.proofs.push_filled.Goals as goal

pub push_repeats-requires : goal.push_repeats-requires
push_repeats-requires c = let a = c.args in record { searchable = searchable a.sets a.heads.now a.slots.now a.cells.now c.fill.new.tags c.requires.whole c.requires.used_value (search rules) c.fill.ensures; whole_from = c.requires.whole_from }

pub returns : goal.returns
returns c = let k = c.push_repeats.ensures in record { passed = k.passed; whole_2 = k.searchable_2.whole; used_after = k.searchable_2.pids; whole_from_2 = k.whole_from_2 }
