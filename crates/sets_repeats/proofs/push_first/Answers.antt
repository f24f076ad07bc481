use native.Mathlib.Omega.{arith}
use lib.ListN.{length}
use Rattle.sets_repeats.specs.Repeats.{start}
use Rattle.columns.proofs.Ways.{pays_room}
use Rattle.sets_repeats.proofs.push_first.Goals as goal

pub push_filled-requires : goal.push_filled-requires
push_filled-requires c = let a = c.args in let l = pays_room a.sets.used (length a.list.now) c.pays.result c.pays.ensures c.if-pays.true in record { whole = c.requires.whole; used_value = c.requires.used_value; used_in_bounds = omega (arith, l, c.room-tags.ensures); whole_from = c.requires.whole_from }

pub returns : goal.returns
returns c = record { passed = start; whole_2 = c.requires.whole; used_after = c.requires.used_value; whole_from_2 = c.requires.whole_from }
