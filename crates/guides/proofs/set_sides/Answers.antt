use Rattle.std.proofs.Common.{rules}
use Rattle.guides.proofs.Ways.{sets_not, first_room, second_room, sets_amiss, sets_keyed}
use Rattle.guides.specs.Store.{set_sides}
use Rattle.guides.proofs.set_sides.Goals as goal

pub returns-then-not-is_set : goal.returns-then-not-is_set
returns-then-not-is_set c = search sets_not

pub returns-in_err-p : goal.returns-in_err-p
unfolding set_sides
returns-in_err-p c = search (rules, sets_amiss)

pub key_in-requires : goal.key_in-requires
key_in-requires c = search first_room

pub key_in-requires-2 : goal.key_in-requires-2
key_in-requires-2 c = search second_room

pub returns : goal.returns
returns c = search (rules, sets_keyed)
