use Rattle.network_sets.proofs.Ways.{said_refused, said_listed, none_refused}
use borrow.Author.Rules.{rules}
use Rattle.network_sets.proofs.read_slots.Goals as goal

pub returns-in-Err : goal.returns-in-Err
returns-in-Err c = search said_refused

pub list_slots-requires : goal.list_slots-requires
list_slots-requires c = record { slots_in = search rules; all_taken = search none_refused }

pub returns : goal.returns
returns c = search said_listed
