use Rattle.host_log_records.proofs.Laws.{set_room, set_made_lem}
use borrow.Author.Rules.{rules}
use Rattle.host_log_records.proofs.set_record.Goals as goal

pub write_entry-requires : goal.write_entry-requires
write_entry-requires c = search (rules, set_room)

pub returns : goal.returns
returns c = search set_made_lem
