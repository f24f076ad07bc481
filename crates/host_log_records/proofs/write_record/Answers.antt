use borrow.Author.Rules.{rules}
use Rattle.host_log_records.proofs.write_record.Goals as goal

pub overflow_cast-fields-10 : goal.overflow_cast-fields-10
overflow_cast-fields-10 c = search (rules, c.struct_known-10-1.given)

pub overflow_cast-fields-11 : goal.overflow_cast-fields-11
overflow_cast-fields-11 c = search (rules, c.struct_known-11-1.given)
