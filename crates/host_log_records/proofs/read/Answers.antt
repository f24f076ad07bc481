use Rattle.std.proofs.Common.{◌≡◌, Ok, Some, None}
use Rattle.host_log_records.proofs.Laws.{place_fits, read_found, read_end, read_not}
use borrow.Author.Rules.{rules}
use Rattle.host_log_records.proofs.read.Goals as goal

pub overflow_add-at : goal.overflow_add-at
overflow_add-at c = search (rules, place_fits)

pub returns-in-Ok-Some : goal.returns-in-Ok-Some
returns-in-Ok-Some c = let f : c.read_record.result ≡ Ok (Some c.in-Ok-Some.r) = cc in search (read_found, f)

pub returns-in-Ok-None : goal.returns-in-Ok-None
returns-in-Ok-None c = let f : c.read_record.result ≡ Ok None = cc in search (read_end, f)

pub returns-in-Err : goal.returns-in-Err
returns-in-Err c = search read_not
