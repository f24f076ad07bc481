use Rattle.log_records.proofs.Reading.{at_end_lem, cut_off, found_there, no_kind}
use Rattle.log_records.proofs.read_record.Goals as goal

pub returns-then-log-place : goal.returns-then-log-place
returns-then-log-place c = search at_end_lem

pub returns-then-size-eq0 : goal.returns-then-size-eq0
returns-then-size-eq0 c = search no_kind

pub returns-then-log-place-2 : goal.returns-then-log-place-2
returns-then-log-place-2 c = search cut_off

pub returns : goal.returns
returns c = search found_there
