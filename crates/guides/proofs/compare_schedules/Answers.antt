use Rattle.guides.proofs.Ways.{alike_schedules, schedules_refused, schedules_alike, list_amiss, list_alike, tables_amiss, tables_alike}
use Rattle.guides.proofs.compare_schedules.Goals as goal

pub compare_tables-requires : goal.compare_tables-requires
compare_tables-requires c = search alike_schedules

pub returns-in-Err : goal.returns-in-Err
returns-in-Err c = record { value = search schedules_refused; tables_after = search tables_amiss; list_after = search list_amiss }

pub returns-in-Ok : goal.returns-in-Ok
returns-in-Ok c = record { value = search schedules_alike; tables_after = search tables_alike; list_after = search list_alike }
