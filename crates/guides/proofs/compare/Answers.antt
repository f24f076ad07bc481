use Rattle.guides.proofs.Ways.{alike_sets, compare_amiss, compare_alike, listed_amiss, listed_alike}
use Rattle.guides.proofs.compare.Goals as goal

pub compare_sets-requires : goal.compare_sets-requires
compare_sets-requires c = search alike_sets

pub returns-in-Err : goal.returns-in-Err
returns-in-Err c = record { value = search compare_amiss; list_after = search listed_amiss }

pub returns-in-Ok : goal.returns-in-Ok
returns-in-Ok c = record { value = search compare_alike; list_after = search listed_alike }
