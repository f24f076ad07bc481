use Rattle.std.proofs.Common.{rules}
use Rattle.guides.proofs.Ways.{schedules_not, first_long, second_long, schedules_amiss, schedules_keyed}
use Rattle.guides.specs.Store.{schedule_sides}
use Rattle.guides.proofs.schedule_sides.Goals as goal

pub returns-then-not-is_schedule : goal.returns-then-not-is_schedule
returns-then-not-is_schedule c = search schedules_not

pub returns-in_err-p : goal.returns-in_err-p
unfolding schedule_sides
returns-in_err-p c = search (rules, schedules_amiss)

pub schedule_key_in-requires : goal.schedule_key_in-requires
schedule_key_in-requires c = search first_long

pub schedule_key_in-requires-2 : goal.schedule_key_in-requires-2
schedule_key_in-requires-2 c = search second_long

pub returns : goal.returns
returns c = search (rules, schedules_keyed)
