use Rattle.log_steps.proofs.Laws.{noted_nothing, noted_set, noted_refused, none_10, set_10}
use Rattle.log_steps.proofs.set_noted.Goals as goal

pub returns-in-Nothing : goal.returns-in-Nothing
returns-in-Nothing c = record { value = search noted_nothing; length_bound = search none_10 }

pub returns-in-Set : goal.returns-in-Set
returns-in-Set c = record { value = search noted_set; length_bound = search set_10 }

pub returns-in-Refused : goal.returns-in-Refused
returns-in-Refused c = record { value = search noted_refused; length_bound = search none_10 }
