use Rattle.log_makers.proofs.Laws.{noted_emitted, noted_suppressed, noted_failed, noted_refused, noted_nowhere}
use Rattle.log_makers.proofs.note.Goals as goal

pub returns-in-Emitted : goal.returns-in-Emitted
returns-in-Emitted c = search noted_emitted

pub returns-in-Suppressed : goal.returns-in-Suppressed
returns-in-Suppressed c = search noted_suppressed

pub returns-in-Failed : goal.returns-in-Failed
returns-in-Failed c = search noted_failed

pub returns-in-Refused : goal.returns-in-Refused
returns-in-Refused c = search noted_refused

pub returns : goal.returns
returns c = search noted_nowhere
