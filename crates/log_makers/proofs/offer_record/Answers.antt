use Rattle.log_makers.proofs.Laws.{offer_long, offer_done}
use Rattle.log_makers.proofs.offer_record.Goals as goal

pub returns-then-section-gt4098 : goal.returns-then-section-gt4098
returns-then-section-gt4098 c = search offer_long

pub returns : goal.returns
returns c = search offer_done
