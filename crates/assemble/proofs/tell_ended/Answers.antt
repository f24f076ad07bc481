use Rattle.assemble.proofs.Laws.{none_ended, one_ended}
use Rattle.assemble.proofs.tell_ended.Goals as goal

pub returns-then-ended-eq0 : goal.returns-then-ended-eq0
returns-then-ended-eq0 c = let r = let a = c.args in none_ended a.places.now a.number a.ended c.if-ended-eq0.true in record { value = r.0; places_after = r.1 }

pub returns : goal.returns
returns c = let r = let a = c.args in one_ended a.places.now a.number a.ended c.place.new.places c.if-ended-eq0.false c.place.ensures in record { value = r.0; places_after = r.1 }
