use Rattle.guides.proofs.Ways.{none_held, second_held, first_held, both_held}
use Rattle.guides.proofs.inner.told_held.Goals as goal

pub returns-then-m-eq0 : goal.returns-then-m-eq0
returns-then-m-eq0 c = search none_held

pub returns-then-n-eq0 : goal.returns-then-n-eq0
returns-then-n-eq0 c = search second_held

pub returns-then-m-eq0-2 : goal.returns-then-m-eq0-2
returns-then-m-eq0-2 c = search first_held

pub returns : goal.returns
returns c = search both_held
