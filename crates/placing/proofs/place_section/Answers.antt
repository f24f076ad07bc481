use Rattle.placing.proofs.Laws.{place_known_lem, place_new_lem}
use Rattle.placing.proofs.place_section.Goals as goal

pub returns-then-i-sets : goal.returns-then-i-sets
returns-then-i-sets c = search place_known_lem

pub returns-else-i-sets : goal.returns-else-i-sets
returns-else-i-sets c = search place_new_lem
