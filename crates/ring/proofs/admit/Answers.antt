use Rattle.ring.proofs.Laws.{seen_known, keys_known, changes_known, seen_new, keys_new, changes_new}
use Rattle.ring.proofs.admit.Goals as goal

pub returns-then-i-used : goal.returns-then-i-used
returns-then-i-used c = record { value = search seen_known; keys_after = search keys_known; changes_after = search changes_known }

pub returns-else-i-used : goal.returns-else-i-used
returns-else-i-used c = record { value = search seen_new; keys_after = search keys_new; changes_after = search changes_new }
