use Rattle.ring.proofs.Laws.{arrived_free, arrived_full, free_next, free_first}
use Rattle.ring.proofs.arrive.Goals as goal

pub returns-then-used-all : goal.returns-then-used-all
returns-then-used-all c = record { value = search arrived_free; keys_after = search free_next; changes_after = search free_next }

pub returns-else-used-all : goal.returns-else-used-all
returns-else-used-all c = record { value = search arrived_full; keys_after = search free_first; changes_after = search free_first }
