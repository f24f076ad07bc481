use Rattle.ring_index.proofs.Laws.{seen_found, keys_found, changes_found, index_found, seen_arrived, keys_arrived, changes_arrived, index_arrived}
use Rattle.ring_index.proofs.admit.Goals as goal

pub returns-then-i-used : goal.returns-then-i-used
returns-then-i-used c = record { value = search seen_found; keys_after = search keys_found; changes_after = search changes_found; links_after = search index_found }

pub returns : goal.returns
returns c = record { value = search seen_arrived; keys_after = search keys_arrived; changes_after = search changes_arrived; links_after = search index_arrived }
