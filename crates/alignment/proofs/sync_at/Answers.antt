use Rattle.alignment.proofs.Laws.{no_sync, sync_last, sync_again}
use Rattle.alignment.proofs.sync_at.Goals as goal

pub returns-then-window-j-ne-SYNC_BYTE : goal.returns-then-window-j-ne-SYNC_BYTE
returns-then-window-j-ne-SYNC_BYTE c = search no_sync

pub returns-then-window-k : goal.returns-then-window-k
returns-then-window-k c = search sync_last

pub returns : goal.returns
returns c = search sync_again
