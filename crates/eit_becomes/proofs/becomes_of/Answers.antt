use Rattle.eit_becomes.proofs.Ways.{becomes_marked, becomes_part, becomes_out, becomes_range, becomes_enters}
use Rattle.eit_becomes.proofs.becomes_of.Goals as goal

pub returns-then-mark-ne0 : goal.returns-then-mark-ne0
returns-then-mark-ne0 c = search becomes_marked

pub returns-then-a-lt2 : goal.returns-then-a-lt2
returns-then-a-lt2 c = search becomes_out

pub returns-then-a-own_table : goal.returns-then-a-own_table
returns-then-a-own_table c = search becomes_range

pub returns-then-set_complete : goal.returns-then-set_complete
returns-then-set_complete c = search becomes_enters

pub returns : goal.returns
returns c = search becomes_part
