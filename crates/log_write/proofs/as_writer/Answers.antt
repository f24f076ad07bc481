use Rattle.log_write.proofs.Laws.{writer_with, writer_else}
use Rattle.log_write.proofs.as_writer.Goals as goal

pub returns-then-is_with : goal.returns-then-is_with
returns-then-is_with c = search writer_with

pub returns : goal.returns
returns c = search writer_else
