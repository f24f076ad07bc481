use Rattle.log_makers.proofs.Laws.{long_enough, set_none, set_no_pid, set_pid, set_bad_pid}
use Rattle.log_makers.proofs.set_record.Goals as goal

pub returns-then-input-section : goal.returns-then-input-section
returns-then-input-section c = search set_none

pub header_of-requires : goal.header_of-requires
header_of-requires c = search long_enough

pub returns-in-None : goal.returns-in-None
returns-in-None c = search set_no_pid

pub returns-then-v-lt8192 : goal.returns-then-v-lt8192
returns-then-v-lt8192 c = search set_pid

pub returns-else-v-lt8192 : goal.returns-else-v-lt8192
returns-else-v-lt8192 c = search set_bad_pid
