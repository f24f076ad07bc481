use Rattle.crc.proofs.Messages.{byte_more, byte_end}
use Rattle.crc.proofs.rest.Goals as goal

pub loop-v-preserved : goal.loop-v-preserved
loop-v-preserved c = search byte_more

pub returns : goal.returns
returns c = search byte_end
