use Rattle.std.proofs.Common.{arith, rules}
use Rattle.columns.proofs.Ways.{tells_fewer, blocks_start, block_found, block_passed, block_last, blocks_end}
use Rattle.columns.proofs.find.Goals as goal

pub loop-a-init : goal.loop-a-init
loop-a-init c = search blocks_start

pub find_block-i-requires : goal.find_block-i-requires
find_block-i-requires c = record { a_le_e = search rules; tells = tells_fewer c.args.tags.now c.args.heads.now c.args.used c.block_end-e.result (omega arith) c.requires.tells }

pub returns-then-i-e : goal.returns-then-i-e
returns-then-i-e c = search block_found

pub loop-a-preserved : goal.loop-a-preserved
loop-a-preserved c = search block_passed

pub returns : goal.returns
returns c = search blocks_end

pub returns-else-i-e : goal.returns-else-i-e
returns-else-i-e c = search (block_last, arith)
