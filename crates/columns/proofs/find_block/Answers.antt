use native.Mathlib.Omega.{arith}
use Rattle.columns.proofs.Ways.{block_none}
use Rattle.columns.proofs.find_block.Goals as goal

pub returns : goal.returns
returns c = let a = c.args in block_none a.tags.now a.heads.now a.key a.t a.a a.e c.any_tag.result (omega arith) (omega arith) c.requires.tells c.requires.a_le_e.3 c.any_tag.ensures c.if-any_tag.false
