-- `text::put_hex4` meets its contract: two digits after two. Assumes nothing.
use Rattle.text.proofs.Laws.{wrote_then}
use Rattle.text.proofs.put_hex4.Goals as goal

pub returns : goal.returns
returns c = wrote_then c.put_hex2-low.ensures c.put_hex2.ensures
