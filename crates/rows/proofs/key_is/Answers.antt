use Rattle.rows.proofs.Loops.{key_differs, key_is}
use Rattle.rows.proofs.key_is.Goals as goal

pub returns-then-get-key : goal.returns-then-get-key
returns-then-get-key c = search key_differs

pub returns : goal.returns
returns c = search key_is
