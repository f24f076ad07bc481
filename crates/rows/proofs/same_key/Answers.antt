use Rattle.rows.proofs.Loops.{keys_equal}
use Rattle.rows.proofs.same_key.Goals as goal

pub returns : goal.returns
returns c = keys_equal c.args.a c.args.b _ c.eq.ensures
