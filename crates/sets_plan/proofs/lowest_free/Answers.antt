use Rattle.rows.proofs.Taken.{lowest_free_lem}
use Rattle.sets_plan.proofs.lowest_free.Goals as goal

pub returns : goal.returns
returns c = search lowest_free_lem
