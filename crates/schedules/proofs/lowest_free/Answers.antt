use Rattle.schedules.proofs.Taken.{lowest_anywhere}
use Rattle.schedules.proofs.lowest_free.Goals as goal

pub returns : goal.returns
returns c = search lowest_anywhere
