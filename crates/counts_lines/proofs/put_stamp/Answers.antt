use Rattle.counts_lines.proofs.Ways.{dated, undated}
use Rattle.counts_lines.proofs.put_stamp.Goals as goal

pub returns-in-Some : goal.returns-in-Some
returns-in-Some c = record { wrote = search dated; upper_bound = c.put_dated.ensures.upper_bound }

pub returns-in-None : goal.returns-in-None
returns-in-None c = record { wrote = search undated; upper_bound = c.put_undated.ensures.upper_bound }
