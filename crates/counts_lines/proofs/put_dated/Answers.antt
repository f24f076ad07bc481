use Rattle.counts_lines.proofs.Ways.{both}
use Rattle.counts_lines.proofs.put_dated.Goals as goal

pub returns : goal.returns
returns c = let r = both _ _ _ _ _ _ _ c.args.c c.args.hours c.args.minutes c.args.seconds c.date_text-date.ensures c.clock_text-clock.ensures c.put-at.ensures c.put.ensures in record { wrote = r.0; upper_bound = r.1 }
