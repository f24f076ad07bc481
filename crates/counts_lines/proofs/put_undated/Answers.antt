use Rattle.counts_lines.proofs.Ways.{clock_alone}
use Rattle.counts_lines.proofs.put_undated.Goals as goal

pub returns : goal.returns
returns c = let r = clock_alone _ _ _ _ c.args.hours c.args.minutes c.args.seconds c.clock_text-clock.ensures c.put.ensures in record { wrote = r.0; upper_bound = r.1 }
