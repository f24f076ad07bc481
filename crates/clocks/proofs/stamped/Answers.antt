use mathlib.Core.Path.{◌∙◌}
use Rattle.clocks.proofs.Ways.{no_date, no_time, is_time}
use Rattle.clocks.proofs.stamped.Goals as goal

pub returns-in_err-date_of : goal.returns-in_err-date_of
returns-in_err-date_of c = c.from_residual.ensures ∙ no_date c.args.day c.args.hours c.args.minutes c.args.seconds _ c.date_of.ensures c.in_err-date_of.was

pub returns-in_err-time_of : goal.returns-in_err-time_of
returns-in_err-time_of c =
    c.from_residual-in_err-time_of.ensures ∙ no_time c.args.day c.args.hours c.args.minutes c.args.seconds _ c.date_of.ensures _ c.in_ok-date_of.was _ c.time_of.ensures c.in_err-time_of.was

pub returns : goal.returns
returns c = is_time c.args.day c.args.hours c.args.minutes c.args.seconds _ c.date_of.ensures _ c.in_ok-date_of.was _ c.time_of.ensures _ c.in_ok-time_of.was
