-- `pat::programs` meets its contract: one law for each way out. Assumes nothing.
use native.Mathlib.Omega.{arith}
use Rattle.pat.proofs.Laws.{programs_no, programs_yes, readable_long}
use mathlib.Core.Path.{ap}
use mathlib.Core.Bool.{not}
use Rattle.pat.proofs.programs.Goals as goal

pub returns-then-not-is_readable : goal.returns-then-not-is_readable
returns-then-not-is_readable c = let r = programs_no c.args.s.now c.args.n.now c.is_readable.result c.is_readable.ensures (ap not c.if-not-is_readable.true) in record { value = r.0; n_after = r.1 }

pub overflow_sub-crc : goal.overflow_sub-crc
overflow_sub-crc c = omega (arith, readable_long c.args.s.now c.is_readable.result c.is_readable.ensures (ap not c.if-not-is_readable.false))

pub slice_bounds-add_groups-count : goal.slice_bounds-add_groups-count
slice_bounds-add_groups-count c = omega (arith, readable_long c.args.s.now c.is_readable.result c.is_readable.ensures (ap not c.if-not-is_readable.false))

pub slice_bounds-add_groups-start : goal.slice_bounds-add_groups-start
slice_bounds-add_groups-start c = omega (arith, readable_long c.args.s.now c.is_readable.result c.is_readable.ensures (ap not c.if-not-is_readable.false))

pub returns : goal.returns
returns c = let r = programs_yes c.args.s.now c.args.n.now c.is_readable.result c.is_readable.ensures _ (ap not c.if-not-is_readable.false) c.add_groups.ensures in record { value = r.0; n_after = r.1 }
