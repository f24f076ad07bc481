use Rattle.std.proofs.lemmas.Option.{IfSome_then}
use native.Mathlib.Omega.{arith}
use Rattle.sets_repeats.proofs.Ways.{repeat_arrived, arrived_numbered}
use Rattle.sets_repeats.proofs.row_repeated.Goals as goal

pub row_known-requires : goal.row_known-requires
row_known-requires c = record { searchable = c.requires; numbered = arrived_numbered c.args.bytes.now c.set_arrival.result c.in-Ok.entry c.set_arrival.ensures.set_taken c.in-Ok.is }

pub returns-in-Ok : goal.returns-in-Ok
returns-in-Ok c = let a = c.args in IfSome_then c.row_known.result c.row_known.ensures (λ i k. repeat_arrived a.sets a.heads.now a.slots.now a.cells.now a.tags.now c.requires a.input a.pid a.bytes.now c.counters_full.result c.set_arrival.result c.in-Ok.entry i (omega (arith, c.shared_slice_known-5-1.given 7)) c.counters_full.ensures c.if-counters_full.false c.set_arrival.ensures.value c.in-Ok.is k)
