use Rattle.std.proofs.lemmas.Option.{IfSome_then}
use native.Mathlib.Omega.{arith}
use Rattle.eit_ready.proofs.Ways.{arrived_numbered}
use Rattle.eit_repeats.proofs.Ways.{repeat_arrived}
use Rattle.eit_repeats.proofs.row_repeated.Goals as goal

pub row_known-requires : goal.row_known-requires
row_known-requires c = let a = c.args in record { searchable = c.requires; numbered = arrived_numbered a.bytes.now c.eit_arrival.result c.eit_arrival.ensures.eit_taken c.in-Ok.a c.in-Ok.is }

pub returns-in-Ok : goal.returns-in-Ok
returns-in-Ok c = let a = c.args in IfSome_then c.row_known.result c.row_known.ensures (λ i k. repeat_arrived a.eit a.heads.now a.slots.now a.cells.now a.input a.pid a.bytes.now c.counters_full.result c.eit_arrival.result c.in-Ok.a i c.counters_full.ensures c.if-counters_full.false c.eit_arrival.ensures.value c.in-Ok.is (omega (arith, c.shared_slice_known-5-1.given 7)) k)
