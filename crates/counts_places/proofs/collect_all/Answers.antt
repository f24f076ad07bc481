use mathlib.Core.Path.{◌≡◌, refl, ◌∙◌}
use Prim.Native.Nat.{◌-◌, ◌≤◌}
use native.Mathlib.Omega.{arith}
use Rattle.counts_places.proofs.Ways.{turn, start, all}
use Rattle.counts_places.proofs.collect_all.Goals as goal

pub loop-k-init : goal.loop-k-init
loop-k-init c = (omega arith, refl, refl, refl, refl, refl, refl, refl, refl, start c.args.places.now c.args.packet.now c.args.buffers.now c.args.pid c.args.count _)

pub collect_at-held-requires : goal.collect_at-held-requires
collect_at-held-requires c = omega arith

pub loop-k-preserved : goal.loop-k-preserved
loop-k-preserved c = let a = c.args in
    let l = c.loop-k in
    let i = c.loop-k.invariant in
    let t = c.collect_at-held in
    let y = c.collect_at-held.auto.heads in
    (omega (arith, c.loop-k-test.true), c.collect_at-held.auto.heads ∙ i.1, c.collect_at-held.auto.slots ∙ i.2, c.collect_at-held.auto.cells ∙ i.3, c.collect_at-held.auto.eit_heads ∙ i.4, c.collect_at-held.auto.eit_slots ∙ i.5, c.collect_at-held.auto.eit_cells ∙ i.6, c.collect_at-held.auto.schedule_heads ∙ i.7, c.collect_at-held.auto.units ∙ i.8, turn a.places.now a.packet.now a.buffers.now a.pid a.count l.k _ _ _ c.loop-k-test.true i.9 t.ensures)

pub returns : goal.returns
returns c = let a = c.args in
    let l = c.loop-k in
    all a.places.now a.packet.now a.buffers.now a.pid a.count l.k _ _ c.loop-k-test.false l.invariant.9
