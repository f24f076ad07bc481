use native.Mathlib.Omega.{arith}
use mathlib.Core.Path.{ap}
use Rattle.section.specs.declared.ids.Origin.{Origin}
use Rattle.section.proofs.Facts.{origin_one}
use Rattle.watcher.proofs.find.Goals as goal

pub returns : goal.returns
returns c = let h = origin_one _ c.args.place.pid _ c.make.ensures _ c.in_ok-from.was in
    let i = ap (λ (o : Origin). o.input.0) h.0 in
    omega (arith, i, h.2, c.wide.ensures)
