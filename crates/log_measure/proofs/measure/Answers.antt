use mathlib.Core.Path.{◌∙◌}
use Rattle.log_list.proofs.Laws.{gave_place, gave_none}
use Rattle.log_measure.proofs.Laws.{turn_on, turn_stops, measured_end}
use Rattle.log_measure.proofs.measure.Goals as goal

pub returns-then-free-size : goal.returns-then-free-size
returns-then-free-size c = let i = c.loop-place.invariant in
    let g = gave_place c.loop-place.place-iterator c.next.new.self i.2 c.in-Some.ensures.steps in
    turn_stops g.0 c.take_one-step.ensures i.4 c.if-free-size.true

pub loop-place-preserved : goal.loop-place-preserved
loop-place-preserved c = let i = c.loop-place.invariant in
    let g = gave_place c.loop-place.place-iterator c.next.new.self i.2 c.in-Some.ensures.steps in
    let k = c.take_one-step.auto in (
      c.in-Some.ensures.goes.keeps,
      tt,
      g.2,
      record {
        keys = k.keys ∙ i.3.keys;
        changes = k.changes ∙ i.3.changes;
        heads = k.heads ∙ i.3.heads;
        slots = k.slots ∙ i.3.slots;
        cells = k.cells ∙ i.3.cells;
      },
      turn_on g.0 c.take_one-step.ensures i.4 g.1 c.if-free-size.false,
    )

pub returns : goal.returns
returns c = let i = c.loop-place.invariant in measured_end (gave_none c.loop-place.place-iterator c.next.new.self i.2 c.in-None.ensures.steps) i.4
