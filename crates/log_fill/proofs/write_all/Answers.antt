use mathlib.Core.Path.{◌∙◌}
use Rattle.log_list.proofs.Laws.{gave_place, gave_none}
use Rattle.log_sections.proofs.Laws.{step_fits}
use Rattle.log_fill.proofs.Laws.{turn_on, filled_end}
use Rattle.log_fill.proofs.write_all.Goals as goal

pub put-at-requires : goal.put-at-requires
put-at-requires c = record { at_in_bounds = c.loop-place.invariant.5.within; length_in_bounds = step_fits c.take_one-step.ensures }

pub loop-place-preserved : goal.loop-place-preserved
loop-place-preserved c = let i = c.loop-place.invariant in
    let g = gave_place c.loop-place.place-iterator c.next.new.self i.2 c.in-Some.ensures.steps in
    let k = c.take_one-step.auto in (
      c.in-Some.ensures.goes.keeps,
      tt,
      g.2,
      record {
        keys = k.keys ∙ i.3.keys;
        changes = k.changes ∙ i.3.changes;
        heads = k.heads ∙ i.3.heads;
        slots = k.slots ∙ i.3.slots;
        cells = k.cells ∙ i.3.cells;
      },
      c.put-at.auto.room ∙ i.4,
      turn_on g.0 c.take_one-step.ensures i.5 c.put-at.ensures g.1,
    )

pub returns : goal.returns
returns c = let i = c.loop-place.invariant in filled_end (gave_none c.loop-place.place-iterator c.next.new.self i.2 c.in-None.ensures.steps) i.5
