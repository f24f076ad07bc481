use mathlib.Core.Path.{◌∙◌}
use Rattle.std.proofs.lemmas.Result.{err_from_is_err_and}
use Rattle.log_list.proofs.Laws.{gave_place, gave_none}
use Rattle.log_check.proofs.Laws.{step_entry, turn_on, turn_stops, walked_end}
use Rattle.log_check.proofs.walk.Goals as goal

pub beside-requires : goal.beside-requires
beside-requires c = step_entry c.take_one-step.ensures

pub returns-in_err-at : goal.returns-in_err-at
returns-in_err-at c = let i = c.loop-place.invariant in
    let g = gave_place c.loop-place.place-iterator c.next.new.self i.2 c.in-Some.ensures.steps in
    let p = err_from_is_err_and c.from_residual.result c.from_residual.ensures.1 in
    rw (p.1, p.2) (turn_stops c.take_one-step.ensures g.0 i.4 c.beside.ensures c.in_err-at.was)

pub loop-place-preserved : goal.loop-place-preserved
loop-place-preserved c = let i = c.loop-place.invariant in
    let g = gave_place c.loop-place.place-iterator c.next.new.self i.2 c.in-Some.ensures.steps in
    let k = c.take_one-step.auto in (
      c.in-Some.ensures.goes.keeps,
      tt,
      g.2,
      record {
        keys = k.keys ∙ i.3.keys;
        changes = k.changes ∙ i.3.changes;
        heads = k.heads ∙ i.3.heads;
        slots = k.slots ∙ i.3.slots;
        cells = k.cells ∙ i.3.cells;
      },
      turn_on c.take_one-step.ensures g.0 i.4 c.beside.ensures c.in_ok-at.was g.1,
    )

pub returns : goal.returns
returns c = let i = c.loop-place.invariant in walked_end (gave_none c.loop-place.place-iterator c.next.new.self i.2 c.in-None.ensures.steps) i.4 c.finish.ensures
