use Rattle.log_state.specs.State.{lent}
use Rattle.log_run.proofs.Laws.{seen_left}
use Rattle.log_run.proofs.admit.Goals as goal

pub returns : goal.returns
returns c = let a = c.args in let w = c.is_with-with in let t = c.origin_for-from in let d = c.admit-seen in let g = c.gather-pushed in let k = c.seen_kind-kind in let n = c.note-entry in seen_left (lent a.run a.keys.now a.changes.now a.heads.now a.slots.now a.cells.now) a.input a.pid a.section.now a.sight w.result t.result d.result d.new.keys d.new.changes g.result g.new.heads g.new.slots g.new.cells k.result n.result c.requires.is_input c.requires.is_pid w.ensures t.ensures d.ensures.value d.ensures.keys_after d.ensures.changes_after g.ensures.cells_after g.ensures.pushed_ok k.ensures n.ensures
