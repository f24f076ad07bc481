use Rattle.gate.proofs.Laws.{admitted_told}
use Rattle.gate.proofs.inner.admit.Goals as goal

pub returns : goal.returns
returns c = let a = c.args in
    let d = c.admit-seen in
    let w = c.follow in
    admitted_told a.gate a.counters a.keys.now a.changes.now a.words.now a.section.now a.arrival
    d.result d.new.keys d.new.changes w.new.words c.tell.result
    d.ensures.value d.ensures.keys_after d.ensures.changes_after w.ensures c.tell.ensures
