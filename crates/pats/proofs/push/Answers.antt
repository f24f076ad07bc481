use Rattle.pats.proofs.Store.{push_may, write_fits, push_all}
use Rattle.pats.proofs.push.Goals as goal

pub push_whole-pushed-requires : goal.push_whole-pushed-requires
push_whole-pushed-requires c = let a = c.args in push_may a.words.now a.slots.now a.cells.now a.section.now a.e c.pat_sets-sets.result c.requires.pats_ready c.requires.arrives c.pat_sets-sets.ensures

pub bounds-words-385 : goal.bounds-words-385
bounds-words-385 c = write_fits c.args.words.now c.push_whole-pushed.new.heads c.push_whole-pushed.result.sets.used c.requires.pats_ready.words c.push_whole-pushed.auto.heads

pub returns : goal.returns
returns c = let r = let a = c.args in
    let o = c.requires in
    let p = c.push_whole-pushed in
    push_all a.words.now a.slots.now a.cells.now a.section.now a.e o.pats_ready o.arrives c.pat_sets-sets.result p.result p.new.heads p.new.slots p.new.cells c.pat_sets-sets.ensures p.auto.heads p.ensures in record { cells_after = r.0; pushed = r.1 }
