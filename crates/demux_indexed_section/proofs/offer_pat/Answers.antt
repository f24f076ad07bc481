use native.Mathlib.Omega.{arith}
use Rattle.demux_turns.proofs.Laws.{copied_long, pat_back}
use Rattle.demux_indexed_section.proofs.offer_pat.Goals as goal

pub give_back-requires : goal.give_back-requires
give_back-requires c = let a = c.args in
    let s = c.copy_set in
    let t = c.take-offered in
    let n = copied_long a.words.now s.new.set t.new.words a.pids.now s.ensures c.requires.words in
    let m = c.take-offered.auto.words in
    record { long = c.requires.long; first = omega (arith, n, m, c.requires.words); second = omega (arith, n, m, c.requires.words) }

pub returns : goal.returns
returns c = let a = c.args in
    let s = c.copy_set in
    let t = c.take-offered in
    let b = c.give_back in
    record { pat_cells_after = t.ensures; pids_after = pat_back a.words.now s.new.set t.new.words a.pids.now s.ensures b.new.pids b.ensures }
