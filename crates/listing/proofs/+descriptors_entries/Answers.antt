-- `listing::entries` and `listing::descriptors` meet their contracts: each way out is a law of `Ways`. Assumes nothing.
use mathlib.Core.Path.{◌≡◌, sym, ◌∙◌}
use native.Mathlib.Omega.{arith}
use Rattle.listing.proofs.Ways.{entries_end, entries_short, entries_past, entries_more, descriptors_one, descriptors_past, descriptors_more}
use Rattle.listing.proofs.+descriptors_entries.Goals as goal

pub descriptors-returns-then-left-lt2 : goal.descriptors-returns-then-left-lt2
descriptors-returns-then-left-lt2 t c = let a = c.args in
    let e : a.left ≡ 1 = omega arith in
    rw e (sym (descriptors_one a.of a.s.now a.at a.list.now a.k (omega arith)))

pub descriptors-returns-then-left-size : goal.descriptors-returns-then-left-size
descriptors-returns-then-left-size t c = let a = c.args in
    sym (descriptors_past a.of a.s.now a.at a.list.now a.k a.left _ c.wide-size.ensures.0 c.if-left-lt2.false (omega arith) (omega arith))

pub descriptors-returns : goal.descriptors-returns
descriptors-returns t c = let a = c.args in
    c.descriptors.ensures
    ∙ rw c.put_descriptor.ensures (sym (descriptors_more a.of a.s.now a.at a.list.now a.k a.left _ c.wide-size.ensures.0 c.if-left-lt2.false (omega arith) (omega arith)))

pub entries-returns-then-s-at : goal.entries-returns-then-s-at
entries-returns-then-s-at t c = let a = c.args in sym (entries_end a.of a.s.now a.at a.list.now a.k c.if-s-at.true)

pub entries-returns-then-s-at-2 : goal.entries-returns-then-s-at-2
entries-returns-then-s-at-2 t c = let a = c.args in sym (entries_short a.of a.s.now a.at a.list.now a.k c.if-s-at.false c.if-s-at-2.true)

pub entries-returns-then-s-at-3 : goal.entries-returns-then-s-at-3
entries-returns-then-s-at-3 t c = let a = c.args in
    sym (entries_past a.of a.s.now a.at a.list.now a.k c.if-s-at.false c.if-s-at-2.false (omega arith))

pub entries-returns : goal.entries-returns
entries-returns t c = let a = c.args in
    c.descriptors.ensures
    ∙ rw (c.count_at-size.ensures.0, c.put_entry.ensures)
    (sym (entries_more a.of a.s.now a.at a.list.now a.k (omega (arith, c.requires.header)) c.if-s-at-2.false (omega arith)))
