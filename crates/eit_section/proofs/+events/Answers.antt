-- `eit_section::events` meets its contract. Assumes nothing.
use mathlib.Core.Path.{◌∙◌, sym}
use native.Mathlib.Omega.{arith}
use lib.ListN.{length}
use Rattle.laws.proofs.Entries.{entries_empty, entries_short, entries_past, entries_more}
use Rattle.laws.proofs.Lists.{rest_part, rest_length}
use Rattle.eit_section.proofs.+events.Goals as goal

pub returns-then-s-eq0 : goal.returns-then-s-eq0
returns-then-s-eq0 t c = sym (entries_empty 12 (omega arith) _ c.if-s-eq0.true)

pub returns-then-s-lt12 : goal.returns-then-s-lt12
returns-then-s-lt12 t c = sym (entries_short 12 (omega arith) _ c.if-s-eq0.false c.if-s-lt12.true)

pub returns-then-s-n : goal.returns-then-s-n
returns-then-s-n t c = sym (entries_past 12 (omega arith) _ c.if-s-lt12.false (omega arith))

pub returns : goal.returns
returns t c = let s = c.args.s.now in
    c.events.ensures ∙ rw (rest_part, c.event_size-n.ensures) (sym (entries_more 12 (omega arith) s c.if-s-lt12.false (omega arith)))
