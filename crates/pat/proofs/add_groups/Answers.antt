use mathlib.Core.Path.{◌∙◌}
use native.Mathlib.Omega.{arith}
use Rattle.std.proofs.Common.{rules}
use Rattle.std.specs.Slice.Iter.{chunks_exact_rest}
use Rattle.pat.proofs.Laws.{turn_group, turn_end}
use Rattle.pat.proofs.add_groups.Goals as goal

pub loop-group-init : goal.loop-group-init
loop-group-init c = (search rules, search rules)

pub loop-group-preserved : goal.loop-group-preserved
loop-group-preserved c = let l = c.loop-group in
    let h = c.in-Some.ensures.steps in (
      search rules,
      turn_group c.in-Some.group.now (chunks_exact_rest l.group-iterator) (chunks_exact_rest c.next.new.self) l.n c.add_group.new.n _ h.1.0 (h.1.1 ∙ l.invariant.0) c.add_group.ensures l.invariant.1,
    )

pub returns : goal.returns
returns c = let l = c.loop-group in
    let h = c.in-None.ensures.steps.1.0 in
    turn_end (chunks_exact_rest l.group-iterator) l.n _ (omega (arith, h, l.invariant.0)) l.invariant.1
