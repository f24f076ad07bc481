use mathlib.Core.Path.{◌≡◌, ap, ◌∙◌}
use native.Mathlib.Omega.{arith}
use lib.ListN.{length, length-append}
use Rattle.std.proofs.Common.{rules}
use Rattle.std.specs.Slice.Iter.{chunks_exact_rest}
use Rattle.crc.proofs.Messages.{group8, group_end, group_bytes, rest_bytes}
use Rattle.crc.proofs.eights.Goals as goal

pub loop-group-init : goal.loop-group-init
loop-group-init c = (search rules, search rules, search rules, λ k. search rules)

pub loop-group-preserved : goal.loop-group-preserved
loop-group-preserved c = let l = c.loop-group in
    let h = c.in-Some.ensures.steps in
    let b = l.invariant.3 in
    let n : length c.in-Some.group.now ≡ 8 = h.1.1 ∙ l.invariant.0 in (
      search rules,
      omega (arith, ap length h.1.0, length-append c.in-Some.group.now (chunks_exact_rest c.next.new.self), n, l.invariant.1),
      group8 l.x c.in-Some.group.now (chunks_exact_rest c.next.new.self) (chunks_exact_rest l.group-iterator) _ _ (group_bytes c.in-Some.group.now (chunks_exact_rest c.next.new.self) (chunks_exact_rest l.group-iterator) h.1.0 b) h.1.0 l.invariant.2 n c.eight_in-x.ensures c.stored.ensures c.stored-in-loop-group.ensures,
      rest_bytes c.in-Some.group.now (chunks_exact_rest c.next.new.self) (chunks_exact_rest l.group-iterator) h.1.0 b,
    )

pub returns : goal.returns
returns c = let l = c.loop-group in
    let h = c.in-None.ensures.steps.1.0 in
    group_end l.x _ (chunks_exact_rest l.group-iterator) 8 l.invariant.1 (omega (arith, h, l.invariant.0)) l.invariant.2
