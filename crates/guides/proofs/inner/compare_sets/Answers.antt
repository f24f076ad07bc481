use native.Mathlib.Omega.{arith}
use Rattle.guides.proofs.Ways.{alike_first, alike_second}
use Rattle.guides.proofs.Ranges.{set_ranked, set_entries_lem}
use Rattle.guides.proofs.inner.compare_sets.Goals as goal

pub bounds-first-5 : goal.bounds-first-5
bounds-first-5 c = let h = alike_first c.args.first.now c.args.second.now c.requires in omega (arith, h)

pub bounds-second-5 : goal.bounds-second-5
bounds-second-5 c = let h = alike_second c.args.first.now c.args.second.now c.requires in omega (arith, h)

pub bounds-first-7 : goal.bounds-first-7
bounds-first-7 c = let h = alike_first c.args.first.now c.args.second.now c.requires in omega (arith, h)

pub bounds-second-7 : goal.bounds-second-7
bounds-second-7 c = let h = alike_second c.args.first.now c.args.second.now c.requires in omega (arith, h)

pub list_within-requires : goal.list_within-requires
list_within-requires c = record { ranked = set_ranked c.args.first.now c.requires.first; ranked_2 = set_ranked c.args.second.now c.requires.second }

pub returns : goal.returns
returns c = let e = set_entries_lem c.args.first.now c.args.second.now c.requires (λ i. (c.shared_slice_known-1.given i).fits) (λ i. (c.shared_slice_known-2-1.given i).fits) in
    record { value = rw e at c.list_within.ensures.value; list_after = rw e at c.list_within.ensures.list_after }
