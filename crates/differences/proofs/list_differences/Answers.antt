use native.Mathlib.Omega.{arith}
use borrow.Author.Rules.{rules}
use Rattle.differences.proofs.Listing.{listing_starts, rank_low, moves, first_fits, second_fits, listing_turn, listing_count, listing_words}
use Rattle.differences.proofs.list_differences.Goals as goal

pub loop-i-init : goal.loop-i-init
loop-i-init c = (search rules, search listing_starts)

pub put_entry-at-requires : goal.put_entry-at-requires
put_entry-at-requires c = let h = rank_low c.args.first.now c.args.second.now c.args.list.now c.loop-i.i c.loop-i.j c.loop-i.list c.loop-i.at c.loop-i.invariant.1 c.rank_at.result c.rank_at-in-loop-i.result c.shorter-rank.result c.section_at-x.result.now c.section_at-y.result.now c.loop-i-test.true c.rank_at.ensures c.rank_at-in-loop-i.ensures c.shorter-rank.ensures c.section_at-x.ensures.result_value c.section_at-y.ensures.result_value in
    let f = c.loop-i.invariant.1.few in let a = c.loop-i.invariant.1.first.fits in let b = c.loop-i.invariant.1.second.fits in
    (omega (arith, f, a, b, c.well_formed), h)

pub overflow_add-i : goal.overflow_add-i
overflow_add-i c = let h = first_fits c.args.first.now c.args.second.now c.args.list.now c.loop-i.i c.loop-i.j c.loop-i.list c.loop-i.at c.loop-i.invariant.1 c.rank_at.result c.rank_at-in-loop-i.result c.shorter-rank.result c.section_at-x.result.now c.section_at-y.result.now c.loop-i-test.true c.rank_at.ensures c.rank_at-in-loop-i.ensures c.shorter-rank.ensures c.section_at-x.ensures.result_value c.section_at-y.ensures.result_value in omega (arith, h, c.well_formed)

pub overflow_add-j : goal.overflow_add-j
overflow_add-j c = let h = second_fits c.args.first.now c.args.second.now c.args.list.now c.loop-i.i c.loop-i.j c.loop-i.list c.loop-i.at c.loop-i.invariant.1 c.rank_at.result c.rank_at-in-loop-i.result c.shorter-rank.result c.section_at-x.result.now c.section_at-y.result.now c.loop-i-test.true c.rank_at.ensures c.rank_at-in-loop-i.ensures c.shorter-rank.ensures c.section_at-x.ensures.result_value c.section_at-y.ensures.result_value in omega (arith, h, c.well_formed)

pub loop-i-smaller : goal.loop-i-smaller
loop-i-smaller c = let h = first_fits c.args.first.now c.args.second.now c.args.list.now c.loop-i.i c.loop-i.j c.loop-i.list c.loop-i.at c.loop-i.invariant.1 c.rank_at.result c.rank_at-in-loop-i.result c.shorter-rank.result c.section_at-x.result.now c.section_at-y.result.now c.loop-i-test.true c.rank_at.ensures c.rank_at-in-loop-i.ensures c.shorter-rank.ensures c.section_at-x.ensures.result_value c.section_at-y.ensures.result_value in let g = second_fits c.args.first.now c.args.second.now c.args.list.now c.loop-i.i c.loop-i.j c.loop-i.list c.loop-i.at c.loop-i.invariant.1 c.rank_at.result c.rank_at-in-loop-i.result c.shorter-rank.result c.section_at-x.result.now c.section_at-y.result.now c.loop-i-test.true c.rank_at.ensures c.rank_at-in-loop-i.ensures c.shorter-rank.ensures c.section_at-x.ensures.result_value c.section_at-y.ensures.result_value in let m = moves c.args.first.now c.args.second.now c.args.list.now c.loop-i.i c.loop-i.j c.loop-i.list c.loop-i.at c.loop-i.invariant.1 c.rank_at.result c.rank_at-in-loop-i.result c.shorter-rank.result c.section_at-x.result.now c.section_at-y.result.now c.loop-i-test.true c.rank_at.ensures c.rank_at-in-loop-i.ensures c.shorter-rank.ensures c.section_at-x.ensures.result_value c.section_at-y.ensures.result_value in omega (arith, h, g, m)

pub loop-i-preserved : goal.loop-i-preserved
loop-i-preserved c = (search rules, listing_turn c.args.first.now c.args.second.now c.args.list.now c.loop-i.i c.loop-i.j c.loop-i.list c.loop-i.at c.loop-i.invariant.1 c.rank_at.result c.rank_at-in-loop-i.result c.shorter-rank.result c.section_at-x.result.now c.section_at-y.result.now c.loop-i-test.true c.rank_at.ensures c.rank_at-in-loop-i.ensures c.shorter-rank.ensures c.section_at-x.ensures.result_value c.section_at-y.ensures.result_value c.compare_sections.result c.put_entry-at.result c.put_entry-at.new.list c.compare_sections.ensures c.put_entry-at.ensures.value.0 c.put_entry-at.ensures.value.1 c.put_entry-at.ensures.list_after)

pub returns : goal.returns
returns c = record { value = listing_count c.args.first.now c.args.second.now c.args.list.now c.loop-i.i c.loop-i.j c.loop-i.list c.loop-i.at c.loop-i.invariant.1 c.loop-i-test.false; list_after = listing_words c.args.first.now c.args.second.now c.args.list.now c.loop-i.i c.loop-i.j c.loop-i.list c.loop-i.at c.loop-i.invariant.1 c.loop-i-test.false }
