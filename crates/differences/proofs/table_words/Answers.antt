use mathlib.Core.Path.{◌∙◌, refl}
use lib.ListN.{replicate}
use borrow.Author.Rules.{rules}
use Rattle.differences.proofs.Tabling.{side_starts, side_leads, side_turn, tabling_starts, tabling_turn, tabling_ends}
use Rattle.differences.proofs.table_words.Goals as goal

pub loop-t-init : goal.loop-t-init
loop-t-init c = (search rules, refl, tabling_starts c.args.base c.args.first.now c.args.second.now (replicate 16 0), search side_starts, search side_starts)

pub loop-t-preserved : goal.loop-t-preserved
loop-t-preserved c = (
  search rules,
  search rules,
  tabling_turn c.args.base c.args.first.now c.args.second.now (replicate 16 0) c.loop-t.words c.loop-t.t c.table_word.result c.table_at.result.now c.table_at-in-loop-t.result.now c.loop-t.invariant.2 c.loop-t-test.true
      (c.table_at.ensures.result_value ∙ side_leads c.args.base c.args.first.now c.loop-t.i c.loop-t.t c.loop-t.invariant.3)
      (c.table_at-in-loop-t.ensures.result_value ∙ side_leads c.args.base c.args.second.now c.loop-t.j c.loop-t.t c.loop-t.invariant.4)
      c.table_word.ensures,
  side_turn c.args.base c.args.first.now c.loop-t.i c.loop-t.t c.loop-t.invariant.3 c.pass-i.result c.pass-i.ensures,
  side_turn c.args.base c.args.second.now c.loop-t.j c.loop-t.t c.loop-t.invariant.4 c.pass-j.result c.pass-j.ensures,
)

pub returns : goal.returns
returns c = tabling_ends c.args.base c.args.first.now c.args.second.now (replicate 16 0) c.loop-t.words c.loop-t.t c.loop-t.invariant.2 refl c.loop-t-test.false c.loop-t.invariant.0
