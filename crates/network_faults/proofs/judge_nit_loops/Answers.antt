use Rattle.network_faults.proofs.Ways.{loops_first, loops_second, loops_streams}
use borrow.Author.Rules.{rules}
use Rattle.network_faults.proofs.judge_nit_loops.Goals as goal

pub returns-in_err-judge_loop : goal.returns-in_err-judge_loop
returns-in_err-judge_loop c = search (rules, loops_first)

pub returns-then-second-count_at : goal.returns-then-second-count_at
returns-then-second-count_at c = loops_second c.args.s.now c.args.n c.judge_loop.result c.judge_loop.ensures c.in_ok-judge_loop.field-0 c.in_ok-judge_loop.was c.count_at.result c.count_at.ensures.0 c.if-second-count_at.true

pub returns : goal.returns
returns c = loops_streams c.args.s.now c.args.n c.judge_loop.result c.judge_loop.ensures c.in_ok-judge_loop.field-0 c.in_ok-judge_loop.was c.count_at.result c.count_at.ensures.0 c.if-second-count_at.false _ c.judge_loop-2.ensures
