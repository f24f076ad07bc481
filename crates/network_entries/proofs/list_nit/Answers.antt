use Rattle.network_entries.proofs.Ways.{count_there, count_small, nit_end, first_in_lem, second_in, then_few, nit_listed, nit_few}
use borrow.Author.Rules.{rules}
use Rattle.network_entries.proofs.list_nit.Goals as goal

pub count_at-n-requires : goal.count_at-n-requires
count_at-n-requires c = (search count_there, search count_small)

pub list_loop-then-requires : goal.list_loop-then-requires
list_loop-then-requires c = record { loop_in = search first_in_lem; k_bound = search rules }

pub overflow_sub-start : goal.overflow_sub-start
overflow_sub-start c = search nit_end

pub list_loop-requires : goal.list_loop-requires
list_loop-requires c = record { loop_in = search second_in; k_bound = search (rules, then_few) }

pub returns : goal.returns
returns c = (search nit_listed, search nit_few)
