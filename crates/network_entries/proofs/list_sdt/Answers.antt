use Rattle.network_entries.proofs.Ways.{word_in, sdt_end, services_in, sdt_listed, sdt_few}
use borrow.Author.Rules.{rules}
use Rattle.network_entries.proofs.list_sdt.Goals as goal

pub word-requires : goal.word-requires
word-requires c = search word_in

pub overflow_sub-start : goal.overflow_sub-start
overflow_sub-start c = search sdt_end

pub list_loop-requires : goal.list_loop-requires
list_loop-requires c = record { loop_in = search services_in; k_bound = search rules }

pub returns : goal.returns
returns c = (search sdt_listed, search sdt_few)
