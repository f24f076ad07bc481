use mathlib.Core.Path.{◌∙◌}
use Rattle.guides.proofs.Ways.{schedule_some, tables_told, tables_out_lem, tables_list}
use Rattle.guides.proofs.Ranges.{schedule_ranked, schedule_tabled, schedule_entries_lem}
use borrow.Author.Rules.{rules}
use Rattle.guides.proofs.inner.compare_tables.Goals as goal

pub bounds-first-0 : goal.bounds-first-0
bounds-first-0 c = search schedule_some

pub table_words-words-requires : goal.table_words-words-requires
table_words-words-requires c = record { base_bound = search rules; tabled = schedule_tabled c.args.first.now (λ i. (c.shared_slice_known-1.given i).fits) c.requires.first c.kind_first.result c.kind_first.ensures.0; tabled_2 = schedule_tabled c.args.second.now (λ i. (c.shared_slice_known-2-1.given i).fits) c.requires.second c.kind_first.result (c.kind_first.ensures.0 ∙ c.requires.kind) }

pub list_within-compared-requires : goal.list_within-compared-requires
list_within-compared-requires c = record { ranked = schedule_ranked c.args.first.now (λ i. (c.shared_slice_known-1.given i).fits) c.requires.first; ranked_2 = schedule_ranked c.args.second.now (λ i. (c.shared_slice_known-2-1.given i).fits) c.requires.second }

pub returns : goal.returns
returns c = let e = schedule_entries_lem c.args.first.now c.args.second.now c.requires (λ i. (c.shared_slice_known-1.given i).fits) (λ i. (c.shared_slice_known-2-1.given i).fits) in
    record { value = tables_told c.args.first.now c.args.second.now c.args.list.now c.kind_first.result c.table_words-words.result c.agree.result c.agree-2.result c.list_within-compared.result e c.kind_first.ensures.0 c.table_words-words.ensures c.agree.ensures c.agree-2.ensures c.list_within-compared.ensures.value; tables_after = tables_out_lem c.args.first.now c.args.second.now c.args.list.now c.kind_first.result c.table_words-words.result c.agree.result c.agree-2.result c.list_within-compared.result e c.kind_first.ensures.0 c.table_words-words.ensures c.agree.ensures c.agree-2.ensures c.list_within-compared.ensures.value c.list_within-compared.new.list c.args.tables.now c.write_tables.new.tables c.list_within-compared.auto.list c.write_tables.ensures; list_after = tables_list c.args.first.now c.args.second.now c.args.list.now c.kind_first.result c.table_words-words.result c.agree.result c.agree-2.result c.list_within-compared.result e c.kind_first.ensures.0 c.table_words-words.ensures c.agree.ensures c.agree-2.ensures c.list_within-compared.ensures.value c.list_within-compared.new.list c.list_within-compared.ensures.list_after }
