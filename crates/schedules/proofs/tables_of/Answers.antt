use Rattle.schedules.proofs.Laws.{tables_counted}
use Rattle.schedules.proofs.tables_of.Goals as goal

pub returns : goal.returns
returns c = let a = c.args in
    tables_counted a.heads.now a.k _ _ _ c.kind_at.ensures c.last.ensures c.table_count.ensures
