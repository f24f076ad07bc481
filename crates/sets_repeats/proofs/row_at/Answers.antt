use Rattle.std.proofs.lemmas.Option.{IfSome_then}
use Rattle.store.specs.Store.{store}
use Rattle.sets_repeats.proofs.Ways.{repeat_at}
use Rattle.sets_repeats.proofs.row_at.Goals as goal

pub returns : goal.returns
returns c = let a = c.args in IfSome_then c.row_repeated.result c.row_repeated.ensures (λ i k. repeat_at (store a.sets a.heads.now a.slots.now a.cells.now) a.list.now a.place i k)
