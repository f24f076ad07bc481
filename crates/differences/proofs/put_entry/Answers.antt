use Rattle.differences.proofs.Listing.{count_none, words_none, count_some, words_some}
use borrow.Author.Rules.{rules}
use Rattle.differences.proofs.put_entry.Goals as goal

pub returns-then-d-eq0 : goal.returns-then-d-eq0
returns-then-d-eq0 c = record { value = (search count_none, search rules); list_after = search words_none }

pub returns : goal.returns
returns c = record { value = (search count_some, search rules); list_after = words_some c.args.list.now c.put.new.list c.put-2.new.list c.put-3.new.list c.put-4.new.list c.args.rank c.args.at c.args.d c.if-d-eq0.false c.put.ensures c.put-2.ensures c.put-3.ensures c.put-4.ensures }
