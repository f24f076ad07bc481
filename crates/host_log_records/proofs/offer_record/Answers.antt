use Rattle.host_log_records.proofs.Laws.{offer_room, offer_noted_ever, offer_made_lem, offer_overlong, offer_unknown}
use borrow.Author.Rules.{rules}
use Rattle.host_log_records.proofs.offer_record.Goals as goal

pub returns-then-section-gt-LONGEST : goal.returns-then-section-gt-LONGEST
returns-then-section-gt-LONGEST c = search offer_overlong

pub write_entry-requires : goal.write_entry-requires
write_entry-requires c = search (rules, offer_room)

pub returns-in-Ok : goal.returns-in-Ok
returns-in-Ok c = search offer_made_lem

pub returns-in-Err : goal.returns-in-Err
returns-in-Err c = absurd (offer_noted_ever _ _ _ _ _ c.offer_record.ensures c.if-section-gt-LONGEST.false c.in-Err.is)

pub returns : goal.returns
returns c = search offer_unknown
