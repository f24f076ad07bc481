use Rattle.shown_sections.proofs.Ways.{section_refused, section_good, section_long}
use borrow.Author.Rules.{rules}
use Rattle.shown_sections.proofs.show_section.Goals as goal

pub show_events-requires : goal.show_events-requires
show_events-requires c = search (rules, section_long)

pub returns-in-Err : goal.returns-in-Err
returns-in-Err c = search section_refused

pub returns-in-Ok : goal.returns-in-Ok
returns-in-Ok c = search section_good
