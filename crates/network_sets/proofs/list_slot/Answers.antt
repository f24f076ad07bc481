use Rattle.network_sets.proofs.Ways.{slot_section, slot_taken, slot_listed, entries_empty}
use borrow.Author.Rules.{rules}
use Rattle.network_sets.proofs.list_slot.Goals as goal

pub list_section-requires : goal.list_section-requires
list_section-requires c = record { section_in = search slot_section; bytes_value = search slot_taken }

pub returns-then-is_filled : goal.returns-then-is_filled
returns-then-is_filled c = (search slot_listed, search rules)

pub returns : goal.returns
returns c = (search entries_empty, search rules)
