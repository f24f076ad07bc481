use native.Mathlib.Omega.{arith}
use Rattle.readers.proofs.Ways.{product_fits}
use Rattle.shown_sections.proofs.Ways.{slot_empty, slot_filled, slot_few, none_few, slot_kept}
use Rattle.shown_sections.proofs.show_slot.Goals as goal

pub overflow_mul-start : goal.overflow_mul-start
overflow_mul-start c = product_fits _ _ (omega (arith, c.cell_number.ensures)) c.requires.number_bound.1

pub show_section-requires : goal.show_section-requires
show_section-requires c = search slot_kept

pub returns-then-is_filled : goal.returns-then-is_filled
returns-then-is_filled c = (search slot_filled, search slot_few)

pub returns : goal.returns
returns c = (search slot_empty, search none_few)
