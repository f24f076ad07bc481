use Rattle.placing.proofs.Fits.{place_fits, slot_fits}
use native.Mathlib.Omega.{arith}
use Rattle.store.proofs.Whole.{product_fits}
use Rattle.placing.proofs.Laws.{slot_empty, slot_same, slot_other}
use Rattle.placing.proofs.place_slot.Goals as goal

pub overflow_mul-at : goal.overflow_mul-at
overflow_mul-at c = product_fits _ _ (omega (arith, c.cell_number.ensures)) c.requires.whole.size_high

pub returns-then-n-eq0 : goal.returns-then-n-eq0
returns-then-n-eq0 c = search slot_empty

pub overflow_add-at : goal.overflow_add-at
overflow_add-at c = search place_fits

pub slice_bounds-same_bytes-end : goal.slice_bounds-same_bytes-end
slice_bounds-same_bytes-end c = search slot_fits

pub returns-then-same_bytes : goal.returns-then-same_bytes
returns-then-same_bytes c = search slot_same

pub returns-else-same_bytes : goal.returns-else-same_bytes
returns-else-same_bytes c = search slot_other
