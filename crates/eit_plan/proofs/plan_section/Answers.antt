use Rattle.eit_state.proofs.Whole.{is_whole_room}
use Rattle.eit_plan.proofs.Plans.{plan_long, plan_silent, plan_placed_lem, whole_sets, sets_count, few_cells}
use native.Mathlib.Omega.{arith}
use borrow.Author.Rules.{rules}
use Rattle.eit_plan.proofs.plan_section.Goals as goal

pub returns-then-sets-bytes : goal.returns-then-sets-bytes
returns-then-sets-bytes c = search plan_long

pub returns-then-sets-eq0 : goal.returns-then-sets-eq0
returns-then-sets-eq0 c = search plan_silent

pub place_section-place-requires : goal.place_section-place-requires
place_section-place-requires c = record { whole = search whole_sets; numbered = search rules; limit_nonzero = (omega arith, search rules) }

pub free_cell-cell-requires : goal.free_cell-cell-requires
free_cell-cell-requires c = record { rows_fit = search is_whole_room; count_bound = search few_cells }

pub returns : goal.returns
returns c = search plan_placed_lem
