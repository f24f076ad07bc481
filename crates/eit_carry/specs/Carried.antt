-- What a plan does to a store (docs/RULES.md, "Collectors"): for every content of the lent memory.
use Rattle.std.specs.Prelude.{ℕ, ◌+◌, ◌*◌, List, length}
use Rattle.std.proofs.Math.Seq.{paste}
use Rattle.cells.specs.Cells.{slot_word}
use Rattle.rows.specs.Rows.{touched, kept_heads}
use Rattle.rows.specs.declared.Entry.{Entry}
use Rattle.arrivals.specs.declared.Arrival.{Arrival}
use Rattle.segments.specs.Segments.{kept_section}
use Rattle.eit_state.specs.declared.PushAnswer.{PushAnswer}
use Rattle.eit_state.specs.declared.Pushed.{Pushed}
use Rattle.eit_state.specs.State.{Store, store, Rows, rows, store_with, rows_of, with_sets, risen_eit, risen_rows}
use Rattle.eit_plan.specs.declared.Keeping.{Keeping}
use Rattle.eit_plan.specs.declared.Plan.{Plan}
use Rattle.eit_plan.specs.declared.Plan.TheVariants as plan
use Rattle.eit_plan.specs.Plan.{plan_of}
use Rattle.eit_enter.specs.Entering.{Settled}
use Rattle.eit_settle.specs.Settle.{conflicting, settled}

-- an answer, and the store as it is then
pub record Step : Type 0 where
  pub answer : PushAnswer
  pub store : Store

abbrev pub step : Pushed → (heads slots cells schedule_heads units : List ℕ) → Step
step r heads slots cells schedule_heads units = record { answer = r.answer; store = store r.eit heads slots cells schedule_heads units }

abbrev pub stepped : Settled → (cells : List ℕ) → Step
stepped x cells = record { answer = x.answer; store = store_with x.rows cells }

-- the section's bytes are in its cell, its slot names them, its segment has its number, and its row has no mark; then the row is settled
unfoldable pub kept_and_settled : Store → (bytes : List ℕ) → Keeping → Step
kept_and_settled s bytes k =
    let e : Entry = k.arrival.entry in
    let slots : List ℕ = kept_section k.room e k.arrival.segment (slot_word (length bytes) k.cell) s.slots in
    let r : Rows = rows (risen_eit (with_sets s.eit k.room.used k.room.evictions)) (kept_heads k.room e s.heads) slots s.schedule_heads s.units in
    stepped (settled r k.arrival k.room.row) (paste s.cells (k.cell * s.eit.sets.size) bytes (length bytes))

abbrev pub carried : Store → (bytes : List ℕ) → Plan → Step
carried s bytes (plan.Leave a) = record { answer = a; store = s }
carried s bytes (plan.Conflict i) =
    record { answer = conflicting; store = store (risen_eit s.eit) (touched (s.eit.sets.clock + 1) i s.heads) s.slots s.cells s.schedule_heads s.units }
carried s bytes (plan.Repeat x) = stepped (settled (risen_rows (rows_of s)) x.arrival x.row) s.cells
carried s bytes (plan.Keep k) = kept_and_settled s bytes k

-- a section that arrived, offered to a store that is whole and can count
unfoldable pub pushed_whole : Store → (bytes : List ℕ) → Arrival → Step
pushed_whole s bytes a = carried s bytes (plan_of s bytes a)
