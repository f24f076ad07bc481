-- One law for each way out of a function that carries out a plan.
-- Assumes nothing.
use mathlib.Core.Path.{◌≡◌, subst}
use mathlib.Core.Logic.{◌≢◌}
use mathlib.Core.List.{List}
use mathlib.Core.Bool.{Bool, true, false, ◌&&◌}
use Prim.Native.Nat.{ℕ, ◌+◌, ◌*◌, ◌≤◌, ◌<◌}
use native.Mathlib.Omega.{arith}
use lib.Dec.{eqb}
use lib.ListN.{length}
use lib.Seq.{paste}
use Rattle.cells.specs.Cells.{slot_word, all_filled}
use Rattle.rows.specs.Rows.{touched, kept_heads, kept_slots, row_slots, mark_of, with_mark}
use Rattle.answers.specs.declared.Refusal.{Refusal}
use Rattle.answers.specs.declared.Refusal.TheVariants.{Conflict}
use Rattle.store.specs.Store.{Store, store, risen_sets}
use Rattle.store.specs.declared.Sets.{Sets}
use Rattle.sets_settle.specs.declared.PushAnswer.{PushAnswer}
use Rattle.sets_settle.specs.declared.PushAnswer.TheVariants.{Nothing, Set, Refused}
use Rattle.sets_plan.specs.declared.Keeping.{Keeping}
use Rattle.sets_plan.specs.declared.Plan.{Plan}
use Rattle.sets_plan.specs.declared.Plan.TheVariants as plan
use Rattle.sets_plan.specs.Plan.{KeepOk, RowOk, PlanOk}
use Rattle.sets_settle.specs.Settle.{SetsAfter, after_push, goes_out, settled_answer, settled_heads, settled, kept_sets, kept_in, carried}

pub goes : (heads slots : List ℕ) (i m : ℕ) (b : Bool) → m ≡ mark_of heads i → b ≡ all_filled (row_slots heads slots i) → (eqb m 0 && b) ≡ goes_out heads slots i
unfolding goes_out
goes heads slots i m b e f = rw (e, f)

-- ---- settle

module _ (clock : ℕ) (h slots : List ℕ) (i : ℕ) (h' : List ℕ) (b : Bool) (e : h' ≡ touched clock i h) (q : b ≡ goes_out h' slots i) where
  pub settle_out : (h'' : List ℕ) → b ≡ true → h'' ≡ with_mark i 1 h' → (Set i ≡ settled_answer clock h slots i) × (h'' ≡ settled_heads clock h slots i)
  unfolding settled_answer settled_heads
  settle_out h'' t p = (rw (← e, ← q, t), rw (← e, ← q, t) p)

  pub settle_not : b ≡ false → (Nothing ≡ settled_answer clock h slots i) × (h' ≡ settled_heads clock h slots i)
  unfolding settled_answer settled_heads
  settle_not t = (rw (← e, ← q, t), rw (← e, ← q, t))

-- ---- keep

pub kept_left : (s : Sets) (heads slots cells bytes : List ℕ) (k : Keeping) (w : ℕ) (a : PushAnswer) (h h' l b : List ℕ)
    → w ≡ slot_word (length bytes) k.cell → h ≡ kept_heads k.room k.entry heads → l ≡ kept_slots k.room k.entry w slots
    → b ≡ paste cells (k.cell * s.size) bytes (length bytes)
    → a ≡ settled_answer (s.clock + 1) h l k.room.row → h' ≡ settled_heads (s.clock + 1) h l k.room.row
    → after_push (record { answer = a; sets = risen_sets (kept_sets s k.room) }) h' l b ≡ settled (kept_in (store s heads slots cells) bytes k) k.room.row
unfolding settled kept_in
kept_left s heads slots cells bytes k w a h h' l b ew eh el eb ea eh' = rw (ea, eh', el, eb, eh, ew)

-- ---- carry

module _ (s : Store) (bytes : List ℕ) (p : Plan) where
  pub carried_refuse : (r : Refusal) → p ≡ plan.Refuse r → after_push (record { answer = Refused r; sets = s.sets }) s.heads s.slots s.cells ≡ carried s bytes p
  carried_refuse r e = rw e

  pub carried_silent : p ≡ plan.Silent → after_push (record { answer = Nothing; sets = s.sets }) s.heads s.slots s.cells ≡ carried s bytes p
  carried_silent e = rw e

  pub carried_conflict : (i : ℕ) (h : List ℕ) (t : Sets) → p ≡ plan.Conflict i → h ≡ touched (s.sets.clock + 1) i s.heads → t ≡ risen_sets s.sets
      → after_push (record { answer = Refused Conflict; sets = t }) h s.slots s.cells ≡ carried s bytes p
  carried_conflict i h t e q f = rw (e, q, f)

  pub carried_repeat : (i : ℕ) (a : PushAnswer) (h : List ℕ) (t : Sets) → p ≡ plan.Repeat i → a ≡ settled_answer (s.sets.clock + 1) s.heads s.slots i → h ≡ settled_heads (s.sets.clock + 1) s.heads s.slots i
      → t ≡ risen_sets s.sets → after_push (record { answer = a; sets = t }) h s.slots s.cells ≡ carried s bytes p
  unfolding settled
  carried_repeat i a h t e q f k = rw (e, q, f, k)

  pub carried_keep : (k : Keeping) (l : SetsAfter) → p ≡ plan.Keep k → l ≡ settled (kept_in s bytes k) k.room.row → l ≡ carried s bytes p
  carried_keep k l e q = rw e q

-- what a plan says of its row
pub record RowFits (s : Sets) (heads slots : List ℕ) (i : ℕ) : Type 0 where
  pub row : i < s.used
  pub heads_fit : s.used * 12 ≤ length heads
  pub slots_fit : s.used * 288 ≤ length slots
  pub runs : s.clock ≢ 18446744073709551615

module _ (s : Sets) (heads slots cells bytes : List ℕ) (p : Plan) where
  row_fits : (i : ℕ) → RowOk (store s heads slots cells) i → RowFits s heads slots i
  row_fits i o = let w = o.whole in record { row = o.row; heads_fit = omega arith; slots_fit = omega arith; runs = o.runs }

  pub conflict_may : (i : ℕ) → p ≡ plan.Conflict i → PlanOk (store s heads slots cells) bytes p → RowFits s heads slots i
  conflict_may i e o = row_fits i (subst (PlanOk (store s heads slots cells) bytes) e o)

  pub repeat_may : (i : ℕ) → p ≡ plan.Repeat i → PlanOk (store s heads slots cells) bytes p → RowFits s heads slots i
  repeat_may i e o = row_fits i (subst (PlanOk (store s heads slots cells) bytes) e o)

  pub keep_may : (k : Keeping) → p ≡ plan.Keep k → PlanOk (store s heads slots cells) bytes p → KeepOk (store s heads slots cells) bytes k
  keep_may k e o = subst (PlanOk (store s heads slots cells) bytes) e o
