-- One law for each way out.
-- Assumes nothing.
use mathlib.Core.Path.{◌≡◌, ap, subst, ◌∙◌}
use mathlib.Core.Logic.{◌≢◌}
use mathlib.Core.List.{List}
use Prim.Native.Nat.{ℕ, ◌+◌, ◌*◌, ◌≤◌, ◌<◌}
use native.Mathlib.Omega.{arith}
use lib.ListN.{length}
use lib.Seq.{paste}
use Rattle.cells.specs.Cells.{slot_word}
use Rattle.rows.specs.Rows.{touched, kept_heads}
use Rattle.store.proofs.Whole.{cell_fits}
use Rattle.arrivals.specs.Arrivals.{Numbered}
use Rattle.arrivals.specs.declared.Arrival.{Arrival}
use Rattle.segments.specs.Segments.{kept_section}
use Rattle.eit_state.specs.declared.Eit.{Eit}
use Rattle.eit_state.specs.declared.PushAnswer.{PushAnswer}
use Rattle.eit_state.specs.declared.Pushed.{Pushed}
use Rattle.eit_state.specs.State.{Store, store, Rows, rows, rows_of, with_sets, risen_eit, risen_rows, Whole, RowsFit, CanCount}
use Rattle.eit_state.proofs.Whole.{whole_room}
use Rattle.eit_plan.specs.declared.Seen.{Seen}
use Rattle.eit_plan.specs.declared.Keeping.{Keeping}
use Rattle.eit_plan.specs.declared.Plan.{Plan}
use Rattle.eit_plan.specs.declared.Plan.TheVariants as plan
use Rattle.eit_plan.specs.Plan.{plan_of, KeepOk, RowOk, PlanOk}
use Rattle.eit_plan.proofs.May.{plan_may}
use Rattle.eit_keep.specs.Kept.{CellOk}
use Rattle.eit_enter.specs.Entering.{Settled, answered, SettleOk}
use Rattle.eit_settle.specs.Settle.{conflicting, settled}
use Rattle.eit_carry.specs.Carried.{Step, step, stepped, kept_and_settled, carried, pushed_whole}

module _ (e : Eit) (heads slots cells schedule_heads units bytes : List ℕ) (k : Keeping) (o : KeepOk (store e heads slots cells schedule_heads units) bytes k) where
  pub cell_may : CellOk e.sets.size heads slots cells bytes k
  cell_may =
      let w = o.whole.sets in
      let r = o.room in
      let c = o.cell in
      record {
        number = o.numbered.number;
        last = o.numbered.last;
        heads_long = omega arith;
        slots_long = omega arith;
        size_high = w.size_high;
        cell = omega arith;
        fits = o.fits;
        cells_long = cell_fits e.sets heads slots cells (length bytes) k.cell w c o.fits;
      }

  pub kept_runs : (e' : Eit) → e' ≡ with_sets e k.room.used k.room.evictions → e'.sets.clock ≢ 18446744073709551615
  kept_runs e' q = rw q o.counts.runs

  pub kept_may : (e' e'' : Eit) (h l : List ℕ) → e' ≡ with_sets e k.room.used k.room.evictions → e'' ≡ risen_eit e' → length h ≡ length heads → length l ≡ length slots
      → SettleOk (rows e'' h l schedule_heads units) k.room.row
  kept_may e' e'' h l q g p f =
      let w = o.whole.sets in
      let r = o.room in
      rw (g, q) (record {
        row = r.row;
        room = record {
          used = r.room;
          heads_long = rw p w.heads_long;
          slots_long = rw f w.slots_long;
          schedule_heads_long = o.whole.schedule_heads_long;
          units_long = o.whole.units_long;
          schedules = o.whole.schedules;
        };
        counts = o.counts.schedules;
      })

pub kept_left : (e : Eit) (heads slots cells schedule_heads units bytes : List ℕ) (k : Keeping) (e' e'' : Eit) (r : Pushed) (h l b h' t u : List ℕ)
    → h ≡ kept_heads k.room k.arrival.entry heads → l ≡ kept_section k.room k.arrival.entry k.arrival.segment (slot_word (length bytes) k.cell) slots
    → b ≡ paste cells (k.cell * e.sets.size) bytes (length bytes) → e' ≡ with_sets e k.room.used k.room.evictions → e'' ≡ risen_eit e'
    → answered r h' l t u ≡ settled (rows e'' h l schedule_heads units) k.arrival k.room.row
    → step r h' l b t u ≡ kept_and_settled (store e heads slots cells schedule_heads units) bytes k
unfolding kept_and_settled
kept_left e heads slots cells schedule_heads units bytes k e' e'' r h l b h' t u eh el eb ee eg q =
    ap (λ (f : Settled). stepped f b) q ∙ rw (eg, ee, eh, el, eb)

-- ---- carry

module _ (e : Eit) (heads slots cells schedule_heads units bytes : List ℕ) (p : Plan) where
  pub carried_leave : (a : PushAnswer) → p ≡ plan.Leave a → ◌≡◌ {A = Step} (record { answer = a; store = store e heads slots cells schedule_heads units }) (carried (store e heads slots cells schedule_heads units) bytes p)
  carried_leave a q = rw q

  pub carried_conflict : (i : ℕ) (e' : Eit) (x : PushAnswer) (h : List ℕ) → p ≡ plan.Conflict i → e' ≡ risen_eit e → x ≡ conflicting → h ≡ touched e'.sets.clock i heads
      → ◌≡◌ {A = Step} (record { answer = x; store = store e' h slots cells schedule_heads units }) (carried (store e heads slots cells schedule_heads units) bytes p)
  carried_conflict i e' x h q k g f = rw (q, g, f, k)

  pub carried_repeat : (x : Seen) (e' : Eit) (r : Pushed) (h t u : List ℕ) → p ≡ plan.Repeat x → e' ≡ risen_eit e → answered r h slots t u ≡ settled (rows e' heads slots schedule_heads units) x.arrival x.row
      → step r h slots cells t u ≡ carried (store e heads slots cells schedule_heads units) bytes p
  carried_repeat x e' r h t u q k f = ap (λ (y : Settled). stepped y cells) f ∙ rw (q, k)

  pub carried_keep : (k : Keeping) (l : Step) → p ≡ plan.Keep k → l ≡ kept_and_settled (store e heads slots cells schedule_heads units) bytes k → l ≡ carried (store e heads slots cells schedule_heads units) bytes p
  carried_keep k l q f = rw q f

-- no row depends on the clock
pub risen_fit : (r : Rows) → RowsFit r → RowsFit (risen_rows r)
risen_fit r f = record {
  used = f.used;
  heads_long = f.heads_long;
  slots_long = f.slots_long;
  schedule_heads_long = f.schedule_heads_long;
  units_long = f.units_long;
  schedules = f.schedules;
}

row_may : (s : Store) (i : ℕ) → RowOk s i → SettleOk (risen_rows (rows_of s)) i
row_may s i r = record { row = r.row; room = risen_fit (rows_of s) (whole_room s r.whole); counts = r.counts.schedules }

module _ (e : Eit) (heads slots cells schedule_heads units bytes : List ℕ) (p : Plan) (o : PlanOk (store e heads slots cells schedule_heads units) bytes p) where
  conflict_ok : (i : ℕ) → p ≡ plan.Conflict i → RowOk (store e heads slots cells schedule_heads units) i
  conflict_ok i q = subst (PlanOk (store e heads slots cells schedule_heads units) bytes) q o

  pub conflict_runs : (i : ℕ) → p ≡ plan.Conflict i → e.sets.clock ≢ 18446744073709551615
  conflict_runs i q = (conflict_ok i q).counts.runs

  pub conflict_may : (i : ℕ) → p ≡ plan.Conflict i → i * 12 + 12 ≤ length heads
  conflict_may i q = let r = conflict_ok i q in let w = r.whole.sets in omega (arith, r.row)

  repeat_ok : (x : Seen) → p ≡ plan.Repeat x → RowOk (store e heads slots cells schedule_heads units) x.row
  repeat_ok x q = subst (PlanOk (store e heads slots cells schedule_heads units) bytes) q o

  pub repeat_runs : (x : Seen) → p ≡ plan.Repeat x → e.sets.clock ≢ 18446744073709551615
  repeat_runs x q = (repeat_ok x q).counts.runs

  pub repeat_may : (x : Seen) (e' : Eit) → p ≡ plan.Repeat x → e' ≡ risen_eit e → SettleOk (rows e' heads slots schedule_heads units) x.row
  repeat_may x e' q k = rw k (row_may (store e heads slots cells schedule_heads units) x.row (repeat_ok x q))

  pub keep_may : (k : Keeping) → p ≡ plan.Keep k → KeepOk (store e heads slots cells schedule_heads units) bytes k
  keep_may k q = subst (PlanOk (store e heads slots cells schedule_heads units) bytes) q o

-- ---- a section that arrived

module _ (e : Eit) (heads slots cells schedule_heads units bytes : List ℕ) (a : Arrival) (p : Plan) (q : p ≡ plan_of (store e heads slots cells schedule_heads units) bytes a) where
  pub whole_may : Whole (store e heads slots cells schedule_heads units) → Numbered a.entry → CanCount e → PlanOk (store e heads slots cells schedule_heads units) bytes p
  whole_may w n c = plan_may (store e heads slots cells schedule_heads units) bytes w c a p n q

  pub whole_done : (x : Step) → x ≡ carried (store e heads slots cells schedule_heads units) bytes p → x ≡ pushed_whole (store e heads slots cells schedule_heads units) bytes a
  unfolding pushed_whole
  whole_done x k = rw (← q) k
