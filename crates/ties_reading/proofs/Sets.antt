-- The set collector: what a host reads out of a row in use is what its filled slots keep; after an answer 5 these are the sections that were handed out.
-- Assumes nothing.
use Prim.Native.Nat.{ℕ, ◌+◌, ◌<◌}
use native.Mathlib.Omega.{arith}
use mathlib.Core.Path.{◌≡◌, refl, sym, ap, ◌∙◌, subst}
use mathlib.Core.List.{List, map}
use mathlib.Core.Bool.{Bool, true, false, cond, ◌&&◌}
use lib.ListN.{get_or}
use lib.Dec.{eqb}
use borrow.Author.Tests.{lt-ltb}
use Rattle.laws.proofs.Tests.{and_true}
use Rattle.answers.specs.declared.Refusal.TheVariants.{NotWhole, CounterFull, NoPid}
use Rattle.std.specs.Prelude.{Option, Result, Ok, Err}
use Rattle.rows.specs.declared.Entry.{Entry}
use Rattle.answers.specs.declared.Refusal.{Refusal}
use Rattle.cells.specs.Cells.{all_filled, kept}
use Rattle.rows.specs.Rows.{touched, row_slots, mark_of, with_mark}
use Rattle.rows.proofs.Words.{put_not}
use Rattle.rows.proofs.Whole.{rows_get}
use Rattle.ticks.proofs.Slots.{slots_same}
use Rattle.without_pid.specs.Pids.{without_pid}
use Rattle.store.specs.Store.{Store, store, risen_sets, counters_full, whole_of, WholeStore}
use Rattle.store.proofs.Whole.{means_whole}
use Rattle.arrivals.specs.Arrivals.{set_arrival}
use Rattle.readers.specs.Next.{filled_slots}
use Rattle.readers.specs.declared.Next.{Next}
use Rattle.reading.specs.Reading.{asks, Reads}
use Rattle.reading.proofs.Reading.{reads_all, all_filled_lem}
use Rattle.sets_plan.specs.declared.Plan.{Plan}
use Rattle.sets_plan.specs.declared.Plan.TheVariants as plan
use Rattle.sets_plan.specs.Plan.{plan_of, PlanOk}
use Rattle.sets_plan.proofs.May.{plan_ok}
use Rattle.sets_settle.specs.declared.PushAnswer.TheVariants as push_answer
use Rattle.sets_settle.specs.Settle.{Handed, Told, done, nothing, handed, refused, set_in, SetsAfter, answered, goes_out, settled_answer, settled_heads, settled, kept_in, carried}
use Rattle.sets.specs.Store.{next_of, pushed_as, pushed_of}
use Rattle.sets_push.specs.Pushing.{whole_pushed, admitted, AdmittedOk}
use Rattle.sets.specs.History.{Call, offer, AllBytes, after_all, OpenedStore}
use Rattle.sets_push.proofs.Ways.{admitted_ok}
use Rattle.sets.proofs.Stays.{push_stays, stays, opened_whole}
use Rattle.sets.proofs.Pids.{has_pids, none_without, push_pids}

-- ---- a row in use

-- where every row in use has a PID, every question about a row in use is one about its slots
asked_of_row : (s : Store) → WholeStore s → without_pid s.heads s.sets.used ≡ false → (row : ℕ) → row < s.sets.used → (from : ℕ)
    → next_of s row from ≡ asks s.sets.size (row_slots s.heads s.slots row) from
unfolding next_of
asked_of_row s w n row r from = rw (means_whole s w, n, lt-ltb row s.sets.used r) refl

-- so what is read are its filled slots' bytes in order, each once, and then no: 10 and 41 never occur in the reading
pub reads_row : (s : Store) → WholeStore s → without_pid s.heads s.sets.used ≡ false → (row : ℕ) → row < s.sets.used
    → Reads (next_of s row) s.cells 0 (map (kept s.cells s.sets.size) (filled_slots (row_slots s.heads s.slots row))) (Ok false)
reads_row s w n row r =
    subst (λ (f : ℕ → Next). Reads f s.cells 0 (map (kept s.cells s.sets.size) (filled_slots (row_slots s.heads s.slots row))) (Ok false))
    (λ i from. sym (asked_of_row s w n row r from) i)
    (reads_all s.sets.count s.sets.size s.cells (row_slots s.heads s.slots row)
    (rows_get s.heads s.slots s.sets.count s.sets.size s.sets.used row w.rows r) w.cells_long)

-- ---- a set that was handed out

-- it is in its row, which is in use and full
pub record HandedOut (h : Handed) (t : Store) : Type 0 where
  pub set : h ≡ set_in t h.row
  pub used : h.row < t.sets.used
  pub full : all_filled (row_slots t.heads t.slots h.row) ≡ true

abbrev handed_in : Told → Handed → Handed
handed_in done d = d
handed_in nothing d = d
handed_in (handed h) d = h
handed_in (refused r) d = d

no_number : Told → ℕ
no_number done = 0
no_number nothing = 0
no_number (handed h) = 1
no_number (refused r) = 0

not_handed : (t : Told) (h : Handed) → no_number t ≡ 0 → t ≡ handed h → ⊥
unfolding no_number
not_handed t h z e = let y : ◌≡◌ {A = ℕ} 0 1 = sym z ∙ ap no_number e in omega (arith, y)

settled_out : (s : Store) (i : ℕ) (h : Handed) → i < s.sets.used → (settled s i).told ≡ handed h → HandedOut h (settled s i).store
unfolding settled settled_answer settled_heads goes_out set_in no_number
settled_out s i h l e = go (goes_out (touched (s.sets.clock + 1) i s.heads) s.slots i) refl e
  where
    g : List ℕ
    g = touched (s.sets.clock + 1) i s.heads

    go : (b : Bool) → goes_out (touched (s.sets.clock + 1) i s.heads) s.slots i ≡ b
        → (answered (cond b (push_answer.Set i) push_answer.Nothing) (store (risen_sets s.sets) (cond b (with_mark i 1 (touched (s.sets.clock + 1) i s.heads)) (touched (s.sets.clock + 1) i s.heads)) s.slots s.cells)).told ≡ handed h
        → HandedOut h (store (risen_sets s.sets) (cond b (with_mark i 1 (touched (s.sets.clock + 1) i s.heads)) (touched (s.sets.clock + 1) i s.heads)) s.slots s.cells)
    go true f q =
        let t : Store = store (risen_sets s.sets) (with_mark i 1 (touched (s.sets.clock + 1) i s.heads)) s.slots s.cells in
        let p : set_in t i ≡ h = ap (λ (x : Told). handed_in x h) q in
        let r : i ≡ h.row = ap (λ (x : Handed). x.row) p in
        let c = slots_same (touched (s.sets.clock + 1) i s.heads) (with_mark i 1 (touched (s.sets.clock + 1) i s.heads)) s.slots i
        (put_not (touched (s.sets.clock + 1) i s.heads) i 8 1 i 7 (λ z. absurd (omega (arith, z))) (omega arith) (omega arith)) in
        let full : all_filled (row_slots t.heads t.slots i) ≡ true = ap all_filled c ∙ (and_true (eqb (mark_of (touched (s.sets.clock + 1) i s.heads) i) 0) (all_filled (row_slots (touched (s.sets.clock + 1) i s.heads) s.slots i)) f).1 in
        record {
          set = sym p ∙ ap (set_in t) r;
          used = subst (λ (k : ℕ). k < s.sets.used) r l;
          full = subst (λ (k : ℕ). all_filled (row_slots t.heads t.slots k) ≡ true) r full;
        }
    go false f q = absurd (not_handed nothing h refl q)

carried_out : (s : Store) (bytes : List ℕ) (p : Plan) (h : Handed) → PlanOk s bytes p → (carried s bytes p).told ≡ handed h → HandedOut h (carried s bytes p).store
unfolding no_number kept_in
carried_out s bytes (plan.Refuse r) h o e = absurd (not_handed (refused r) h refl e)
carried_out s bytes plan.Silent h o e = absurd (not_handed nothing h refl e)
carried_out s bytes (plan.Conflict i) h o e = absurd (not_handed (carried s bytes (plan.Conflict i)).told h refl e)
carried_out s bytes (plan.Repeat i) h o e = settled_out s i h o.row e
carried_out s bytes (plan.Keep k) h o e = settled_out (kept_in s bytes k) k.room.row h o.room.row e

pub pushed_out : (s : Store) (input : ℕ) (pid : Option ℕ) (bytes : List ℕ) (h : Handed) → get_or bytes 7 0 < 256 → (pushed_of s input pid bytes).told ≡ handed h → HandedOut h (pushed_of s input pid bytes).store
unfolding pushed_of whole_pushed no_number
pushed_out s input pid bytes h b e = go (admitted s input pid bytes) (admitted_ok s bytes input pid b) e
  where
    go : (a : Result Entry Refusal) → AdmittedOk s bytes a → (pushed_as s bytes a).told ≡ handed h → HandedOut h (pushed_as s bytes a).store
    go (Err r) o e = absurd (not_handed (refused r) h refl e)
    go (Ok x) o e = carried_out s bytes (plan_of s x bytes) h (plan_ok s o.0 x bytes o.1) e

-- a push that hands a set out met PIDs alone, and leaves PIDs alone
out_pids : (s : Store) (input : ℕ) (pid : Option ℕ) (bytes : List ℕ) (h : Handed) → get_or bytes 7 0 < 256 → (pushed_of s input pid bytes).told ≡ handed h
    → without_pid (pushed_of s input pid bytes).store.heads (pushed_of s input pid bytes).store.sets.used ≡ false
unfolding pushed_of admitted no_number
out_pids s input pid bytes h b e =
    none_without (pushed_of s input pid bytes).store
    (push_pids s input pid bytes b (has_pids s (go (whole_of s) (counters_full s.sets) (without_pid s.heads s.sets.used) refl e)))
  where
    go : (w t n : Bool) → without_pid s.heads s.sets.used ≡ n
        → (pushed_as s bytes (cond w (cond t (Err CounterFull) (cond n (Err NoPid) (set_arrival input pid bytes))) (Err NotWhole))).told ≡ handed h
        → without_pid s.heads s.sets.used ≡ false
    go w t false q e = q
    go false t true q e = absurd (not_handed (refused NotWhole) h refl e)
    go true true true q e = absurd (not_handed (refused CounterFull) h refl e)
    go true false true q e = absurd (not_handed (refused NoPid) h refl e)

-- ---- after an answer 5

-- What a host reads out of the row that it was told of, asking from 0 on, are the sections that were handed out, byte for byte; then the answer is no
pub read_handed : (s : Store) → WholeStore s → (input : ℕ) (pid : Option ℕ) (bytes : List ℕ) → get_or bytes 7 0 < 256 → (h : Handed) → (pushed_of s input pid bytes).told ≡ handed h
    → Reads (next_of (pushed_of s input pid bytes).store h.row) (pushed_of s input pid bytes).store.cells 0 h.sections (Ok false)
unfolding set_in
read_handed s w input pid bytes b h e =
    let t : Store = (pushed_of s input pid bytes).store in
    let o = pushed_out s input pid bytes h b e in
    let d : h.sections ≡ map (kept t.cells t.sets.size) (row_slots t.heads t.slots h.row) = ap (λ (x : Handed). x.sections) o.set in
    let f = all_filled_lem (row_slots t.heads t.slots h.row) o.full in
    subst (λ (l : List (List ℕ)). Reads (next_of t h.row) t.cells 0 l (Ok false)) (ap (map (kept t.cells t.sets.size)) f ∙ sym d)
    (reads_row t (push_stays s input pid bytes b w) (out_pids s input pid bytes h b e) h.row o.used)

-- .. in every history from an opening on
pub read_in_every_history : (s : Store) → OpenedStore s → (calls : List Call) → AllBytes calls → (input : ℕ) (pid : Option ℕ) (bytes : List ℕ) → get_or bytes 7 0 < 256 → (h : Handed)
    → (pushed_of (after_all s calls) input pid bytes).told ≡ handed h
    → Reads (next_of (pushed_of (after_all s calls) input pid bytes).store h.row) (pushed_of (after_all s calls) input pid bytes).store.cells 0 h.sections (Ok false)
read_in_every_history s o calls a = read_handed (after_all s calls) (stays s calls a (opened_whole s o))
