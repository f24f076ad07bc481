-- Rows with PIDs stay such: of every store in which each row in use has a PID, a push with a PID and a clear leave one. So 41 comes from a call alone.
-- Assumes nothing.
use mathlib.Core.Path.{◌≡◌, refl, sym, ap, subst, ◌∙◌}
use mathlib.Core.Logic.{◌≢◌}
use mathlib.Core.List.{List}
use mathlib.Core.Bool.{Bool, true, false, cond, true≢false}
use Prim.Native.Nat.{ℕ, ◌+◌, ◌*◌, ◌≤◌, ◌<◌}
use native.Mathlib.Decide.{ℕ_discrete}
use native.Mathlib.Omega.{arith}
use borrow.Author.Tests.{ltb-true}
use lib.Dec.{ltb, eqb}
use lib.ListN.{length, get_or}
use Rattle.answers.specs.declared.Refusal.{Refusal}
use Rattle.answers.specs.declared.Refusal.TheVariants.{NotWhole, CounterFull, NoCell, NoPid}
use Rattle.std.specs.Prelude.{Option, Some, None, Result, Ok, Err}
use Rattle.answers.specs.declared.Refusal.TheVariants as refusal
use Rattle.section.specs.declared.header.Header.{Header}
use Rattle.section.specs.Ids.{origin_made, origin_of}
use Rattle.section.specs.Judged.{collected_of}
use Rattle.cells.specs.Cells.{lowest_free}
use Rattle.rows.specs.Rows.{word, touched, gone_row, kept_heads, taken_in, with_mark}
use Rattle.rows.proofs.Words.{put_not, touched_not, kept_row, kept_fresh, kept_known}
use Rattle.rows.specs.declared.Entry.{Entry}
use Rattle.rows.specs.declared.Origin.{Origin}
use Rattle.rows.specs.declared.Room.{Room}
use Rattle.without_pid.specs.Pids.{without_pid}
use Rattle.without_pid.proofs.Rows.{each_has, one_without}
use Rattle.store.specs.Store.{Store, store, empty_sets, whole_of, counters_full}
use Rattle.store.proofs.Whole.{whole_means, evictions_go_on, clock_goes_on}
use Rattle.arrivals.specs.Arrivals.{made_words, set_key, entry_of, set_read, set_judged, set_arrival, SetTaken, Taken}
use Rattle.arrivals.proofs.Facts.{set_taken}
use Rattle.sets_plan.specs.declared.Keeping.{Keeping}
use Rattle.sets_plan.specs.declared.Plan.{Plan}
use Rattle.sets_plan.specs.declared.Plan.TheVariants as plan
use Rattle.sets_plan.specs.Plan.{plan_keep, plan_of, Ready, KeepOk, PlanOk}
use Rattle.sets_plan.proofs.May.{plan_ok}
use Rattle.sets_plan.proofs.Every.{plan_by}
use Rattle.sets_settle.specs.Settle.{done, refused, after, goes_out, settled_heads, settled, kept_in, carried}
use Rattle.sets_push.specs.Pushing.{whole_pushed, admitted}
use Rattle.sets.specs.Store.{pushed_as, pushed_of, cleared_of}

-- each row in use has a PID
abbrev pub HasPids : Store → Type 0
HasPids s = (i : ℕ) → i < s.sets.used → word s.heads i 0 ≡ 8192 → ⊥

pub has_pids : (s : Store) → without_pid s.heads s.sets.used ≡ false → HasPids s
has_pids s e i h z = true≢false (sym (one_without s.heads s.sets.used i h z) ∙ e)

pub none_without : (s : Store) → HasPids s → without_pid s.heads s.sets.used ≡ false
none_without s h = each_has s.heads s.sets.used h

-- ---- a row is settled: neither its tick nor its mark is its PID

settled_word : (clock i : ℕ) (heads slots : List ℕ) (j : ℕ) → word (settled_heads clock heads slots i) j 0 ≡ word heads j 0
unfolding settled_heads
settled_word clock i heads slots j = go (goes_out (touched clock i heads) slots i)
  where
    go : (b : Bool) → word (cond b (with_mark i 1 (touched clock i heads)) (touched clock i heads)) j 0 ≡ word heads j 0
    go true = put_not (touched clock i heads) i 8 1 j 0 (omega arith) (omega arith) (omega arith) ∙ touched_not clock i heads j 0 (omega arith) (omega arith)
    go false = touched_not clock i heads j 0 (omega arith) (omega arith)

settled_pids : (s : Store) (i : ℕ) → HasPids s → HasPids (settled s i).store
unfolding settled
settled_pids s i h j l z = h j l (sym (settled_word (s.sets.clock + 1) i s.heads s.slots j) ∙ z)

-- ---- a section is kept: its row has its PID

module _ (s : Store) (bytes : List ℕ) (k : Keeping) (o : KeepOk s bytes k) (n : k.entry.key.from.pid ≡ 8192 → ⊥) (h : HasPids s) where
  abbrev r : Room
  r = k.room

  abbrev e : Entry
  e = k.entry

  room : r.row * 12 + 12 ≤ length s.heads
  room = let a = o.whole.heads_long in let b = o.room.room in let c = o.room.row in omega arith

  own : (b : Bool) → r.fresh ≡ b → word (kept_heads r e s.heads) r.row 0 ≡ 8192 → ⊥
  own true f z = n (sym (kept_fresh r e s.heads room f 0 (omega arith)) ∙ z)
  own false f z = h r.row (o.room.known f) (sym (kept_known r e s.heads room f 0 (omega arith) (omega arith)) ∙ z)

  each : (j : ℕ) → j < r.used → Dec (j ≡ r.row) → word (kept_heads r e s.heads) j 0 ≡ 8192 → ⊥
  each j l (yes q) z = own r.fresh refl (subst (λ (x : ℕ). word (kept_heads r e s.heads) x 0 ≡ 8192) q z)
  each j l (no d) z =
      let a = o.room.next in
      let b = o.room.all in
      let d' : j ≢ r.row = d in
      h j (omega arith) (sym (kept_row r e s.heads room j 0 d (omega arith)) ∙ z)

  kept_pids : HasPids (kept_in s bytes k)
  unfolding kept_in
  kept_pids j l z = each j l (ℕ_discrete j r.row) z

-- ---- every plan

pub whole_pids : (s : Store) (e : Entry) (bytes : List ℕ) → Ready s → Taken bytes e → (e.key.from.pid ≡ 8192 → ⊥) → HasPids s → HasPids (whole_pushed s e bytes).store
unfolding whole_pushed plan_keep
whole_pids s e bytes w t n h =
    plan_by s e bytes (λ p. PlanOk s bytes p → HasPids (carried s bytes p).store) (λ o. h) (λ o. h) (λ i o. settled_pids s i h)
    (λ i o j l z. h j l (sym (touched_not (s.sets.clock + 1) i s.heads j 0 (omega arith) (omega arith)) ∙ z)) keep (plan_ok s w e bytes t)
  where
    keep : (r : Room) → PlanOk s bytes (plan_keep s e r) → HasPids (carried s bytes (plan_keep s e r)).store
    keep r = go (lowest_free (taken_in s.heads s.slots (gone_row r s.sets.used) s.sets.used) s.sets.count)
      where
        at : (b : Bool) (c : ℕ) → PlanOk s bytes (cond b (plan.Keep (record { entry = e; room = r; cell = c })) (plan.Refuse NoCell))
            → HasPids (carried s bytes (cond b (plan.Keep (record { entry = e; room = r; cell = c })) (plan.Refuse NoCell))).store
        at true c o = settled_pids (kept_in s bytes (record { entry = e; room = r; cell = c })) r.row (kept_pids s bytes (record { entry = e; room = r; cell = c }) o n h)
        at false c o = h

        go : (c : ℕ) → PlanOk s bytes (cond (ltb c s.sets.count) (plan.Keep (record { entry = e; room = r; cell = c })) (plan.Refuse NoCell))
            → HasPids (carried s bytes (cond (ltb c s.sets.count) (plan.Keep (record { entry = e; room = r; cell = c })) (plan.Refuse NoCell))).store
        go c = at (ltb c s.sets.count) c

-- ---- a call

-- a section that arrived has a PID
arrived_pid : (input : ℕ) (pid : Option ℕ) (bytes : List ℕ) (e : Entry) → set_arrival input pid bytes ≡ Ok e → e.key.from.pid ≡ 8192 → ⊥
unfolding set_arrival
arrived_pid input None bytes e q z = let y : ◌≡◌ {A = ℕ} 0 1 = cc in omega arith
arrived_pid input (Some v) bytes e q z = go (ltb v 8192) (ltb input 16) refl q
  where
    read : (c : Result Header Refusal) → v < 8192 → set_read (record { input = input; pid = v }) c ≡ Ok e → ⊥
    read (Err r) l f = let y : ◌≡◌ {A = ℕ} 0 1 = cc in omega arith
    read (Ok h) l f =
        let x : entry_of (set_key (record { input = input; pid = v }) h) h ≡ e = cc in
        let y : v ≡ e.key.from.pid = ap (λ (t : Entry). t.key.from.pid) x in
        omega (arith, l, y, z)

    go : (b c : Bool) → ltb v 8192 ≡ b → set_judged (made_words (cond b (cond c (Ok (origin_of input v)) (Err refusal.BadInput)) (Err refusal.BadPid))) bytes ≡ Ok e → ⊥
    go true true l f = read (collected_of bytes) (ltb-true v 8192 l) f
    go true false l f = let y : ◌≡◌ {A = ℕ} 0 1 = cc in omega arith
    go false c l f = let y : ◌≡◌ {A = ℕ} 0 1 = cc in omega arith

pub push_pids : (s : Store) (input : ℕ) (pid : Option ℕ) (bytes : List ℕ) → get_or bytes 7 0 < 256 → HasPids s → HasPids (pushed_of s input pid bytes).store
unfolding pushed_of admitted
push_pids s input pid bytes b h = rw (none_without s h) (go (whole_of s) (counters_full s.sets) refl refl)
  where
    arrived : Ready s → (a : Result Entry Refusal) → set_arrival input pid bytes ≡ a → SetTaken bytes a → HasPids (pushed_as s bytes a).store
    arrived w (Err r) q o = h
    arrived w (Ok e) q o = whole_pids s e bytes w o (arrived_pid input pid bytes e q) h

    go : (w t : Bool) → whole_of s ≡ w → counters_full s.sets ≡ t → HasPids (pushed_as s bytes (cond w (cond t (Err CounterFull) (set_arrival input pid bytes)) (Err NotWhole))).store
    go false t q f = h
    go true true q f = h
    go true false q f =
        arrived (record { whole = whole_means s q; counts = evictions_go_on s.sets false (sym f) refl; runs = clock_goes_on s.sets false (sym f) refl }) (set_arrival input pid bytes) refl (set_taken bytes b input pid)

pub clear_pids : (s : Store) → HasPids s → HasPids (cleared_of s).store
unfolding cleared_of
clear_pids s h = go (whole_of s) (without_pid s.heads s.sets.used)
  where
    go : (b n : Bool) → HasPids (cond b (cond n (after (refused NoPid) s) (after done (store (empty_sets s.sets) s.heads s.slots s.cells))) (after (refused NotWhole) s)).store
    go true true = h
    go true false = λ i l z. absurd (omega (arith, l))
    go false n = h
