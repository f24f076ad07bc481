-- A store that is whole stays whole, so in every history from opening on 10 never occurs.
-- Assumes nothing.
use mathlib.Core.Path.{◌≡◌, refl, ap, subst, ◌∙◌}
use mathlib.Core.Logic.{◌≢◌}
use mathlib.Core.List.{List, [], ◌∷◌}
use mathlib.Core.Bool.{Bool, true, false, cond}
use Prim.Native.Nat.{ℕ, ◌+◌, ◌*◌, ◌/◌, ◌%◌, ◌≤◌, ◌<◌}
use native.Mathlib.Nat.{le_refl}
use native.Mathlib.Decide.{ℕ_discrete}
use native.Mathlib.Omega.{arith}
use borrow.Author.Tests.{ne_eqb, eqb-false, le-leb, lt-ltb}
use lib.Dec.{eqb, ltb}
use lib.ListN.{length, get_or}
use lib.Seq.{paste, length-paste}
use Rattle.answers.specs.Answers.{refusal_no}
use Rattle.answers.specs.declared.Refusal.{Refusal}
use Rattle.answers.specs.declared.Refusal.TheVariants.{NotWhole, CounterFull, TooLittle, NoPid, TooLong, NoCell, Conflict}
use Rattle.std.specs.Prelude.{Option, Result, Ok, Err}
use Rattle.cells.specs.Cells.{slot_word, slot_whole, lowest_free}
use Rattle.rows.specs.Rows.{touched, gone_row, kept_heads, slots_at, slot_count, kept_slots, rows_whole, taken_in, last_of, with_mark}
use Rattle.rows.proofs.Words.{put_not, length_put, length_touched, touched_not, length_kept, kept_row, kept_fresh, kept_known, length_kept_slots, kept_slot, kept_other, kept_empty, kept_same}
use Rattle.rows.proofs.Whole.{slot_get, slot_all}
use Rattle.rows.specs.declared.Entry.{Entry}
use Rattle.rows.specs.declared.Room.{Room}
use Rattle.without_pid.specs.Pids.{without_pid}
use Rattle.store.specs.Store.{Store, store, empty_sets, risen_sets, settings_fit, whole_of, counters_full, Whole, WholeStore}
use Rattle.store.specs.declared.Sets.{Sets}
use Rattle.store.proofs.Whole.{long, means_whole, cell_fits}
use Rattle.arrivals.specs.Arrivals.{set_arrival, Taken}
use Rattle.sets.proofs.Arrived.{set_not_ten}
use Rattle.sets_settle.specs.declared.PushAnswer.{PushAnswer}
use Rattle.sets_settle.specs.declared.PushAnswer.TheVariants.{Nothing, Set, Refused}
use Rattle.sets_plan.specs.declared.Keeping.{Keeping}
use Rattle.sets_plan.specs.declared.Plan.{Plan}
use Rattle.sets_plan.specs.declared.Plan.TheVariants as plan
use Rattle.sets_plan.specs.Plan.{plan_keep, plan_of, Ready, KeepOk, PlanOk}
use Rattle.sets_settle.specs.Settle.{Told, done, nothing, handed, refused, after, answer_of, goes_out, settled_answer, settled_heads, settled, kept_in, carried}
use Rattle.sets_push.specs.Pushing.{whole_pushed, admitted, AdmittedOk}
use Rattle.sets.specs.Store.{pushed_as, pushed_of, cleared_of, opened_of}
use Rattle.sets.specs.History.{Call, offer, empty, called, after_all, Bytes, AllBytes, OpenedStore}
use Rattle.sets_plan.proofs.May.{plan_ok}
use Rattle.sets_push.proofs.Ways.{admitted_ok}
use Rattle.sets_plan.proofs.Every.{plan_by}

-- ---- heads that differ in no last_section_number

heads_whole : (s : Sets) (heads heads' slots cells : List ℕ) → ((j : ℕ) → last_of heads' j ≡ last_of heads j) → length heads' ≡ length heads → Whole s heads slots cells → Whole (risen_sets s) heads' slots cells
heads_whole s heads heads' slots cells e l w =
    let u = w.used in
    let sl = w.slots_long in
    record {
      size_low = w.size_low;
      size_high = w.size_high;
      few = w.few;
      used = w.used;
      heads_long = let h = w.heads_long in omega arith;
      slots_long = w.slots_long;
      cells_long = w.cells_long;
      rows = slot_all heads' slots s.count s.size s.used (omega arith) (λ i k h hk.
          slot_get heads slots s.count s.size s.used i k w.rows h (omega arith) (rw (e i) at hk));
    }

settled_last : (clock i : ℕ) (heads slots : List ℕ) (j : ℕ) → last_of (settled_heads clock heads slots i) j ≡ last_of heads j
unfolding settled_heads
settled_last clock i heads slots j = go (goes_out (touched clock i heads) slots i)
  where
    go : (b : Bool) → last_of (cond b (with_mark i 1 (touched clock i heads)) (touched clock i heads)) j ≡ last_of heads j
    go true = put_not (touched clock i heads) i 8 1 j 7 (omega arith) (omega arith) (omega arith) ∙ touched_not clock i heads j 7 (omega arith) (omega arith)
    go false = touched_not clock i heads j 7 (omega arith) (omega arith)

settled_length : (clock i : ℕ) (heads slots : List ℕ) → length (settled_heads clock heads slots i) ≡ length heads
unfolding settled_heads
settled_length clock i heads slots = go (goes_out (touched clock i heads) slots i)
  where
    go : (b : Bool) → length (cond b (with_mark i 1 (touched clock i heads)) (touched clock i heads)) ≡ length heads
    go true = length_put i 8 1 (touched clock i heads) ∙ length_touched clock i heads
    go false = length_touched clock i heads

settled_whole : (s : Store) (i : ℕ) → WholeStore s → WholeStore (settled s i).store
unfolding settled
settled_whole s i w =
    heads_whole s.sets s.heads (settled_heads (s.sets.clock + 1) s.heads s.slots i) s.slots s.cells
    (settled_last (s.sets.clock + 1) i s.heads s.slots) (settled_length (s.sets.clock + 1) i s.heads s.slots) w

-- ---- a section is kept

new_whole : (n c count size : ℕ) → 12 ≤ n → n ≤ size → c < count → count ≤ 65535 → slot_whole count size (slot_word n c) ≡ true
unfolding slot_whole
new_whole n c count size a b h l =
    let p : (n * 65536 + c) / 65536 ≡ n = omega arith in
    let q : (n * 65536 + c) % 65536 ≡ c = omega arith in
    let ne : n ≢ 0 = omega arith in
    rw (p, q, ne_eqb n 0 ne, le-leb 12 n a, le-leb n size b, lt-ltb c count h)

empty_whole : (count size : ℕ) → slot_whole count size 0 ≡ true
unfolding slot_whole
empty_whole count size = refl

module _ (s : Store) (bytes : List ℕ) (k : Keeping) (o : KeepOk s bytes k) where
  abbrev r : Room
  r = k.room

  abbrev e : Entry
  e = k.entry

  abbrev w' : ℕ
  w' = slot_word (length bytes) k.cell

  abbrev RowGood : ℕ → Type 0
  RowGood w = slot_whole s.sets.count s.sets.size w ≡ true

  head_room : r.row * 12 + 12 ≤ length s.heads
  head_room = let a = o.whole.heads_long in let b = o.room.room in let c = o.room.row in omega arith

  slot_room : r.row * 288 + 288 ≤ length s.slots
  slot_room = let a = o.whole.slots_long in let b = o.room.room in let c = o.room.row in omega arith

  new_slots : List ℕ
  new_slots = kept_slots r e w' s.slots

  old_ok : (j m : ℕ) → j < s.sets.used → m < slot_count (last_of s.heads j) → RowGood (get_or s.slots (slots_at j + m) 0)
  old_ok j m h l =
      let a = o.whole.slots_long in
      let b = o.whole.used in
      slot_get s.heads s.slots s.sets.count s.sets.size s.sets.used j m o.whole.rows h (omega arith) l

  own_ok : (b : Bool) → r.fresh ≡ b → (m : ℕ) → m < slot_count (last_of (kept_heads r e s.heads) r.row) → Dec (m ≡ e.number) → RowGood (get_or new_slots (slots_at r.row + m) 0)
  unfolding new_slots
  own_ok b f m l (yes q) =
      rw (q, kept_slot r e w' s.slots slot_room o.numbered.number o.numbered.last)
      (new_whole (length bytes) k.cell s.sets.count s.sets.size o.long o.fits o.cell o.whole.few)
  own_ok true f m l (no d) =
      let last : last_of (kept_heads r e s.heads) r.row ≡ e.last = kept_fresh r e s.heads head_room f 7 (omega arith) in
      rw (kept_empty r e w' s.slots slot_room o.numbered.number o.numbered.last f m d (omega (arith, last))) (empty_whole s.sets.count s.sets.size)
  own_ok false f m l (no d) =
      let last : last_of (kept_heads r e s.heads) r.row ≡ last_of s.heads r.row = kept_known r e s.heads head_room f 7 (omega arith) (omega arith) in
      rw (kept_same r e w' s.slots slot_room o.numbered.number o.numbered.last f m d) (old_ok r.row m (o.room.known f) (omega (arith, last)))

  each : (j m : ℕ) → j < r.used → m < slot_count (last_of (kept_heads r e s.heads) j) → Dec (j ≡ r.row) → RowGood (get_or new_slots (slots_at j + m) 0)
  unfolding new_slots
  each j m h l (yes q) = rw q (own_ok r.fresh refl m (subst (λ (n : ℕ). m < slot_count (last_of (kept_heads r e s.heads) n)) q l) (ℕ_discrete m e.number))
  each j m h l (no d) =
      let last : last_of (kept_heads r e s.heads) j ≡ last_of s.heads j = kept_row r e s.heads head_room j 7 d (omega arith) in
      let a = o.room.next in
      let b = o.room.all in
      let d' : j ≢ r.row = d in
      rw (kept_other r e w' s.slots slot_room o.numbered.number o.numbered.last j m d (omega (arith, last))) (old_ok j m (omega arith) (omega (arith, last)))

  kept_whole : WholeStore (kept_in s bytes k)
  unfolding kept_in new_slots
  kept_whole =
      let w = o.whole in
      let hl : length (kept_heads r e s.heads) ≡ length s.heads = length_kept r e s.heads head_room in
      let sl : length (kept_slots r e w' s.slots) ≡ length s.slots = length_kept_slots r e w' s.slots slot_room o.numbered.number o.numbered.last in
      let room : k.cell * s.sets.size + length bytes ≤ length s.cells = cell_fits s.sets s.heads s.slots s.cells (length bytes) k.cell w o.cell o.fits in
      let cl : length (paste s.cells (k.cell * s.sets.size) bytes (length bytes)) ≡ length s.cells = length-paste s.cells (k.cell * s.sets.size) bytes (length bytes) room (le_refl (length bytes)) in
      record {
        size_low = w.size_low;
        size_high = w.size_high;
        few = w.few;
        used = o.room.room;
        heads_long = let h = w.heads_long in omega arith;
        slots_long = let h = w.slots_long in omega arith;
        cells_long = let h = w.cells_long in omega arith;
        rows = slot_all (kept_heads r e s.heads) (kept_slots r e w' s.slots) s.sets.count s.sets.size r.used (let h = w.slots_long in let u = o.room.room in omega arith)
            (λ j m h l. each j m h l (ℕ_discrete j r.row));
      }

-- ---- every plan, every call

carried_whole : (s : Store) (bytes : List ℕ) → WholeStore s → (p : Plan) → PlanOk s bytes p → WholeStore (carried s bytes p).store
carried_whole s bytes w (plan.Refuse r) o = w
carried_whole s bytes w plan.Silent o = w
carried_whole s bytes w (plan.Conflict i) o =
    heads_whole s.sets s.heads (touched (s.sets.clock + 1) i s.heads) s.slots s.cells (λ j. touched_not (s.sets.clock + 1) i s.heads j 7 (omega arith) (omega arith))
    (length_touched (s.sets.clock + 1) i s.heads) w
carried_whole s bytes w (plan.Repeat i) o = settled_whole s i w
carried_whole s bytes w (plan.Keep k) o = settled_whole (kept_in s bytes k) k.room.row (kept_whole s bytes k o)

-- the part behind the refusals: whatever a section came with, a store that is whole stays whole
pub whole_stays : (s : Store) (e : Entry) (bytes : List ℕ) → Ready s → Taken bytes e → WholeStore (whole_pushed s e bytes).store
unfolding whole_pushed
whole_stays s e bytes w t = carried_whole s bytes w.whole (plan_of s e bytes) (plan_ok s w e bytes t)

pushed_whole_lem : (s : Store) (bytes : List ℕ) → WholeStore s → (a : Result Entry Refusal) → AdmittedOk s bytes a → WholeStore (pushed_as s bytes a).store
pushed_whole_lem s bytes w (Err r) o = w
pushed_whole_lem s bytes w (Ok e) o = whole_stays s e bytes o.0 o.1

pub push_stays : (s : Store) (input : ℕ) (pid : Option ℕ) (bytes : List ℕ) → get_or bytes 7 0 < 256 → WholeStore s → WholeStore (pushed_of s input pid bytes).store
unfolding pushed_of
push_stays s input pid bytes b w = pushed_whole_lem s bytes w (admitted s input pid bytes) (admitted_ok s bytes input pid b)

pub clear_stays : (s : Store) → WholeStore s → WholeStore (cleared_of s).store
unfolding cleared_of
clear_stays s w = rw (means_whole s w) (go (without_pid s.heads s.sets.used))
  where
    none : (heads slots : List ℕ) (count size : ℕ) → rows_whole heads slots count size 0 ≡ true
    none heads slots count size = slot_all heads slots count size 0 (omega arith) (λ i k h l. absurd (omega arith))

    go : (n : Bool) → WholeStore (cond n (after (refused NoPid) s) (after done (store (empty_sets s.sets) s.heads s.slots s.cells))).store
    go true = w
    go false = record {
      size_low = w.size_low;
      size_high = w.size_high;
      few = w.few;
      used = omega arith;
      heads_long = w.heads_long;
      slots_long = w.slots_long;
      cells_long = w.cells_long;
      rows = none s.heads s.slots s.sets.count s.sets.size;
    }

pub call_stays : (s : Store) (c : Call) → Bytes c → WholeStore s → WholeStore (called s c).store
call_stays s (offer input pid bytes) b w = push_stays s input pid bytes (b 7) w
call_stays s empty b w = clear_stays s w

-- in every history
pub stays : (s : Store) (cs : List Call) → AllBytes cs → WholeStore s → WholeStore (after_all s cs)
unfolding after_all
stays s [] b w = w
stays s (c ∷ cs) b w = stays (called s c).store cs b.1 (call_stays s c b.0 w)

-- ---- opening

fit_done : (b : Bool) → cond b done (refused TooLittle) ≡ done → b ≡ true
fit_done true e = refl
fit_done false e = let z : ◌≡◌ {A = ℕ} 0 1 = cc in absurd (omega arith)

pub opened_whole : (s : Store) → OpenedStore s → WholeStore s
unfolding opened_of
opened_whole s o =
    let g = long s.sets (length s.heads) (length s.slots) (length s.cells) (fit_done (settings_fit s.sets (length s.heads) (length s.slots) (length s.cells)) o.opened) in
    let z = o.none in
    record {
      size_low = g.size_low;
      size_high = g.size_high;
      few = g.few;
      used = omega arith;
      heads_long = g.heads_long;
      slots_long = g.slots_long;
      cells_long = g.cells_long;
      rows = slot_all s.heads s.slots s.sets.count s.sets.size s.sets.used (omega arith) (λ i k h l. absurd (omega arith));
    }

-- ---- a whole store never answers 10

-- whether 10 is told
ten : Told → Bool
ten done = false
ten nothing = false
ten (handed h) = false
ten (refused r) = eqb (refusal_no r) 10

not_ten : (t : Told) → ten t ≡ false → t ≢ refused NotWhole
unfolding ten
not_ten done e q = let z : ◌≡◌ {A = ℕ} 0 1 = cc in omega arith
not_ten nothing e q = let z : ◌≡◌ {A = ℕ} 0 1 = cc in omega arith
not_ten (handed h) e q = let z : ◌≡◌ {A = ℕ} 0 1 = cc in omega arith
not_ten (refused r) e q = let z : r ≡ NotWhole = cc in eqb-false (refusal_no r) 10 e (ap refusal_no z)

ten_settled : (s : Store) (i : ℕ) → ten (settled s i).told ≡ false
unfolding settled settled_answer ten
ten_settled s i = go (goes_out (touched (s.sets.clock + 1) i s.heads) s.slots i)
  where
    after_it : Store
    after_it = store (risen_sets s.sets) (settled_heads (s.sets.clock + 1) s.heads s.slots i) s.slots s.cells

    go : (b : Bool) → ten (answer_of (cond b (Set i) Nothing) after_it) ≡ false
    go true = refl
    go false = refl

-- no plan tells 10
ten_planned : (s : Store) (e : Entry) (bytes : List ℕ) → ten (whole_pushed s e bytes).told ≡ false
unfolding whole_pushed ten plan_keep
ten_planned s e bytes = plan_by s e bytes (λ p. ten (carried s bytes p).told ≡ false) refl refl (λ i. ten_settled s i) (λ i. refl) keep_not
  where
    keep_not : (r : Room) → ten (carried s bytes (plan_keep s e r)).told ≡ false
    keep_not r = go (lowest_free (taken_in s.heads s.slots (gone_row r s.sets.used) s.sets.used) s.sets.count)
      where
        at : (b : Bool) (c : ℕ) → ten (carried s bytes (cond b (plan.Keep (record { entry = e; room = r; cell = c })) (plan.Refuse NoCell))).told ≡ false
        at true c = ten_settled (kept_in s bytes (record { entry = e; room = r; cell = c })) r.row
        at false c = refl

        go : (c : ℕ) → ten (carried s bytes (cond (ltb c s.sets.count) (plan.Keep (record { entry = e; room = r; cell = c })) (plan.Refuse NoCell))).told ≡ false
        go c = at (ltb c s.sets.count) c

ten_pushed : (s : Store) (input : ℕ) (pid : Option ℕ) (bytes : List ℕ) → whole_of s ≡ true → ten (pushed_of s input pid bytes).told ≡ false
unfolding pushed_of admitted ten
ten_pushed s input pid bytes w = rw w (go (counters_full s.sets) (without_pid s.heads s.sets.used))
  where
    arrived : (a : Result Entry Refusal) → set_arrival input pid bytes ≡ a → ten (pushed_as s bytes a).told ≡ false
    arrived (Err r) q = set_not_ten input pid bytes r q
    arrived (Ok e) q = ten_planned s e bytes

    go : (b n : Bool) → ten (pushed_as s bytes (cond b (Err CounterFull) (cond n (Err NoPid) (set_arrival input pid bytes)))).told ≡ false
    go true n = refl
    go false true = refl
    go false false = arrived (set_arrival input pid bytes) refl

pub push_not_ten : (s : Store) (input : ℕ) (pid : Option ℕ) (bytes : List ℕ) → WholeStore s → (pushed_of s input pid bytes).told ≢ refused NotWhole
push_not_ten s input pid bytes w = not_ten (pushed_of s input pid bytes).told (ten_pushed s input pid bytes (means_whole s w))

pub clear_not_ten : (s : Store) → WholeStore s → (cleared_of s).told ≢ refused NotWhole
unfolding cleared_of
clear_not_ten s w = rw (means_whole s w) (go (without_pid s.heads s.sets.used))
  where
    go : (n : Bool) → (cond n (after (refused NoPid) s) (after done (store (empty_sets s.sets) s.heads s.slots s.cells))).told ≢ refused NotWhole
    go true q = let e : NoPid ≡ NotWhole = cc in let z : refusal_no NoPid ≡ refusal_no NotWhole = ap refusal_no e in omega (arith, z)
    go false q = let z : ◌≡◌ {A = ℕ} 0 1 = cc in omega arith

-- after every sequence of calls on an opened collector, the next call does not answer 10
pub never_ten : (s : Store) → OpenedStore s → (cs : List Call) → AllBytes cs → (c : Call) → (called (after_all s cs) c).told ≢ refused NotWhole
never_ten s o cs b c = go c
  where
    w : WholeStore (after_all s cs)
    w = stays s cs b (opened_whole s o)

    go : (c : Call) → (called (after_all s cs) c).told ≢ refused NotWhole
    go (offer input pid bytes) = push_not_ten (after_all s cs) input pid bytes w
    go empty = clear_not_ten (after_all s cs) w
