-- The PAT store in its record: what a push leaves of it stands there again, is whole, and a set that goes out is in row 0.
-- Assumes nothing.
use mathlib.Core.Path.{◌≡◌, refl, sym, ap, subst, ◌∙◌}
use mathlib.Core.Logic.{◌≢◌}
use mathlib.Core.Bool.{Bool, true, false, cond}
use mathlib.Core.List.{List, ◌++◌, append_assoc}
use Prim.Native.Nat.{ℕ, ◌+◌, ◌≤◌, ◌<◌}
use native.Mathlib.Omega.{arith}
use borrow.Author.Tests.{ne_eqb}
use lib.Dec.{eqb}
use borrow.Rule.Slice.PartMut.{put_mid, same_len_mid}
use lib.ListN.{length, get_or, take, drop, set, length-set, length-drop}
use lib.Seq.{paste, get_or-take, get_or-drop, take_all, length-take-le, drop-drop, length-paste, drop-set-lt, get_or-set_same, get_or-set_other}
use Rattle.ticks.proofs.Slots.{part_pasted}
use Rattle.std.specs.Prelude.{Option, Ok}
use Rattle.rows.specs.Rows.{touched, tick_of, with_mark}
use Rattle.rows.proofs.Words.{put_not, touched_newest, length_kept}
use Rattle.rows.specs.declared.Entry.{Entry}
use Rattle.without_pid.specs.Pids.{without_pid}
use Rattle.store.specs.Store.{Store, store, risen_sets, WholeStore}
use Rattle.store.specs.declared.Sets.{Sets}
use Rattle.store.proofs.Whole.{means_whole}
use Rattle.arrivals.specs.Arrivals.{set_arrival, Taken}
use Rattle.sets_plan.specs.Plan.{plan_of, PlanOk, Ready}
use Rattle.sets_plan.specs.declared.Plan.{Plan}
use Rattle.sets_plan.specs.declared.Plan.TheVariants as plan
use Rattle.sets_plan.proofs.May.{plan_ok}
use Rattle.sets_settle.specs.Settle.{Told, done, nothing, handed, refused, SetsAfter, set_in, answer_of, after_push, goes_out, settled_answer, settled_heads, settled, kept_in, carried}
use Rattle.sets_settle.specs.declared.PushAnswer.{PushAnswer}
use Rattle.sets_settle.specs.declared.PushAnswer.TheVariants.{Nothing, Set, Refused}
use Rattle.sets_settle.specs.declared.Pushed.{Pushed as Answered}
use Rattle.sets_push.specs.Pushing.{whole_pushed, admitted}
use Rattle.sets.specs.Store.{pushed_of}
use Rattle.sets.proofs.Stays.{whole_stays}
use Rattle.pats.specs.Store.{Record, record_of, pat_clock, pat_sets, pat_head, pat_store, with_store, pushed_by, pushed_in, PatsReady, Arrives, RowThere, Pushed}

-- ---- the clock of a store of one row

-- it is that row's tick, 0 where there is no row
abbrev pub Clocked : Store → Type 0
Clocked s = s.sets.clock ≡ cond (eqb s.sets.used 0) 0 (tick_of s.heads 0)

head_tick : (words : List ℕ) → get_or words 395 0 ≡ tick_of (pat_head words) 0
head_tick words = sym (get_or-take 12 (drop 386 words) 9 0 (omega arith) ∙ get_or-drop 386 words 9 0)

pub pat_clocked : (r : Record) → Clocked (pat_store r)
pat_clocked r = ap (λ (t : ℕ). cond (eqb (get_or r.words 384 0) 0) 0 t) (head_tick r.words)

-- ---- the counts and the head are where they were put

module _ (words : List ℕ) (s : Store) (h : 398 ≤ length words) (l : length s.heads ≡ 12) where
  pasted : length (paste words 386 s.heads 12) ≡ length words
  pasted = length-paste words 386 s.heads 12 h (omega arith)

  pub length_with : length (with_store words s) ≡ length words
  length_with = length-set (set (paste words 386 s.heads 12) 384 s.sets.used) 385 s.sets.evictions ∙ length-set (paste words 386 s.heads 12) 384 s.sets.used ∙ pasted

  with_used : get_or (with_store words s) 384 0 ≡ s.sets.used
  with_used =
      get_or-set_other (set (paste words 386 s.heads 12) 384 s.sets.used) 385 384 s.sets.evictions 0 (omega arith)
      ∙ get_or-set_same (paste words 386 s.heads 12) 384 s.sets.used 0 (rw pasted (omega arith))

  with_evictions : get_or (with_store words s) 385 0 ≡ s.sets.evictions
  with_evictions =
      get_or-set_same (set (paste words 386 s.heads 12) 384 s.sets.used) 385 s.sets.evictions 0
      (rw (length-set (paste words 386 s.heads 12) 384 s.sets.used, pasted) (omega arith))

  with_head : pat_head (with_store words s) ≡ s.heads
  with_head =
      rw (
        drop-set-lt 386 (set (paste words 386 s.heads 12) 384 s.sets.used) 385 s.sets.evictions (omega arith),
        drop-set-lt 386 (paste words 386 s.heads 12) 384 s.sets.used (omega arith),
        part_pasted words 386 s.heads 12 (omega arith) (omega arith),
      ) (take_all 12 s.heads (omega arith))

  with_clock : Clocked s → pat_clock (with_store words s) ≡ s.sets.clock
  with_clock k = rw (head_tick (with_store words s), with_used, with_head) (sym k)

  -- so the record has that store
  pub with_store_lem : s.sets.limit ≡ 1 → s.sets.size ≡ 1024 → s.sets.count ≡ 256 → Clocked s → pat_store (record_of (with_store words s) s.slots s.cells) ≡ s
  with_store_lem a b c k = λ i. record {
    sets = record { limit = sym a i; size = sym b i; count = sym c i; used = with_used i; evictions = with_evictions i; clock = with_clock k i };
    heads = with_head i;
    slots = s.slots;
    cells = s.cells;
  }

-- a part that was lent, and came back as long as it was
part_back : (words h : List ℕ) → length h ≡ 12 → put_mid 386 12 words h ≡ paste words 386 h 12
part_back words h l =
    sym (append_assoc (take 386 words) h (drop 12 (drop 386 words))) ∙ (λ i. (take 386 words ++ sym (take_all 12 h (omega arith)) i) ++ drop-drop 12 386 words i)

-- ---- what a push leaves

-- the settings stay
pub record Same (s t : Sets) : Type 0 where
  pub limit : t.limit ≡ s.limit
  pub size : t.size ≡ s.size
  pub count : t.count ≡ s.count

carried_same : (s : Store) (bytes : List ℕ) (p : Plan) → Same s.sets (carried s bytes p).store.sets
unfolding settled kept_in
carried_same s bytes (plan.Refuse r) = record { limit = refl; size = refl; count = refl }
carried_same s bytes plan.Silent = record { limit = refl; size = refl; count = refl }
carried_same s bytes (plan.Conflict i) = record { limit = refl; size = refl; count = refl }
carried_same s bytes (plan.Repeat i) = record { limit = refl; size = refl; count = refl }
carried_same s bytes (plan.Keep k) = record { limit = refl; size = refl; count = refl }

pub pushed_same : (s : Store) (e : Entry) (bytes : List ℕ) → Same s.sets (whole_pushed s e bytes).store.sets
unfolding whole_pushed
pushed_same s e bytes = carried_same s bytes (plan_of s e bytes)

-- so does the clock: it rises exactly where the row is touched, and the touch writes it there
row_clocked : (s : Store) (clock : ℕ) → s.sets.used ≢ 0 → tick_of s.heads 0 ≡ clock → s.sets.clock ≡ clock → Clocked s
row_clocked s clock u t c = rw (ne_eqb s.sets.used 0 u, t) c

settled_clocked : (s : Store) (i : ℕ) → i < s.sets.used → s.sets.used ≤ 1 → 12 ≤ length s.heads → Clocked (settled s i).store
unfolding settled settled_heads
settled_clocked s i h k l = row_clocked (settled s i).store (s.sets.clock + 1) (omega arith) (go (goes_out newer s.slots i)) refl
  where
    newer : List ℕ
    newer = touched (s.sets.clock + 1) i s.heads

    own : tick_of newer 0 ≡ s.sets.clock + 1
    own = let z : i ≡ 0 = omega arith in rw z (touched_newest (s.sets.clock + 1) 0 s.heads (omega arith))

    go : (b : Bool) → tick_of (cond b (with_mark i 1 newer) newer) 0 ≡ s.sets.clock + 1
    go true = put_not newer i 8 1 0 9 (omega arith) (omega arith) (omega arith) ∙ own
    go false = own

carried_clocked : (s : Store) (bytes : List ℕ) → s.sets.limit ≡ 1 → Clocked s → (p : Plan) → PlanOk s bytes p → Clocked (carried s bytes p).store
unfolding kept_in
carried_clocked s bytes l k (plan.Refuse r) o = k
carried_clocked s bytes l k plan.Silent o = k
carried_clocked s bytes l k (plan.Conflict i) o =
    let u = o.whole.used in
    let h = o.whole.heads_long in
    let r = o.row in
    let z : i ≡ 0 = omega arith in
    row_clocked (carried s bytes (plan.Conflict i)).store (s.sets.clock + 1) (omega arith) (rw z (touched_newest (s.sets.clock + 1) 0 s.heads (omega arith))) refl
carried_clocked s bytes l k (plan.Repeat i) o = let u = o.whole.used in let h = o.whole.heads_long in settled_clocked s i o.row (omega arith) (omega arith)
carried_clocked s bytes l k (plan.Keep m) o =
    let u = o.room.room in
    let h = o.whole.heads_long in
    let r = o.room.row in
    let n = length_kept m.room m.entry s.heads (omega arith) in
    settled_clocked (kept_in s bytes m) m.room.row o.room.row (omega arith) (omega arith)

pub pushed_clocked : (s : Store) (e : Entry) (bytes : List ℕ) → s.sets.limit ≡ 1 → Clocked s → Ready s → Taken bytes e → Clocked (whole_pushed s e bytes).store
unfolding whole_pushed
pushed_clocked s e bytes l k w t = carried_clocked s bytes l k (plan_of s e bytes) (plan_ok s w e bytes t)

-- a set that goes out is in row 0 of the one row
abbrev ToldRow : Told → ℕ → Type 0
ToldRow done used = Unit {0}
ToldRow nothing used = Unit {0}
ToldRow (handed h) used = (h.row ≡ 0) × (0 < used)
ToldRow (refused r) used = Unit {0}

settled_row : (s : Store) (i : ℕ) → i < s.sets.used → s.sets.used ≤ 1 → ToldRow (settled s i).told (settled s i).store.sets.used
unfolding settled settled_answer set_in
settled_row s i h k = go (goes_out (touched (s.sets.clock + 1) i s.heads) s.slots i)
  where
    go : (b : Bool)
        → ToldRow (answer_of (cond b (Set i) Nothing) (store (risen_sets s.sets) (settled_heads (s.sets.clock + 1) s.heads s.slots i) s.slots s.cells)) s.sets.used
    go true = (omega arith, omega arith)
    go false = tt

carried_row : (s : Store) (bytes : List ℕ) → s.sets.limit ≡ 1 → (p : Plan) → PlanOk s bytes p → ToldRow (carried s bytes p).told (carried s bytes p).store.sets.used
unfolding kept_in
carried_row s bytes l (plan.Refuse r) o = tt
carried_row s bytes l plan.Silent o = tt
carried_row s bytes l (plan.Conflict i) o = tt
carried_row s bytes l (plan.Repeat i) o = let u = o.whole.used in settled_row s i o.row (omega arith)
carried_row s bytes l (plan.Keep k) o = let u = o.room.room in settled_row (kept_in s bytes k) k.room.row o.room.row (omega arith)

pushed_row : (s : Store) (e : Entry) (bytes : List ℕ) → s.sets.limit ≡ 1 → Ready s → Taken bytes e → ToldRow (whole_pushed s e bytes).told (whole_pushed s e bytes).store.sets.used
unfolding whole_pushed
pushed_row s e bytes l w t = carried_row s bytes l (plan_of s e bytes) (plan_ok s w e bytes t)

row_there_lem : (a : PushAnswer) (s : Store) → ToldRow (answer_of a s) s.sets.used → RowThere a s
unfolding set_in
row_there_lem Nothing s o = tt
row_there_lem (Set i) s o = o
row_there_lem (Refused r) s o = tt

-- ---- pushing is the set collector's push, once 10, 11 and 41 have been asked

pub pushed_as_lem : (s : Store) → Ready s → without_pid s.heads s.sets.used ≡ false → (input : ℕ) (pid : Option ℕ) (bytes : List ℕ) (e : Entry) → set_arrival input pid bytes ≡ Ok e
    → pushed_of s input pid bytes ≡ whole_pushed s e bytes
unfolding pushed_of admitted
pushed_as_lem s o n input pid bytes e q = rw (means_whole s o.whole, ne_eqb s.sets.evictions 18446744073709551615 o.counts, ne_eqb s.sets.clock 18446744073709551615 o.runs, n, q)

pub pushed_whole_lem : (s : Store) (e : Entry) (bytes : List ℕ) → Ready s → Arrives bytes e → WholeStore (whole_pushed s e bytes).store
pushed_whole_lem s e bytes o a = whole_stays s e bytes o a.taken

-- ---- the push of the crate: the part comes back, the counts are written

module _ (words slots cells section : List ℕ) (e : Entry) (o : PatsReady (record_of words slots cells)) (a : Arrives section e) where
  abbrev r : Record
  r = record_of words slots cells

  abbrev left : SetsAfter
  left = whole_pushed (pat_store r) e section

  module _ (p : Answered) (h l b : List ℕ) (n : length h ≡ 12) (q : after_push p h l b ≡ left) where
    abbrev then : Store
    then = store p.sets h l b

    abbrev words' : List ℕ
    words' = set (set (put_mid 386 12 words h) 384 p.sets.used) 385 p.sets.evictions

    is_left : then ≡ left.store
    is_left = ap (λ (k : SetsAfter). k.store) q

    same : Same (pat_sets words) p.sets
    same = subst (λ (k : Store). Same (pat_sets words) k.sets) (sym is_left) (pushed_same (pat_store r) e section)

    clocked : Clocked then
    clocked = subst Clocked (sym is_left) (pushed_clocked (pat_store r) e section refl (pat_clocked r) o.ready a.taken)

    is_written : words' ≡ with_store words then
    is_written = ap (λ (w : List ℕ). set (set w 384 p.sets.used) 385 p.sets.evictions) (part_back words h n)

    is_then : pat_store (record_of words' l b) ≡ then
    is_then = ap (λ (w : List ℕ). pat_store (record_of w l b)) is_written ∙ with_store_lem words then o.words n same.limit same.size same.count clocked

    push_done : pushed_by p.answer words' l b ≡ pushed_in r left
    push_done =
        ap (λ (s : Store). record { told = answer_of p.answer s; then = record_of words' l b }) is_then
        ∙ ap (λ (w : List ℕ). record { told = answer_of p.answer then; then = record_of w l b }) is_written ∙ ap (pushed_in r) q

    push_left : Pushed p.answer (record_of words' l b)
    push_left = record {
      words = rw (is_written, length_with words then o.words n) o.words;
      whole = subst WholeStore (sym (is_then ∙ is_left)) (pushed_whole_lem (pat_store r) e section o.ready a);
      row = subst (RowThere p.answer) (sym is_then) (row_there_lem p.answer then
          (subst (λ (k : SetsAfter). ToldRow k.told k.store.sets.used) (sym q) (pushed_row (pat_store r) e section refl o.ready a.taken)));
    }

  pub push_all : (t : Sets) (p : Answered) (h l b : List ℕ) → t ≡ pat_sets words → length h ≡ length (take 12 (drop 386 words)) → after_push p h l b ≡ whole_pushed (store t (pat_head words) slots cells) e section
      → (pushed_by p.answer (set (set (put_mid 386 12 words h) 384 p.sets.used) 385 p.sets.evictions) l b ≡ pushed_in r left)
      × Pushed p.answer (record_of (set (set (put_mid 386 12 words h) 384 p.sets.used) 385 p.sets.evictions) l b)
  push_all t p h l b f n q =
      let d = o.words in
      let n' : length h ≡ 12 = n ∙ length-take-le 12 (drop 386 words) (rw (length-drop 386 words) (omega arith)) in
      let q' : after_push p h l b ≡ left = q ∙ ap (λ (k : Sets). whole_pushed (store k (pat_head words) slots cells) e section) f in
      (push_done p h l b n' q', push_left p h l b n' q')

-- what it asks of its parts
pub push_may : (words slots cells section : List ℕ) (e : Entry) (t : Sets) → PatsReady (record_of words slots cells) → Arrives section e → t ≡ pat_sets words
    → Ready (store t (pat_head words) slots cells) × Taken section e
push_may words slots cells section e t o a q = (subst (λ (k : Sets). Ready (store k (pat_head words) slots cells)) (sym q) o.ready, a.taken)

pub write_fits : (words h : List ℕ) (u : ℕ) → 398 ≤ length words → length h ≡ length (take 12 (drop 386 words)) → 385 < length (set (put_mid 386 12 words h) 384 u)
write_fits words h u o l = rw (length-set (put_mid 386 12 words h) 384 u, same_len_mid 386 12 words h l) (omega arith)
