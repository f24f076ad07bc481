-- The EIT collector's sets: what a host reads out of a row in use is what its filled slots keep; after an answer 5 these are the sections that were
-- handed out.
-- Assumes nothing.
use Prim.Native.Nat.{ℕ, ◌<◌}
use native.Mathlib.Omega.{arith}
use mathlib.Core.Path.{◌≡◌, refl, sym, ap, ◌∙◌, subst}
use mathlib.Core.List.{List, map}
use mathlib.Core.Bool.{true, false}
use lib.ListN.{get_or}
use borrow.Author.Tests.{lt-ltb}
use Rattle.laws.proofs.Tests.{and_true}
use Rattle.laws.specs.Runs.{store_after}
use Rattle.answers.specs.declared.Refusal.{Refusal}
use Rattle.rules_shared.specs.Same.{Bytes}
use Rattle.rules_eit.specs.Schedules.{WholeOf}
use Rattle.rules_eit.specs.Rules as rules
use Rattle.rules_eit.specs.Rules.{Answer, handout}
use Rattle.rules_eit.specs.Cells.{call_tells}
use Rattle.std.specs.Prelude.{Option, Result, Ok, Err}
use Rattle.arrivals.specs.declared.Arrival.{Arrival}
use Rattle.cells.specs.Cells.{kept}
use Rattle.rows.specs.Rows.{row_slots}
use Rattle.rows.proofs.Whole.{rows_get}
use Rattle.readers.specs.Next.{filled_slots}
use Rattle.readers.specs.declared.Next.{Next}
use Rattle.reading.specs.Reading.{asks, Reads}
use Rattle.reading.proofs.Reading.{reads_all}
use Rattle.eit_state.specs.declared.PushAnswer.{PushAnswer}
use Rattle.eit_state.specs.declared.PushAnswer.TheVariants as answer
use Rattle.eit_state.specs.State.{Store, rows_of, set_store, whole_of, Whole}
use Rattle.eit_state.proofs.Whole.{whole_store}
use Rattle.eit_pids.specs.Rows.{any_without}
use Rattle.eit_carry.specs.Carried.{Step}
use Rattle.eit.specs.Store.{SetOut, set_out_lem, ScheduleOut, schedule_out, Told, done, nothing, a_set, a_schedule, refused, answer_of, pushed_as, pushed_of, next_of}
use Rattle.eit_admit.specs.Admitting.{admitted}
use Rattle.eit_carry.specs.Carried.{pushed_whole}
use Rattle.ties_eit.specs.View.{Given, section, Fitting, seen, reads, tells, acts, answer_told, Opened, Reached}
use Rattle.ties_eit.proofs.History.{EachFitting, opened_reached, tells_seen, acts_reached, opened_whole, stays_whole, always_whole}
use Rattle.ties_eit.proofs.Pids.{each_has_pid}
use Rattle.ties_reading.proofs.Rows.{ToldRow, told_row}

-- ---- a row in use

-- where every set and every schedule has a PID, every question about a row in use is one about its slots
asked_of_row : (s : Store) → whole_of s ≡ true → any_without s.eit s.heads s.schedule_heads ≡ false → (row : ℕ) → row < s.eit.sets.used → (from : ℕ)
    → next_of s row from ≡ asks s.eit.sets.size (row_slots s.heads s.slots row) from
unfolding next_of
asked_of_row s w n row r from = rw (w, n, lt-ltb row s.eit.sets.used r) refl

-- so what is read are its filled slots' bytes in order, each once, and then no: 10 and 41 never occur in the reading
pub reads_row : (s : Store) → whole_of s ≡ true → any_without s.eit s.heads s.schedule_heads ≡ false → (row : ℕ) → row < s.eit.sets.used
    → Reads (next_of s row) s.cells 0 (map (kept s.cells s.eit.sets.size) (filled_slots (row_slots s.heads s.slots row))) (Ok false)
reads_row s w n row r =
    let f = whole_store s w in
    subst (λ (f : ℕ → Next). Reads f s.cells 0 (map (kept s.cells s.eit.sets.size) (filled_slots (row_slots s.heads s.slots row))) (Ok false))
    (λ i from. sym (asked_of_row s w n row r from) i)
    (reads_all s.eit.sets.count s.eit.sets.size s.cells (row_slots s.heads s.slots row)
    (rows_get s.heads s.slots s.eit.sets.count s.eit.sets.size s.eit.sets.used row f.sets.rows r) f.sets.cells_long)

-- ---- what was told

unfoldable pub kind_of_lem : Told → ℕ
kind_of_lem done = 0
kind_of_lem nothing = 0
kind_of_lem (a_set h) = 1
kind_of_lem (a_schedule g) = 2
kind_of_lem (refused r) = 0

abbrev pub set_in : Told → SetOut → SetOut
set_in done d = d
set_in nothing d = d
set_in (a_set h) d = h
set_in (a_schedule g) d = d
set_in (refused r) d = d

abbrev pub schedule_in : Told → ScheduleOut → ScheduleOut
schedule_in done d = d
schedule_in nothing d = d
schedule_in (a_set h) d = d
schedule_in (a_schedule g) d = g
schedule_in (refused r) d = d

pub apart : {n m : ℕ} (t u : Told) → kind_of_lem t ≡ n → kind_of_lem u ≡ m → (n ≡ m → ⊥) → t ≡ u → ⊥
apart t u p q d e = d (sym p ∙ ap kind_of_lem e ∙ q)

-- a set that is told is in its row, which is in use
pub record SetTold (h : SetOut) (t : Store) : Type 0 where
  pub set : h ≡ set_out_lem t h.row
  pub used : h.row < t.eit.sets.used

step_set : (a : PushAnswer) (t : Store) (h : SetOut) → ToldRow a (rows_of t) → answer_of a t ≡ a_set h → SetTold h t
unfolding kind_of_lem set_out_lem
step_set answer.Nothing t h o e = absurd (apart nothing (a_set h) refl refl (λ z. absurd (omega (arith, z))) e)
step_set (answer.Set i) t h o e =
    let p : set_out_lem t i ≡ h = ap (λ (x : Told). set_in x h) e in
    let r : i ≡ h.row = ap (λ (x : SetOut). x.row) p in
    record { set = sym p ∙ ap (set_out_lem t) r; used = subst (λ (k : ℕ). k < t.eit.sets.used) r o }
step_set (answer.Schedule k) t h o e = absurd (apart (a_schedule (schedule_out t k)) (a_set h) refl refl (λ z. absurd (omega (arith, z))) e)
step_set (answer.Refused r) t h o e = absurd (apart (refused r) (a_set h) refl refl (λ z. absurd (omega (arith, z))) e)

pub told_set : (s : Store) → whole_of s ≡ true → (input : ℕ) (pid : Option ℕ) (bytes : Bytes) (h : SetOut) → (pushed_of s input pid bytes).told ≡ a_set h → SetTold h (pushed_of s input pid bytes).store
unfolding pushed_of kind_of_lem
told_set s w input pid bytes h e = go (admitted s input pid bytes) e
  where
    go : (v : Result Arrival Refusal) → (pushed_as s bytes v).told ≡ a_set h → SetTold h (pushed_as s bytes v).store
    go (Err r) e = absurd (apart (refused r) (a_set h) refl refl (λ z. absurd (omega (arith, z))) e)
    go (Ok a) e = step_set (pushed_whole s bytes a).answer (pushed_whole s bytes a).store h (told_row s (whole_store s w) bytes a) e

-- ---- after an answer 5

-- the store that a push leaves is whole
pub push_whole : (s : Store) → Reached s → whole_of s ≡ true → (input : ℕ) (pid : Option ℕ) (bytes : Bytes) → ((i : ℕ) → get_or bytes i 0 < 256) → whole_of (pushed_of s input pid bytes).store ≡ true
unfolding acts
push_whole s z w input pid bytes o = stays_whole s z w (section input pid bytes) o

-- and each of its sets and schedules has a PID
pub push_pids : (s : Store) → Reached s → (input : ℕ) (pid : Option ℕ) (bytes : Bytes) → ((i : ℕ) → get_or bytes i 0 < 256)
    → any_without (pushed_of s input pid bytes).store.eit (pushed_of s input pid bytes).store.heads (pushed_of s input pid bytes).store.schedule_heads ≡ false
unfolding acts
push_pids s z input pid bytes o = each_has_pid (pushed_of s input pid bytes).store (acts_reached s z (section input pid bytes) o)

-- What a host reads out of the row that it was told of, asking from 0 on, are the sections that were handed out, byte for byte; then the answer is no
pub read_handed : (s : Store) → Reached s → whole_of s ≡ true → (input : ℕ) (pid : Option ℕ) (bytes : Bytes) → ((i : ℕ) → get_or bytes i 0 < 256) → (h : SetOut) → (pushed_of s input pid bytes).told ≡ a_set h
    → Reads (next_of (pushed_of s input pid bytes).store h.row) (pushed_of s input pid bytes).store.cells 0 h.sections (Ok false)
unfolding set_out_lem
read_handed s z w input pid bytes o h e =
    let t : Store = (pushed_of s input pid bytes).store in
    let x = told_set s w input pid bytes h e in
    let d : h.sections ≡ map (kept t.cells t.eit.sets.size) (filled_slots (row_slots t.heads t.slots h.row)) = ap (λ (y : SetOut). y.sections) x.set in
    subst (λ (l : List Bytes). Reads (next_of t h.row) t.cells 0 l (Ok false)) (sym d)
    (reads_row t (push_whole s z w input pid bytes o) (push_pids s z input pid bytes o) h.row x.used)

-- .. in every history from an opening on
pub read_in_every_history : (s : Store) → Opened s → (calls : List Given) → EachFitting calls → (input : ℕ) (pid : Option ℕ) (bytes : Bytes) → ((i : ℕ) → get_or bytes i 0 < 256) → (h : SetOut)
    → (pushed_of (store_after acts s calls) input pid bytes).told ≡ a_set h
    → Reads (next_of (pushed_of (store_after acts s calls) input pid bytes).store h.row) (pushed_of (store_after acts s calls) input pid bytes).store.cells 0 h.sections (Ok false)
read_in_every_history s o calls f =
    let w = always_whole calls f s (opened_reached s o) (opened_whole s o) in
    read_handed (store_after acts s calls) w.0 w.1

-- ---- the rules' answer

abbrev sections_in : Answer → List Bytes → List Bytes
sections_in rules.done l = l
sections_in rules.nothing l = l
sections_in (handout w) l = w.sections
sections_in (rules.schedule g) l = l
sections_in (rules.refused r) l = l

-- where the rules hand out a set, a set is told, and what a host reads out of its row are the rules' sections
pub read_as_ruled : (s : Store) → Opened s → (calls : List Given) → EachFitting calls → (input : ℕ) (pid : Option ℕ) (bytes : Bytes) → ((i : ℕ) → get_or bytes i 0 < 256) → (w : WholeOf Bytes)
    → call_tells (seen (store_after acts s calls)) (reads (section input pid bytes)) ≡ handout w
    → (h : SetOut) × ((pushed_of (store_after acts s calls) input pid bytes).told ≡ a_set h)
    × Reads (next_of (pushed_of (store_after acts s calls) input pid bytes).store h.row) (pushed_of (store_after acts s calls) input pid bytes).store.cells 0 w.sections (Ok false)
unfolding tells answer_told
read_as_ruled s o calls f input pid bytes b w e =
    let q = always_whole calls f s (opened_reached s o) (opened_whole s o) in
    let t : Store = store_after acts s calls in
    go (pushed_of t input pid bytes).told refl (tells_seen t q.0 (section input pid bytes) b ∙ e)
  where
    then : Store
    then = (pushed_of (store_after acts s calls) input pid bytes).store

    go : (x : Told) → (pushed_of (store_after acts s calls) input pid bytes).told ≡ x → answer_told x ≡ handout w
        → (h : SetOut) × ((pushed_of (store_after acts s calls) input pid bytes).told ≡ a_set h) × Reads (next_of then h.row) then.cells 0 w.sections (Ok false)
    go done p k = let z : ◌≡◌ {A = ℕ} 0 1 = cc in absurd (omega arith)
    go nothing p k = let z : ◌≡◌ {A = ℕ} 0 1 = cc in absurd (omega arith)
    go (a_set h) p k =
        let d : h.sections ≡ w.sections = ap (λ (a : Answer). sections_in a w.sections) k in
        (h, p, subst (λ (l : List Bytes). Reads (next_of then h.row) then.cells 0 l (Ok false)) d (read_in_every_history s o calls f input pid bytes b h p))
    go (a_schedule g) p k = let z : ◌≡◌ {A = ℕ} 0 1 = cc in absurd (omega arith)
    go (refused r) p k = let z : ◌≡◌ {A = ℕ} 0 1 = cc in absurd (omega arith)
