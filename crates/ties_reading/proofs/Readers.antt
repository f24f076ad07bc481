-- The reader struct: over the slots that it is given of a row, it hands out what is read by asking, for every content of the lent memory; so after an answer 5
-- or 6, in every history, the sections that were handed out, byte for byte, and then an empty part.
-- Assumes nothing.
use Prim.Native.Nat.{ℕ, ◌+◌, ◌*◌, ◌≤◌, ◌<◌}
use mathlib.Core.Path.{◌≡◌, refl, sym, ap, ◌∙◌, subst}
use mathlib.Core.Logic.{◌≢◌}
use native.Mathlib.Omega.{arith}
use mathlib.Core.List.{List, [], ◌∷◌}
use mathlib.Core.Bool.{Bool, true, false, cond}
use lib.ListN.{length, get_or}
use lib.Dec.{ltb}
use borrow.Author.Tests.{ltb-true}
use Rattle.laws.specs.Runs.{At, store_after}
use Rattle.answers.specs.declared.Refusal.{Refusal}
use Rattle.answers.specs.declared.Refusal.TheVariants as refusal
use Rattle.answers.specs.Answers.{Reply}
use Rattle.std.specs.Prelude.{Option, Ok, Err}
use Rattle.cells.specs.Cells.{all_whole}
use Rattle.rows.specs.Rows.{row_slots}
use Rattle.rows.proofs.Whole.{rows_get}
use Rattle.without_pid.specs.Pids.{without_pid}
use Rattle.store.specs.Store as sets_store
use Rattle.store.proofs.Whole.{whole_means}
use Rattle.units.specs.Units.{is_present, unit_slots}
use Rattle.schedules.specs.Schedules.{tables_of}
use Rattle.readers.specs.Next.{no_section}
use Rattle.readers.specs.Reader.{begun}
use Rattle.readers.specs.declared.Next.{Next}
use Rattle.reading.specs.Reading.{asks, Reads, ends, goes_on, HandsOut}
use Rattle.reading.proofs.Reading.{no≢yes}
use Rattle.reading.proofs.Reader.{reader_hands, none_handed}
use Rattle.reader_rows.specs.Rows.{set_slots, eit_slots, unit_taken, table_slots}
use Rattle.sets.specs.Store as sets
use Rattle.sets.specs.History as set_history
use Rattle.sets_settle.specs.Settle as settle
use Rattle.eit_state.specs.State as eit_store
use Rattle.eit_state.proofs.Whole.{whole_store}
use Rattle.eit_pids.specs.Rows.{any_without}
use Rattle.eit_next.specs.Following.{unit_next}
use Rattle.eit.specs.Store as eit
use Rattle.ties_eit.specs.View.{Given, acts, Opened}
use Rattle.ties_eit.proofs.History.{EachFitting}
use Rattle.ties_reading.proofs.Sets as of_sets
use Rattle.ties_reading.proofs.Eit as of_eit
use Rattle.ties_reading.proofs.Schedules as of_schedules

-- ---- any rows

-- where the first answer is not yes, nothing is read, and nothing is handed out
none_read : (ask : ℕ → Next) (cells : List ℕ) (size : ℕ) (a : Reply) → ask 0 ≡ no_section a → a ≢ (Ok true) → {parts : List (List ℕ)} {last : Reply} → Reads ask cells 0 parts last
    → HandsOut size [] (begun cells) parts
none_read ask cells size a e n (ends m) = none_handed size (begun cells)
none_read ask cells size a e n (goes_on y r) = absurd (n (sym (ap (λ (x : Next). x.answer) e) ∙ y))

-- where the questions are those about some slots, all of them whole
same_read : (ask : ℕ → Next) (count size : ℕ) (cells slots : List ℕ) → ((from : ℕ) → ask from ≡ asks size slots from) → (size ≤ 4096) → all_whole count size slots ≡ true → count * size ≤ length cells
    → {parts : List (List ℕ)} {last : Reply} → Reads ask cells 0 parts last → HandsOut size slots (begun cells) parts
same_read ask count size cells slots e small whole room {parts = parts} {last = last} r =
    reader_hands size slots small count cells whole room [] (subst (λ (f : ℕ → Next). Reads f cells 0 parts last) (λ i from. e from i) r)

refused≢yes : (r : Refusal) → Err r ≢ (Ok true)
refused≢yes r e = let z : ◌≡◌ {A = ℕ} 0 1 = cc in omega arith

-- ---- a set

pub set_reader : (s : sets_store.Store) (row : ℕ) {parts : List (List ℕ)} {last : Reply} → Reads (sets.next_of s row) s.cells 0 parts last
    → HandsOut s.sets.size (set_slots s row) (begun s.cells) parts
unfolding set_slots sets.next_of
set_reader s row {parts = parts} {last = last} r = go (sets_store.whole_of s) refl (without_pid s.heads s.sets.used) refl (ltb row s.sets.used) refl
  where
    go : (b : Bool) → sets_store.whole_of s ≡ b → (n : Bool) → without_pid s.heads s.sets.used ≡ n → (c : Bool) → ltb row s.sets.used ≡ c → HandsOut s.sets.size (set_slots s row) (begun s.cells) parts
    go true e false n true h =
        let w = whole_means s e in
        let q : set_slots s row ≡ row_slots s.heads s.slots row = rw (e, n, h) refl in
        subst (λ (l : List ℕ). HandsOut s.sets.size l (begun s.cells) parts) (sym q)
        (same_read (sets.next_of s row) s.sets.count s.sets.size s.cells (row_slots s.heads s.slots row) (λ from. rw (e, n, h) refl) w.size_high
        (rows_get s.heads s.slots s.sets.count s.sets.size s.sets.used row w.rows (ltb-true row s.sets.used h)) w.cells_long r)
    go true e false n false h =
        subst (λ (l : List ℕ). HandsOut s.sets.size l (begun s.cells) parts) (sym (rw (e, n, h) refl)) (none_read (sets.next_of s row) s.cells s.sets.size (Ok false) (rw (e, n, h) refl) no≢yes r)
    go true e true n c h =
        subst (λ (l : List ℕ). HandsOut s.sets.size l (begun s.cells) parts) (sym (rw (e, n) refl))
        (none_read (sets.next_of s row) s.cells s.sets.size (Err refusal.NoPid) (rw (e, n) refl) (refused≢yes refusal.NoPid) r)
    go false e m n c h =
        subst (λ (l : List ℕ). HandsOut s.sets.size l (begun s.cells) parts) (sym (rw e refl)) (none_read (sets.next_of s row) s.cells s.sets.size (Err refusal.NotWhole) (rw e refl) (refused≢yes refusal.NotWhole) r)

-- after an answer 5, in every history from an opening on
pub set_handed : (s : sets_store.Store) → set_history.OpenedStore s → (calls : List set_history.Call) → set_history.AllBytes calls → (input : ℕ) (pid : Option ℕ) (bytes : List ℕ) → get_or bytes 7 0 < 256 → (h : settle.Handed)
    → (sets.pushed_of (set_history.after_all s calls) input pid bytes).told ≡ settle.handed h
    → HandsOut (sets.pushed_of (set_history.after_all s calls) input pid bytes).store.sets.size (set_slots (sets.pushed_of (set_history.after_all s calls) input pid bytes).store h.row)
    (begun (sets.pushed_of (set_history.after_all s calls) input pid bytes).store.cells) h.sections
set_handed s o calls a input pid bytes b h e = set_reader (sets.pushed_of (set_history.after_all s calls) input pid bytes).store h.row (of_sets.read_in_every_history s o calls a input pid bytes b h e)

-- ---- an EIT set

pub eit_reader : (s : eit_store.Store) (row : ℕ) {parts : List (List ℕ)} {last : Reply} → Reads (eit.next_of s row) s.cells 0 parts last
    → HandsOut s.eit.sets.size (eit_slots s row) (begun s.cells) parts
unfolding eit_slots eit.next_of
eit_reader s row {parts = parts} {last = last} r = go (eit_store.whole_of s) refl (any_without s.eit s.heads s.schedule_heads) refl (ltb row s.eit.sets.used) refl
  where
    go : (b : Bool) → eit_store.whole_of s ≡ b → (n : Bool) → any_without s.eit s.heads s.schedule_heads ≡ n → (c : Bool) → ltb row s.eit.sets.used ≡ c → HandsOut s.eit.sets.size (eit_slots s row) (begun s.cells) parts
    go true e false n true h =
        let w = (whole_store s e).sets in
        let q : eit_slots s row ≡ row_slots s.heads s.slots row = rw (e, n, h) refl in
        subst (λ (l : List ℕ). HandsOut s.eit.sets.size l (begun s.cells) parts) (sym q)
        (same_read (eit.next_of s row) s.eit.sets.count s.eit.sets.size s.cells (row_slots s.heads s.slots row) (λ from. rw (e, n, h) refl) w.size_high
        (rows_get s.heads s.slots s.eit.sets.count s.eit.sets.size s.eit.sets.used row w.rows (ltb-true row s.eit.sets.used h)) w.cells_long r)
    go true e false n false h =
        subst (λ (l : List ℕ). HandsOut s.eit.sets.size l (begun s.cells) parts) (sym (rw (e, n, h) refl)) (none_read (eit.next_of s row) s.cells s.eit.sets.size (Ok false) (rw (e, n, h) refl) no≢yes r)
    go true e true n c h =
        subst (λ (l : List ℕ). HandsOut s.eit.sets.size l (begun s.cells) parts) (sym (rw (e, n) refl))
        (none_read (eit.next_of s row) s.cells s.eit.sets.size (Err refusal.NoPid) (rw (e, n) refl) (refused≢yes refusal.NoPid) r)
    go false e m n c h =
        subst (λ (l : List ℕ). HandsOut s.eit.sets.size l (begun s.cells) parts) (sym (rw e refl)) (none_read (eit.next_of s row) s.cells s.eit.sets.size (Err refusal.NotWhole) (rw e refl) (refused≢yes refusal.NotWhole) r)

-- after an answer 5, in every history from an opening on
pub eit_handed : (s : eit_store.Store) → Opened s → (calls : List Given) → EachFitting calls → (input : ℕ) (pid : Option ℕ) (bytes : List ℕ) → ((i : ℕ) → get_or bytes i 0 < 256) → (h : eit.SetOut)
    → (eit.pushed_of (store_after acts s calls) input pid bytes).told ≡ eit.a_set h
    → HandsOut (eit.pushed_of (store_after acts s calls) input pid bytes).store.eit.sets.size (eit_slots (eit.pushed_of (store_after acts s calls) input pid bytes).store h.row)
    (begun (eit.pushed_of (store_after acts s calls) input pid bytes).store.cells) h.sections
eit_handed s o calls f input pid bytes b h e = eit_reader (eit.pushed_of (store_after acts s calls) input pid bytes).store h.row (of_eit.read_in_every_history s o calls f input pid bytes b h e)

-- ---- a table of a schedule

pub table_reader : (s : eit_store.Store) (row table : ℕ) {parts : List (List ℕ)} {last : Reply} → Reads (eit.next_in_of s row table) s.cells 0 parts last
    → HandsOut s.eit.sets.size (table_slots s row table) (begun s.cells) parts
unfolding table_slots unit_taken eit.next_in_of unit_next
table_reader s row table {parts = parts} {last = last} r =
    go (eit_store.whole_of s) refl (any_without s.eit s.heads s.schedule_heads) refl (ltb row s.eit.schedules) refl (ltb table (tables_of s.schedule_heads row)) refl (is_present s.units (row * 16 + table)) refl
  where
    Handed : Type 0
    Handed = HandsOut s.eit.sets.size (table_slots s row table) (begun s.cells) parts

    none : (a : Reply) → a ≢ (Ok true) → table_slots s row table ≡ [] → eit.next_in_of s row table 0 ≡ no_section a → Handed
    none a n q e = subst (λ (l : List ℕ). HandsOut s.eit.sets.size l (begun s.cells) parts) (sym q) (none_read (eit.next_in_of s row table) s.cells s.eit.sets.size a e n r)

    go : (b : Bool) → eit_store.whole_of s ≡ b → (m : Bool) → any_without s.eit s.heads s.schedule_heads ≡ m → (c : Bool) → ltb row s.eit.schedules ≡ c → (d : Bool) → ltb table (tables_of s.schedule_heads row) ≡ d
        → (p : Bool) → is_present s.units (row * 16 + table) ≡ p → Handed
    go true e false m true h true g true k =
        let w = (whole_store s e).sets in
        let q : table_slots s row table ≡ unit_slots s.units (row * 16 + table) = rw (e, m, h, g, k) refl in
        subst (λ (l : List ℕ). HandsOut s.eit.sets.size l (begun s.cells) parts) (sym q)
        (same_read (eit.next_in_of s row table) s.eit.sets.count s.eit.sets.size s.cells (unit_slots s.units (row * 16 + table)) (λ from. rw (e, m, h, g, k) refl) w.size_high
        (of_schedules.table_whole s e row table (ltb-true row s.eit.schedules h) (ltb-true table (tables_of s.schedule_heads row) g) k) w.cells_long r)
    go true e false m true h true g false k = none (Ok false) no≢yes (rw (e, m, h, g, k) refl) (rw (e, m, h, g, k) refl)
    go true e false m true h false g p k = none (Ok false) no≢yes (rw (e, m, h, g) refl) (rw (e, m, h, g) refl)
    go true e false m false h d g p k = none (Ok false) no≢yes (rw (e, m, h) refl) (rw (e, m, h) refl)
    go true e true m c h d g p k = none (Err refusal.NoPid) (refused≢yes refusal.NoPid) (rw (e, m) refl) (rw (e, m) refl)
    go false e l m c h d g p k = none (Err refusal.NotWhole) (refused≢yes refusal.NotWhole) (rw e refl) (rw e refl)

-- after an answer 6, in every history from an opening on: of table j the sections of the j-th table that was handed out; past the last one nothing
pub record HandsSchedule (t : eit_store.Store) (g : eit.ScheduleOut) : Type 0 where
  pub tables : (j : ℕ) (x : eit.TableOut) → At g.tables j x → HandsOut t.eit.sets.size (table_slots t g.row j) (begun t.cells) x.sections
  pub past : (j : ℕ) → length g.tables ≤ j → HandsOut t.eit.sets.size (table_slots t g.row j) (begun t.cells) []

pub schedule_handed : (s : eit_store.Store) → Opened s → (calls : List Given) → EachFitting calls → (input : ℕ) (pid : Option ℕ) (bytes : List ℕ) → ((i : ℕ) → get_or bytes i 0 < 256) → (g : eit.ScheduleOut)
    → (eit.pushed_of (store_after acts s calls) input pid bytes).told ≡ eit.a_schedule g → HandsSchedule (eit.pushed_of (store_after acts s calls) input pid bytes).store g
schedule_handed s o calls f input pid bytes b g e =
    let t : eit_store.Store = (eit.pushed_of (store_after acts s calls) input pid bytes).store in
    let r = of_schedules.read_in_every_history s o calls f input pid bytes b g e in
    record { tables = λ j x a. table_reader t g.row j (r.tables j x a); past = λ j l. table_reader t g.row j (r.past j l) }
