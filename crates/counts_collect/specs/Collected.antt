-- What `counts` does with a section that the gate answered 1 or 2: it goes to the EIT collector where it has the table_id of an EIT, else to the set collector, and what
-- that answers is counted. `cond test a b` is a where the test is true, else b.
-- Assumes nothing.
use Rattle.std.specs.Prelude.{ℕ, List, Bool, cond, false, ◌&&◌, eqb, leb, length, get_or, Some}
use Rattle.store.specs.Store as sets_memory
use Rattle.sets_settle.specs.Settle as set_told
use Rattle.sets.specs.Store as sets
use Rattle.eit_state.specs.State as eit_memory
use Rattle.eit.specs.Store as eit
use Rattle.tallies.specs.Columns.{set_refusal, eit_refusal, counted_in}

-- both collectors with the content of the lent slices, and the counts
pub record Held : Type 0 where
  pub sets : sets_memory.Store
  pub eit : eit_memory.Store
  pub tally : List ℕ

abbrev pub held : sets_memory.Store → eit_memory.Store → List ℕ → Held
held s e t = record { sets = s; eit = e; tally = t }

-- ---- what an answer counts

abbrev pub set_told_of : set_told.Told → ℕ
set_told_of set_told.done = 10
set_told_of set_told.nothing = 10
set_told_of (set_told.handed x) = 1
set_told_of (set_told.refused r) = set_refusal r

abbrev pub eit_told : eit.Told → ℕ
eit_told eit.done = 10
eit_told eit.nothing = 10
eit_told (eit.a_set x) = 4
eit_told (eit.a_schedule x) = 5
eit_told (eit.refused r) = eit_refusal r

-- ---- a section

-- a collector and the counts
pub record SetSide : Type 0 where
  pub store : sets_memory.Store
  pub tally : List ℕ

pub record EitSide : Type 0 where
  pub store : eit_memory.Store
  pub tally : List ℕ

abbrev pub set_side : sets_memory.Store → (tally : List ℕ) → SetSide
set_side s tally = record { store = s; tally = tally }

abbrev pub eit_side : eit_memory.Store → (tally : List ℕ) → EitSide
eit_side e tally = record { store = e; tally = tally }

-- what pushing it left, and the column of what that told counted
abbrev pub set_after : set_told.SetsAfter → (tally : List ℕ) → SetSide
set_after a tally = set_side a.store (counted_in tally (set_told_of a.told))

abbrev pub eit_after : eit.After → (tally : List ℕ) → EitSide
eit_after a tally = eit_side a.store (counted_in tally (eit_told a.told))

unfoldable pub set_counted : SetSide → (pid : ℕ) → (section : List ℕ) → SetSide
set_counted x pid section = set_after (sets.pushed_of x.store 0 (Some pid) section) x.tally

unfoldable pub eit_counted : EitSide → (pid : ℕ) → (section : List ℕ) → EitSide
eit_counted x pid section = eit_after (eit.pushed_of x.store 0 (Some pid) section) x.tally

abbrev pub with_sets : Held → SetSide → Held
with_sets h x = held x.store h.eit x.tally

abbrev pub with_eit : Held → EitSide → Held
with_eit h x = held h.sets x.store x.tally

-- EN 300 468, table 2: 0x4E to 0x6F
unfoldable pub is_eit : List ℕ → Bool
is_eit section = cond (eqb (length section) 0) false (leb 0x4E (get_or section 0 0) && leb (get_or section 0 0) 0x6F)

unfoldable pub collected : Held → (pid : ℕ) → (section : List ℕ) → Held
collected h pid section =
    cond (is_eit section) (with_eit h (eit_counted (eit_side h.eit h.tally) pid section)) (with_sets h (set_counted (set_side h.sets h.tally) pid section))
