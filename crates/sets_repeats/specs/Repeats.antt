-- A section that the set collector has already, whose push tells 4 and touches its row, and nothing else; and a list that begins with such sections.
-- Assumes nothing.
use Rattle.std.specs.Prelude.{ℕ, ◌+◌, ◌≤◌, ◌<◌, ◌≡◌, ◌≢◌, List, false, length, get_or, Option, Some}
use Rattle.rows.specs.Rows.{touched}
use Rattle.rows.specs.declared.Entry.{Entry}
use Rattle.columns.specs.Columns.{Tells}
use Rattle.without_pid.specs.Pids.{without_pid}
use Rattle.store.specs.Store.{Store, store, risen_sets, Whole}
use Rattle.store.specs.declared.Sets.{Sets}
use Rattle.sets_settle.specs.Settle.{nothing, after}
use Rattle.sets_push.specs.Pushing.{whole_pushed}
use Rattle.sets.specs.Store.{pushed_of}
use Rattle.rules_logs.specs.Records.{Bytes}
use Rattle.rules_logs.specs.Sections.{Given}
use Rattle.log_list.specs.List.{given_at, PlacedAt}
use Rattle.log_list.specs.declared.Place.{Place}

-- what holds from one such section to the next: the store is whole, every row in use has a PID, and the column has the tag of each
pub record Searchable (s : Sets) (heads slots cells tags : List ℕ) : Type 0 where
  pub whole : Whole s heads slots cells
  pub pids : without_pid heads s.used ≡ false
  pub long : s.used ≤ length tags
  pub tells : Tells tags heads s.used

-- row i is touched
abbrev pub touched_in : Store → ℕ → Store
touched_in s i = store (risen_sets s.sets) (touched (s.sets.clock + 1) i s.heads) s.slots s.cells

-- of a section that arrived: its push only touches this row, which is in use
pub record Known (s : Store) (e : Entry) (bytes : List ℕ) (i : ℕ) : Type 0 where
  pub row : i < s.sets.used
  pub touches : whole_pushed s e bytes ≡ after nothing (touched_in s i)

-- of a section as it is offered
pub record Repeat (s : Store) (input : ℕ) (pid : Option ℕ) (bytes : List ℕ) (i : ℕ) : Type 0 where
  pub row : i < s.sets.used
  pub runs : s.sets.clock ≢ 18446744073709551615
  pub byte : get_or bytes 7 0 < 256
  pub pushed : after nothing (touched_in s i) ≡ pushed_of s input pid bytes

-- of a section of a list
abbrev pub RepeatGiven : Store → Given → ℕ → Type 0
RepeatGiven s g i = Repeat s g.input (Some g.pid) g.section i

-- the sections of the list before place p were pushed one by one, from the store s₀ on, and each told 4
pub data Passed (list : Bytes) (s₀ : Store) : ℕ → Store → Type 0 where
  start : Passed list s₀ 0 s₀
  next : {p : ℕ} {s : Store} → Passed list s₀ p s → (r : Place) → PlacedAt list p r → (t : Store)
      → after nothing t ≡ pushed_of s r.input (Some r.pid) (given_at list r).section → Passed list s₀ (r.start + r.length) t
