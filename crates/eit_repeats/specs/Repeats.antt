-- Sections that are there already and only make their sets the newest: 4, and nothing but a tick and the clock changes (docs/RULES.md, "Collectors").
-- Assumes nothing.
use Rattle.std.specs.Prelude.{ℕ, ◌≤◌, ◌<◌, ◌≡◌, false, List, length, get_or, Option, Some, Ok}
use Rattle.columns.specs.Columns.{Tells}
use Rattle.store.specs.Store as sets
use Rattle.store.specs.declared.Sets.{Sets}
use Rattle.arrivals.specs.Arrivals.{eit_arrival}
use Rattle.arrivals.specs.declared.Arrival.{Arrival}
use Rattle.placing.specs.Places.{place_of}
use Rattle.placing.specs.declared.Place.TheVariants as place
use Rattle.eit_becomes.specs.Becoming.{becomes_of}
use Rattle.eit_becomes.specs.declared.Becomes.TheVariants as becomes
use Rattle.eit_state.specs.State.{store, counters_full}
use Rattle.eit_state.specs.declared.Eit.{Eit}
use Rattle.eit_ready.specs.Ready.{Pushable}
use Rattle.rules_logs.specs.Records.{Bytes}
use Rattle.rules_logs.specs.Sections.{Given}
use Rattle.log_list.specs.List.{givens_from, WholeFrom}
use Rattle.eit_each.specs.Each.{pushed_each}

-- the sets are whole, and a column has the tag of each that is in use
pub record Searchable (s : Sets) (heads slots cells tags : List ℕ) : Type 0 where
  pub whole : sets.Whole s heads slots cells
  pub long : s.used ≤ length tags
  pub tells : Tells tags heads s.used

-- a section that arrived so is in row i already, and its set stays as it is
pub record Known (s : Sets) (heads slots cells bytes : List ℕ) (a : Arrival) (i : ℕ) : Type 0 where
  pub row : i < s.used
  pub fits : length bytes ≤ s.size
  pub same : place.Repeat i ≡ place_of (sets.store s heads slots cells) a.entry bytes
  pub stays : becomes.Stays ≡ becomes_of heads slots a i

-- a section as it is offered only touches row i
pub record Repeat (e : Eit) (heads slots cells : List ℕ) (input : ℕ) (pid : Option ℕ) (bytes : List ℕ) (i : ℕ) : Type 0 where
  pub counts : counters_full e ≡ false
  pub a : Arrival
  pub arrived : eit_arrival input pid bytes ≡ Ok a
  pub byte : get_or bytes 7 0 < 256
  pub known : Known e.sets heads slots cells bytes a i

-- so a section of a list
abbrev pub RepeatGiven : Eit → (heads slots cells : List ℕ) → Given → ℕ → Type 0
RepeatGiven e heads slots cells g i = Repeat e heads slots cells g.input (Some g.pid) g.section i

-- the sections before place p are pushed: what is left gives what the whole list gives, whatever the schedules are
pub record Passed (list : Bytes) (slots cells : List ℕ) (e : Eit) (heads : List ℕ) (e' : Eit) (heads' : List ℕ) (p : ℕ) : Type 0 where
  pub behind : WholeFrom list p
  pub stays : (t u : List ℕ) → Pushable (store e heads slots cells t u) → Pushable (store e' heads' slots cells t u)
  pub gives : (t u : List ℕ) → Pushable (store e heads slots cells t u) → pushed_each p (store e' heads' slots cells t u) (givens_from list p) ≡ pushed_each 0 (store e heads slots cells t u) (givens_from list 0)
