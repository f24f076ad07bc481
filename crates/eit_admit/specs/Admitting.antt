-- Whether a call goes on, and what holds then, for every content of the lent memory (docs/RULES.md, "Answers"). `cond test a b` is a where the
-- test is true, else b.
use Rattle.std.specs.Prelude.{ℕ, List, cond, Option, Result, Ok, Err}
use Rattle.answers.specs.declared.Refusal.TheVariants as refusal
use Rattle.answers.specs.declared.Refusal.{Refusal}
use Rattle.arrivals.specs.Arrivals.{Numbered, eit_arrival}
use Rattle.arrivals.specs.declared.Arrival.{Arrival}
use Rattle.eit_state.specs.State.{Store, whole_of, counters_full, Whole, CanCount}
use Rattle.eit_pids.specs.Rows.{any_without}
use Rattle.eit_drop.specs.declared.Filter.{Filter}
use Rattle.filter.specs.declared.Fields.{Fields}
use Rattle.eit_drop.specs.Drop.{drop_wanted}

-- 10, then 11, then 41 where a set or a schedule has no PID, then what the section's PID (41, 12, 37) and its bytes (14 to 19) say
unfoldable pub admitted : Store → (input : ℕ) → Option ℕ → (bytes : List ℕ) → Result Arrival Refusal
admitted s input pid bytes =
    cond (whole_of s)
    (cond (counters_full s.eit) (Err refusal.CounterFull)
    (cond (any_without s.eit s.heads s.schedule_heads) (Err refusal.NoPid) (eit_arrival input pid bytes)))
    (Err refusal.NotWhole)

-- what holds where a section was admitted
pub record Admission (s : Store) (a : Arrival) : Type 0 where
  pub whole : Whole s
  pub numbered : Numbered a.entry
  pub counts : CanCount s.eit

abbrev pub Admitted : Store → Result Arrival Refusal → Type 0
Admitted s (Err r) = Unit {0}
Admitted s (Ok a) = Admission s a

-- of a filter: 10, then 41 where a set or a schedule has no PID, then what it is refused with (41, 12, 37)
unfoldable pub drop_of : Store → Filter → Result Fields Refusal
drop_of s f = cond (whole_of s) (cond (any_without s.eit s.heads s.schedule_heads) (Err refusal.NoPid) (drop_wanted f)) (Err refusal.NotWhole)

abbrev pub DropOk : Store → Result Fields Refusal → Type 0
DropOk s (Err r) = Unit {0}
DropOk s (Ok f) = Whole s
