-- What pushing is made of, for every content of the lent memory (docs/RULES.md, "Collectors" and "Answers"). `cond test a b` is a where the test
-- is true, else b.
use Rattle.std.specs.Prelude.{ℕ, List, cond, Option, Result, Ok, Err}
use Rattle.answers.specs.declared.Refusal.TheVariants.{NotWhole, CounterFull, NoPid}
use Rattle.answers.specs.declared.Refusal.{Refusal}
use Rattle.rows.specs.declared.Entry.{Entry}
use Rattle.without_pid.specs.Pids.{without_pid}
use Rattle.store.specs.Store.{Store, whole_of, counters_full}
use Rattle.arrivals.specs.Arrivals.{set_arrival, Taken}
use Rattle.sets_plan.specs.Plan.{plan_of, Ready}
use Rattle.sets_settle.specs.Settle.{SetsAfter, carried}

-- a section that arrived, into a store that is whole
unfoldable pub whole_pushed : Store → Entry → List ℕ → SetsAfter
whole_pushed s e bytes = carried s bytes (plan_of s e bytes)

-- 10, 11, 41 where a row has no PID, then what the section's PID (41 where it has none) and bytes say
unfoldable pub admitted : Store → (input : ℕ) → Option ℕ → List ℕ → Result Entry Refusal
admitted s input pid bytes =
    cond (whole_of s)
    (cond (counters_full s.sets) (Err CounterFull)
    (cond (without_pid s.heads s.sets.used) (Err NoPid) (set_arrival input pid bytes)))
    (Err NotWhole)

-- what holds of the store and of the section where it was admitted
abbrev pub AdmittedOk : Store → List ℕ → Result Entry Refusal → Type 0
AdmittedOk s bytes (Err r) = Unit {0}
AdmittedOk s bytes (Ok e) = Ready s × Taken bytes e
