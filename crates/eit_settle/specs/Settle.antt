-- A row becomes the newest, and what becomes of its set is done (docs/RULES.md, "Collectors"): for every content of the lent memory.
-- `cond test a b` is a where the test is true, else b.
use Rattle.std.specs.Prelude.{ℕ, List, Bool, cond}
use Rattle.answers.specs.declared.Refusal.TheVariants as refusal
use Rattle.rows.specs.Rows.{touched, with_mark}
use Rattle.arrivals.specs.declared.Arrival.{Arrival}
use Rattle.eit_state.specs.declared.PushAnswer.{PushAnswer}
use Rattle.eit_state.specs.declared.PushAnswer.TheVariants as answer
use Rattle.eit_state.specs.State.{Rows, rows}
use Rattle.eit_becomes.specs.declared.Becomes.{Becomes}
use Rattle.eit_becomes.specs.declared.Becomes.TheVariants as becomes
use Rattle.eit_becomes.specs.Becoming.{becomes_of, is_marked}
use Rattle.eit_enter.specs.Entering.{Settled, entered}

-- the answer to a section in conflict
abbrev pub conflicting : PushAnswer
conflicting = answer.Refused refusal.Conflict

abbrev pub marked_heads : Bool → ℕ → List ℕ → List ℕ
marked_heads b i heads = cond b (with_mark i 1 heads) heads

-- what becomes of the set in row i, done: it enters its schedule, or it stays in its row with an answer
abbrev pub settled_as : Becomes → Rows → Arrival → ℕ → Settled
settled_as becomes.Stays r a i = record { answer = answer.Nothing; rows = r }
settled_as becomes.GoesOut r a i = record { answer = answer.Set i; rows = r }
settled_as becomes.OutOfRange r a i = record { answer = answer.Refused refusal.Range; rows = r }
settled_as becomes.Enters r a i = entered r a i

-- row i becomes the newest, by the clock that has risen, and what becomes of its set is done
unfoldable pub settled : Rows → Arrival → ℕ → Settled
settled r a i =
    let heads : List ℕ = touched r.eit.sets.clock i r.heads in
    let b : Becomes = becomes_of heads r.slots a i in
    settled_as b (rows r.eit (marked_heads (is_marked b) i heads) r.slots r.schedule_heads r.units) a i
